-- Steps of a node with its agent.
use Rattle.std.proofs.Common.{◌≡◌, ◌∙◌, inl, inr, ℕ, refl, sym, ap, subst, Bool, true, false, [], None, Ok, Err}
use Rattle.grasp_agent.specs.Calls.{next_call, agent_name, objective_name}
use Rattle.grasp_agent.specs.Replies.{after_reply}
use Rattle.grasp_model_node.specs.Answered.{IsDone, Is}
use Rattle.grasp_model_node.specs.Begin.{begin, expired}
use Rattle.grasp_model_node.specs.Draining.{drained, after_drain}
use Rattle.grasp_model_node.specs.Moves.{with_reading, with_registrations, with_sessions, with_discoveries, with_floods, begin_closing}
use Rattle.grasp_model_node.specs.Node.{NodeState}
use Rattle.grasp_model_node.specs.Refusals.{MayAnswer, early, nothing_sent}
use Rattle.grasp_model_node.specs.Step.{Coming, NodeStep, MayCall, after_call, Calls}
use Rattle.grasp_model_node.specs.Tests.{register_asa_tests, register_objective_tests, negotiation_tests}
use Rattle.grasp_model_node.specs.declared.plan.NodePlan.{NodePlan}
use Rattle.grasp_laws_node.proofs.Beginning.{drains_nothing}
use Rattle.grasp_pool.specs.Holdings.{Holding}
use Rattle.grasp_types.specs.declared.refusal.ApiRefused.{ApiRefused}
use Rattle.grasp_types.specs.declared.refusal.ApiRefused.TheVariants as refusal
use Rattle.grasp_types.specs.declared.reply.ApiAnswer.{ApiAnswer}
use Rattle.grasp_types.specs.declared.reply.ApiAnswer.TheVariants as answer
use Rattle.grasp_types.specs.declared.reply.Reply.{Reply}
use Rattle.grasp_types.specs.declared.reply.Reply.TheVariants as reply
use Rattle.grasp_types.specs.declared.traffic.Input.TheVariants.{Drain}
use Rattle.grasp_wire.specs.Stream.{waiting}
use Rattle.grasp_model_network.specs.EventSteps.{agent_input}
use Rattle.grasp_model_network.specs.Openings.{fresh_seat, answered_seat, opened_seat}
use Rattle.grasp_model_network.specs.Visits.{is_starved}
use Rattle.grasp_model_network.specs.World.{Seat}

-- what comes with an input that isn't bytes
abbrev pub nothing_comes : Coming
nothing_comes = record { added = record { messages = []; rest = []; kind = waiting }; carried = None }

-- ---- opening calls

-- where no test holds, a call is refused for want of memory alone
only_starved : (holds : ApiRefused → Bool) (S : Type 0) (A : ApiAnswer → Type 0) (e : ApiRefused) → early holds ≡ Ok tt → MayAnswer holds nothing_sent S A (Err e) → e ≡ refusal.OutOfMemory
only_starved holds S A e ok h = elim h [
  | inl f ↦ absurd (cc)
  | inr g ↦ elim g.1 [ inl l ↦ absurd (cc) | inr o ↦ o.1 ]
]

-- a call of which this is the one answer is answered so
answered : (s : Seat) (b : ApiAnswer) (x : Coming) (r : Reply) (after : NodeState) → ((a : ApiAnswer) → MayCall (begin s.core 0) s.agent.asa (next_call s.agent) (Ok a) → a ≡ b)
    → ((e : ApiRefused) → MayCall (begin s.core 0) s.agent.asa (next_call s.agent) (Err e) → e ≡ refusal.OutOfMemory) → Calls (begin s.core 0) s.agent.asa (next_call s.agent) r after → is_starved r ≡ false
    → record s { core = after; agent = after_reply s.agent r } ≡ answered_seat s b
unfolding answered_seat
answered s b x (reply.Api a) after told refused acts fed =
    let same : a ≡ b = told a acts.0 in
    subst (λ (d : ApiAnswer). record s { core = after; agent = after_reply s.agent (reply.Api a) } ≡ record s { core = after_call (begin s.core 0) s.agent.asa (next_call s.agent) (Ok d); agent = after_reply s.agent (reply.Api d) }) same
    (ap (λ (n : NodeState). record s { core = n; agent = after_reply s.agent (reply.Api a) }) acts.1)
answered s b x (reply.Refused e) after told refused acts fed =
    let none : e ≡ refusal.OutOfMemory = refused e acts.0 in
    absurd (let lost : true ≡ false = subst (λ (d : ApiRefused). is_starved (reply.Refused d) ≡ false) none fed in cc)
answered s b x _ after told refused acts fed = absurd acts

-- the step of the agent's next call, at the node's own reading
abbrev pub Makes : Seat → Coming → Reply → NodeState → Type 0
Makes s x r after = NodeStep s.core s.core.reading (agent_input s.agent) x r after

-- the seat after it, where the reply is taken
abbrev pub taken : Seat → Reply → NodeState → Seat
taken s r after = record s { core = after; agent = after_reply s.agent r }

abbrev pub registered : NodePlan → Holding → Seat
registered p h = answered_seat (fresh_seat p h) (answer.Asa 1)

abbrev pub declared : NodePlan → Holding → Seat
declared p h = answered_seat (registered p h) answer.Done

pub registers : (p : NodePlan) (h : Holding) (x : Coming) (r : Reply) (after : NodeState) → Makes (fresh_seat p h) x r after → is_starved r ≡ false → taken (fresh_seat p h) r after ≡ registered p h
unfolding next_call agent_name begin expired with_reading with_registrations with_sessions with_discoveries with_floods begin_closing
registers p h x r after steps fed = answered (fresh_seat p h) (answer.Asa 1) x r after (λ a k. k.2) (λ e k. only_starved (register_asa_tests (begin (fresh_seat p h).core 0) agent_name) ⊥ (Is (answer.Asa 1)) e refl k) steps.acts fed

pub declares : (p : NodePlan) (h : Holding) (x : Coming) (r : Reply) (after : NodeState) → Makes (registered p h) x r after → is_starved r ≡ false → taken (registered p h) r after ≡ declared p h
unfolding answered_seat next_call agent_name objective_name after_reply begin expired with_reading with_registrations with_sessions with_discoveries with_floods begin_closing
declares p h x r after steps fed = answered (registered p h) answer.Done x r after (λ a k. k.2) (λ e k. only_starved (register_objective_tests (begin (registered p h).core 0) 1 objective_name 3) ⊥ IsDone e refl k) steps.acts fed

pub listens : (p : NodePlan) (h : Holding) (x : Coming) (r : Reply) (after : NodeState) → Makes (declared p h) x r after → is_starved r ≡ false → taken (declared p h) r after ≡ opened_seat p h
unfolding opened_seat answered_seat next_call agent_name objective_name after_reply begin expired with_reading with_registrations with_sessions with_discoveries with_floods begin_closing
listens p h x r after steps fed = answered (declared p h) answer.NotYet x r after (λ a k. k.2) (λ e k. only_starved (negotiation_tests (begin (declared p h).core 0) 1 objective_name) (Unit {0}) (Is answer.NotYet) e refl k) steps.acts fed

-- ---- drains

-- a drain of nothing wants no memory
pub drain_of_nothing : (n : NodeState) (now : ℕ) (x : Coming) (r : Reply) (after : NodeState) → NodeStep n now (Drain 0) x r after → after ≡ after_drain (begin n now) 0
drain_of_nothing n now x (reply.Outputs o) after steps = steps.acts.1
drain_of_nothing n now x reply.OutOfMemory after steps = steps.acts.1 ∙ sym (drains_nothing (begin n now))
drain_of_nothing n now x _ after steps = absurd steps.acts

-- a drain that gives what it is to give is a step
pub drain_steps : (n : NodeState) (now max : ℕ) (x : Coming) → NodeStep n now (Drain max) x (reply.Outputs (drained (begin n now) max)) (after_drain (begin n now) max)
drain_steps n now max x = record { is_coming = tt; acts = (refl, refl) }
