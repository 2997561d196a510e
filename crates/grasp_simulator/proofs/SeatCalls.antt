-- What the calls of the code make of a node with its agent.
use Rattle.std.proofs.Common.{◌≡◌, ℕ, false, sym, ◌∙◌, ap, subst, List}
use Rattle.grasp_agent.specs.Calls.{next_call}
use Rattle.grasp_agent.specs.Replies.{after_reply}
use Rattle.grasp_agent.specs.States.{AgentState}
use Rattle.grasp_model_node.specs.Begin.{begin}
use Rattle.grasp_core.specs.Contract.{Meeting, Meets, Stepped}
use Rattle.grasp_model_node.specs.Draining.{drained}
use Rattle.grasp_model_node.specs.Node.{NodeState}
use Rattle.grasp_core.specs.Stands.{NodeStands}
use Rattle.grasp_model_node.specs.Step.{IsComing, NodeStep}
use Rattle.grasp_model_node.specs.declared.plan.NodePlan.{NodePlan}
use Rattle.grasp_pool.specs.Holdings.{Holding}
use Rattle.grasp_core.specs.declared.node_core.NodeCore.{NodeCore}
use Rattle.grasp_types.specs.declared.call.Call.{Call}
use Rattle.grasp_types.specs.declared.reply.Reply.{Reply}
use Rattle.grasp_types.specs.declared.reply.Reply.TheVariants.{Outputs}
use Rattle.grasp_types.specs.declared.traffic.Output.{Output}
use Rattle.grasp_types.specs.declared.traffic.Input.{Input}
use Rattle.grasp_types.specs.declared.traffic.Input.TheVariants as input
use Rattle.grasp_model_network.specs.EventSteps.{agent_input}
use Rattle.grasp_model_network.specs.Openings.{fresh_seat, opened_seat}
use Rattle.grasp_simulator.specs.Seats.{SeatStands, Sitting, SeatMeets, SeatStepped, AgentStepped, clocked, drained_seat}
use Rattle.grasp_model_network.specs.Visits.{is_starved}
use Rattle.grasp_model_network.specs.World.{Seat}
use Rattle.grasp_simulator.specs.declared.seat.Seat.{Seat as SeatCode}
use Rattle.grasp_simulator.proofs.SeatSteps.{nothing_comes, drain_of_nothing, registered, declared, registers, declares, listens}

-- a step at the reading that the code tells is one at the node's own
pub seat_steps : (old new : SeatCode) (now : ℕ) (i : Input) (r : Reply) → ((n : NodeState) → NodeStands old.core n → now ≡ n.reading) → ((m : Meeting) → Meets old.core now i m → Stepped new.core now i m r) → new.agent ≡ old.agent
    → (x : Sitting) → SeatMeets old i x → SeatStepped new i x r
seat_steps old new now i r reads steps same x meets =
    let m : Meeting = record { node = x.seat.core; coming = x.coming } in
    let e : now ≡ x.seat.core.reading = reads x.seat.core meets.stands.core in
    let met : Meets old.core now i m = record { stands = meets.stands.core; comes = subst (λ (t : ℕ). IsComing (begin x.seat.core t) i x.coming) (sym e) meets.comes } in
    let done : Stepped new.core now i m r = steps m met in
    record {
      after = done.after;
      steps = subst (λ (t : ℕ). NodeStep x.seat.core t i x.coming r done.after) e done.steps;
      stands = record { core = done.stands; agent = same ∙ meets.stands.agent };
    }

-- a step of the agent's next call, whose reply the agent takes
pub agent_steps : (old mid new : SeatCode) (asa : ℕ) (call made : Call) (r : Reply) → call ≡ next_call old.agent → made ≡ call → asa ≡ old.agent.asa
    → ((x : Sitting) → SeatMeets old (input.Api asa made) x → SeatStepped mid (input.Api asa made) x r) → is_starved r ≡ false → new.core ≡ mid.core → new.agent ≡ after_reply mid.agent r
    → (x : Sitting) → SeatStands old x.seat → AgentStepped new x call r
agent_steps old mid new asa call made r calls copied number steps fed core takes x stands =
    let done : SeatStepped mid (input.Api asa made) x r = steps x (record { stands = stands; comes = tt }) in
    let a : AgentState = x.seat.agent in
    let next : call ≡ next_call a = calls ∙ ap next_call stands.agent in
    let own : asa ≡ a.asa = number ∙ ap (λ (s : AgentState). s.asa) stands.agent in
    let same : input.Api asa made ≡ agent_input a = ap (λ (n : ℕ). input.Api n made) own ∙ ap (input.Api a.asa) (copied ∙ next) in
    record {
      calls = next;
      after = done.after;
      steps = subst (λ (i : Input). NodeStep x.seat.core x.seat.core.reading i x.coming r done.after) same done.steps;
      fed = fed;
      stands = record {
        core = subst (λ (n : NodeCore). NodeStands n done.after) (sym core) done.stands.core;
        agent = takes ∙ ap (λ (s : AgentState). after_reply s r) done.stands.agent;
      };
    }

-- a drain of nothing at a reading
pub clock_steps : (old new : SeatCode) (millis : ℕ) (r : Reply) → ((m : Meeting) → Meets old.core millis (input.Drain 0) m → Stepped new.core millis (input.Drain 0) m r) → new.agent ≡ old.agent
    → (s : Seat) → SeatStands old s → SeatStands new (clocked s millis)
clock_steps old new millis r steps same s stands =
    let done = steps (record { node = s.core; coming = nothing_comes }) (record { stands = stands.core; comes = tt }) in
    record {
      core = subst (NodeStands new.core) (drain_of_nothing s.core millis nothing_comes r done.after done.steps) done.stands;
      agent = same ∙ stands.agent;
    }

-- what a drain gives
pub drain_seat : (old new : SeatCode) (max : ℕ) (outputs : List Output) → ((x : Sitting) → SeatMeets old (input.Drain max) x → SeatStepped new (input.Drain max) x (Outputs outputs))
    → (s : Seat) → SeatStands old s → (outputs ≡ drained (begin s.core s.core.reading) max) × SeatStands new (drained_seat s max)
drain_seat old new max outputs steps s stands =
    let done : SeatStepped new (input.Drain max) (record { seat = s; coming = nothing_comes }) (Outputs outputs) = steps (record { seat = s; coming = nothing_comes }) (record { stands = stands; comes = tt }) in
    (done.steps.acts.0, subst (λ (n : NodeState). SeatStands new (record s { core = n })) done.steps.acts.1 done.stands)

-- what three steps of its agent make of a node to which nothing has happened
pub opens : (plan : NodePlan) (pool : Holding) (start one two three : SeatCode) (a b c : Call) (q r s : Reply) → SeatStands start (fresh_seat plan pool) → ((x : Sitting) → SeatStands start x.seat → AgentStepped one x a q) → ((x : Sitting) → SeatStands one x.seat → AgentStepped two x b r)
    → ((x : Sitting) → SeatStands two x.seat → AgentStepped three x c s) → SeatStands three (opened_seat plan pool)
opens plan pool start one two three a b c q r s begins first second third =
    let at : Seat → Sitting = λ seat. record { seat = seat; coming = nothing_comes } in
    let h : AgentStepped one (at (fresh_seat plan pool)) a q = first (at (fresh_seat plan pool)) begins in
    let knows : SeatStands one (registered plan pool) = subst (SeatStands one) (registers plan pool nothing_comes q h.after h.steps h.fed) h.stands in
    let i : AgentStepped two (at (registered plan pool)) b r = second (at (registered plan pool)) knows in
    let names : SeatStands two (declared plan pool) = subst (SeatStands two) (declares plan pool nothing_comes r i.after i.steps i.fed) i.stands in
    let j : AgentStepped three (at (declared plan pool)) c s = third (at (declared plan pool)) names in
    subst (SeatStands three) (listens plan pool nothing_comes s j.after j.steps j.fed) j.stands
