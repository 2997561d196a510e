-- In every network that turns lead to, each node keeps and queues nothing but messages in range.
use Rattle.std.proofs.Common.{◌≡◌, refl, sym, subst, arith, ℕ, ◌-◌, ◌≤◌, ◌==◌, Bool, true, false, cond, ◌⊎◌, inl, inr, [], map, slice_get, Option, None, Some, All}
use Rattle.std.specs.Prelude.{replicate}
use Rattle.std.proofs.lemmas.List.Elements.{All-nil, All-replicate}
use Rattle.std.proofs.lemmas.Option.{none-some}
use Rattle.grasp_laws_agent.proofs.LawKept.{kept_event, kept_first, kept_reply}
use Rattle.grasp_agent.proofs.Retiring.{retired_kept}
use Rattle.grasp_agent.proofs.Returning.{kept_settling}
use Rattle.grasp_agent.specs.Kept.{IsKept}
use Rattle.grasp_agent.specs.Replies.{after_reply}
use Rattle.grasp_agent.specs.States.{AgentState}
use Rattle.grasp_model_node.specs.Begin.{begin}
use Rattle.grasp_model_node.specs.Draining.{drained, after_drain}
use Rattle.grasp_model_node.specs.Node.{NodeState, first_node}
use Rattle.grasp_model_node.specs.Queue.{encoding}
use Rattle.grasp_model_node.specs.Step.{Coming, NodeStep}
use Rattle.grasp_model_node.specs.declared.plan.NodePlan.{NodePlan}
use Rattle.grasp_pool.proofs.Opening.{opened_pool}
use Rattle.grasp_pool.specs.Functions.{pool_of, pool_of_image}
use Rattle.grasp_pool.specs.Holdings.{Holding}
use Rattle.grasp_pool.specs.Pools.{IsPool}
use Rattle.grasp_pool.specs.declared.image.PoolImage.{PoolImage}
use Rattle.grasp_types.specs.Prefix.{AddressBlock as Prefix}
use Rattle.grasp_types.specs.declared.reply.ApiAnswer.{ApiAnswer}
use Rattle.grasp_types.specs.declared.reply.ApiAnswer.TheVariants as answer
use Rattle.grasp_types.specs.declared.reply.Reply.{Reply}
use Rattle.grasp_types.specs.declared.reply.Reply.TheVariants as reply
use Rattle.grasp_types.specs.declared.traffic.Input.{Input}
use Rattle.grasp_types.specs.declared.traffic.Input.TheVariants as input
use Rattle.grasp_laws_network.proofs.EachNode.{IsMade, is_made, drain_steps, reached_each}
use Rattle.grasp_laws_network.proofs.Here.{visits_are_here}
use Rattle.grasp_laws_network.proofs.Telling.{one_agent}
use Rattle.grasp_laws_network.proofs.Restarted.{Restarting, restart_seats}
use Rattle.grasp_laws_network.proofs.Settled.{Settling, settle_lives}
use Rattle.grasp_laws_network.proofs.Openings.{worlds_begin}
use Rattle.grasp_laws_node.proofs.PlansStay.{step_plan}
use Rattle.grasp_model_network.proofs.Facts.{numbered_all}
use Rattle.grasp_model_network.specs.EventSteps.{agent_visit, agent_seat, agent_input, datagram_visit}
use Rattle.grasp_model_network.specs.Events.{IsFit, Occurs, visit_of, after_visit}
use Rattle.grasp_model_network.specs.GoodSetting.{IsGoodMember, IsGoodSetting}
use Rattle.grasp_laws_network.specs.Laws.{IsAnswered, OpeningsAreSteps}
use Rattle.grasp_model_network.specs.StreamChanges.{side_named}
use Rattle.grasp_model_network.specs.Runs.{IsReached, first_world}
use Rattle.grasp_model_network.specs.Openings.{fresh_seat, answered_seat, first_seat, opened_seat}
use Rattle.grasp_model_network.specs.Sending as network
use Rattle.grasp_model_network.specs.Sending.{seat_with, drained_at}
use Rattle.grasp_model_network.specs.Setting.{Member, Setting, numbered}
use Rattle.grasp_model_network.specs.Visits.{Visit, Choice, VisitStep, MayCome, no_choice}
use Rattle.grasp_model_network.specs.World.{Seat, SentDatagram, WorldState, present_life, seat_at}
use Rattle.grasp_model_network.specs.declared.event.Event.{Event}
use Rattle.grasp_model_network.specs.declared.event.Event.TheVariants as event
use Rattle.grasp_laws_delivery.proofs.AfterSteps.{seats_stepped, each_seat, each_drained, agent_keeps}
use Rattle.grasp_laws_delivery.proofs.AgentCalls.{agent_call_is, image_pool}
use Rattle.grasp_laws_delivery.proofs.Fine.Cache.{IsKept as IsKeptEntry}
use Rattle.grasp_laws_delivery.proofs.Fine.Registry.{IsEntry}
use Rattle.grasp_laws_delivery.proofs.Fine.Sessions.{IsFine}
use Rattle.grasp_laws_delivery.proofs.Holding.{IsStep, PartsKeep, parts_keep}
use Rattle.grasp_laws_delivery.proofs.Came.Inputs.{IsVisit, seat_visit, at_visit, clock_visit_is, datagram_visit_is, opening_is, piece_is, cut_is}
use Rattle.grasp_laws_delivery.proofs.InRange.Moves.{IsInRange, IsRealPlan, CanSend}
use Rattle.grasp_laws_delivery.proofs.InRange.Nodes.{IsGoodInput, step_real}

-- ---- what is so of each node

pub record IsRealSeat (seat : Seat) : Type 0 where
  pub real : IsInRange seat.core.plan seat.core
  pub agent : IsKept seat.agent

abbrev pub AllReal : WorldState → Type 0
AllReal w = (node : ℕ) (seat : Seat) → seat_at w node ≡ Some seat → IsRealSeat seat

-- the plans of members
plan_is : (limit : ℕ) (m : Member) → 2048 ≤ limit → IsGoodMember limit m → IsRealPlan m.plan
plan_is limit m least good = record { address = good.address; locator = good.locator; least = at_least m.plan.limit limit good.limit_is least } where
  at_least : (a b : ℕ) → a ≡ b → 2048 ≤ b → 2048 ≤ a
  at_least a b e h = omega (arith, e, h)

pub real_plan : (s : Setting) (w : WorldState) → IsReached s w → (node : ℕ) (seat : Seat) → seat_at w node ≡ Some seat → IsRealPlan seat.core.plan
real_plan s w r = reached_each (λ k n. IsRealPlan n.plan) s w (λ k n after now i x q p step. subst IsRealPlan (sym (step_plan n after now i x q step)) p) first r where
  first : (life k : ℕ) (m : Member) → numbered s.members k ≡ Some m → IsRealPlan (first_node m.plan).plan
  first life k m is = plan_is r.good.limit m r.good.least_limit (numbered_all (IsGoodMember r.good.limit) s.members k m r.good.members is)

-- ---- what comes is in range

as_input : (v : Visit) (node : ℕ) (i : Input) → IsVisit v node i → IsGoodInput i → IsGoodInput v.input
as_input v node i is good = subst IsGoodInput (sym is.input_is) good

agent_good : (w : WorldState) (node : ℕ) (v : Visit) (o : Option Seat) → seat_at w node ≡ o → AllReal w → agent_seat node o ≡ Some v → IsGoodInput v.input
agent_good w node v None here all is = absurd (none-some v is)
agent_good w node v (Some seat) here all is = as_input v node (agent_input seat.agent) (seat_visit node (agent_input seat.agent) v (Some seat) is) (agent_call_is seat.agent (all node seat here).agent)

pub input_good : (s : Setting) (w : WorldState) (e : Event) (v : Visit) → AllReal w → IsFit s w e → visit_of s w e ≡ Some v → IsStep e → IsGoodInput v.input
unfolding agent_visit datagram_visit
input_good s w (event.Clock node millis) v all fit is step = as_input v (present_life w node) (input.Drain 0) (clock_visit_is (present_life w node) millis v (seat_at w (present_life w node)) is) tt
input_good s w (event.Want node length longest peer) v all fit is step = absurd step
input_good s w (event.Return node prefix peer) v all fit is step = absurd step
input_good s w (event.Agent node hold) v all fit is step = agent_good w (present_life w node) v (seat_at w (present_life w node)) refl all is
input_good s w (event.Api node asa call hold) v all fit is step = as_input v (present_life w node) (input.Api asa call) (at_visit w (present_life w node) (input.Api asa call) v is) fit.2
input_good s w (event.Datagram index hold) v all fit is step = by_datagram (datagram_visit_is w v (numbered w.datagrams index) is) where
  by_datagram : (d : SentDatagram) × IsVisit v (present_life w d.route.receiver) (input.Datagram d.route.link d.route.from (encoding d.message)) → IsGoodInput v.input
  by_datagram x = as_input v (present_life w x.0.route.receiver) (input.Datagram x.0.route.link x.0.route.from (encoding x.0.message)) x.1 tt
input_good s w (event.Arrive stream hold) v all fit is step = subst IsGoodInput (sym (opening_is s w stream v is).is.input_is) tt
input_good s w (event.Bytes stream far count hold) v all fit is step = subst IsGoodInput (sym (piece_is w stream (side_named far) count v is).is.input_is) tt
input_good s w (event.Cut stream far hold) v all fit is step = subst IsGoodInput (sym (cut_is w stream (side_named far) v is).is.input_is) tt
input_good s w (event.Drain node max) v all fit is step = absurd step

-- ---- a step

node_real : (n after : NodeState) (now : ℕ) (i : Input) (x : Coming) (r : Reply) → IsRealPlan n.plan → IsGoodInput i → IsInRange n.plan n → NodeStep n now i x r after → IsInRange after.plan after
node_real n after now i x r ok good k step = again (step_real n.plan n after now i x r ok good k step) where
  again : IsInRange n.plan after → IsInRange after.plan after
  again a = subst (λ (p : NodePlan). IsInRange p after) (sym a.plan_is) a

own_real : (s : Setting) (w : WorldState) (e : Event) (c : Choice) (v : Visit) (agent : AgentState) → IsReached s w → AllReal w → Occurs s w e c → visit_of s w e ≡ Some v → IsStep e
    → (agent ≡ v.seat.agent) ⊎ (agent ≡ after_reply v.seat.agent c.reply) → IsRealSeat (seat_with c.after agent)
own_real s w e c v agent r all o is step which = record {
  real = node_real v.seat.core c.after v.now v.input c.coming c.reply (real_plan s w r v.node v.seat here) (input_good s w e v all o.fit is step) (all v.node v.seat here).real steps.steps;
  agent = by_which which;
} where
  here : seat_at w v.node ≡ Some v.seat
  here = (visits_are_here s w e v is).stands

  steps : VisitStep v c
  steps = subst (λ (x : Option Visit). MayCome x c) is o.comes

  by_which : (agent ≡ v.seat.agent) ⊎ (agent ≡ after_reply v.seat.agent c.reply) → IsKept agent
  by_which (inl same) = subst IsKept (sym same) (all v.node v.seat here).agent
  by_which (inr same) = subst IsKept (sym same) (kept_reply v.seat.agent c.reply (all v.node v.seat here).agent)

real_stepped : (s : Setting) (w : WorldState) (e : Event) (c : Choice) (v : Visit) → IsReached s w → AllReal w → Occurs s w e c → visit_of s w e ≡ Some v → IsStep e → AllReal (after_visit s w e v c)
real_stepped s w e c v r all o is step =
    each_seat (λ node seat. IsRealSeat seat) w (after_visit s w e v c) v c (visits_are_here s w e v is).member.least (seats_stepped s w e v c step)
    (λ agent which there. own_real s w e c v agent r all o is step which) (λ node seat differs here. all node seat here)

-- ---- a drain

drained_real : (s : Setting) (w : WorldState) (node max : ℕ) (o : Option Seat) → IsReached s w → 1 ≤ node → seat_at w node ≡ o → AllReal w → AllReal (drained_at s w node max o)
drained_real s w node max None r least here all = all
drained_real s w node max (Some seat) r least here all =
    each_drained (λ n other. IsRealSeat other) s w node seat (begin seat.core seat.core.reading) max least own (λ n other differs there. all n other there) where
      own : IsRealSeat (seat_with (after_drain (begin seat.core seat.core.reading) max) seat.agent)
      own = record {
        real = node_real seat.core (after_drain (begin seat.core seat.core.reading) max) seat.core.reading (input.Drain max) no_choice.coming (reply.Outputs (drained (begin seat.core seat.core.reading) max))
            (real_plan s w r node seat here) tt (all node seat here).real (drain_steps seat.core seat.core.reading max no_choice.coming);
        agent = (all node seat here).agent;
      }

-- ---- the first network

none_fine : (count : ℕ) → All IsFine (replicate count None)
none_fine count = All-replicate IsFine count None tt

fresh_real : (plan : NodePlan) → IsInRange plan (first_node plan)
fresh_real plan = record {
  plan_is = refl;
  registrations = All-nil IsEntry;
  sessions = none_fine 64;
  cached = All-nil IsKeptEntry;
  queue = All-nil (CanSend plan.limit);
}

answered_real : (seat : Seat) (x : Coming) (a : ApiAnswer) → IsRealPlan seat.core.plan → IsRealSeat seat → IsAnswered seat x a → IsRealSeat (answered_seat seat a)
unfolding answered_seat
answered_real seat x a ok k step = record {
  real = node_real seat.core (answered_seat seat a).core 0 (agent_input seat.agent) x (reply.Api a) ok (agent_call_is seat.agent k.agent) k.real step;
  agent = kept_reply seat.agent (reply.Api a) k.agent;
}

answered_plan : (seat : Seat) (x : Coming) (a : ApiAnswer) → IsRealPlan seat.core.plan → IsAnswered seat x a → IsRealPlan (answered_seat seat a).core.plan
answered_plan seat x a ok step = subst IsRealPlan (sym (step_plan seat.core (answered_seat seat a).core 0 (agent_input seat.agent) x (reply.Api a) step)) ok

opened_real : (plan : NodePlan) (h : Holding) → IsRealPlan plan → IsPool h → h.reserved ≡ [] → IsRealSeat (opened_seat plan h)
unfolding opened_seat
opened_real plan h good pool none = opened (worlds_begin plan h no_choice.coming) where
  registered : Seat
  registered = answered_seat (fresh_seat plan h) (answer.Asa 1)

  declared : Seat
  declared = answered_seat registered answer.Done

  fresh : IsRealSeat (fresh_seat plan h)
  fresh = record { real = fresh_real plan; agent = kept_first h pool none }

  opened : OpeningsAreSteps plan h no_choice.coming → IsRealSeat (answered_seat declared answer.NotYet)
  opened o =
      let b = answered_plan (fresh_seat plan h) no_choice.coming (answer.Asa 1) good o.registers in
      let c = answered_plan registered no_choice.coming answer.Done b o.declares in
      answered_real declared no_choice.coming answer.NotYet c
      (answered_real registered no_choice.coming answer.Done b (answered_real (fresh_seat plan h) no_choice.coming (answer.Asa 1) good fresh o.registers) o.declares) o.listens

first_real : (limit : ℕ) (m : Member) → 2048 ≤ limit → IsGoodMember limit m → IsRealSeat (first_seat m)
first_real limit m least good = opened_real m.plan (pool_of m.roots) (plan_is limit m least good) (opened_pool m.roots good.pool) refl

first_all : (s : Setting) (limit : ℕ) → 2048 ≤ limit → All (IsGoodMember limit) s.members → AllReal (first_world s)
unfolding first_world
first_all s limit least good node seat here = by_zero (node == 0) refl where
  by_member : (node == 0) ≡ false → IsMade first_seat s.members (node - 1) seat → IsRealSeat seat
  by_member is m = subst IsRealSeat m.made (first_real limit m.of least (numbered_all (IsGoodMember limit) s.members node m.of good (rw is m.stands)))

  by_zero : (b : Bool) → (node == 0) ≡ b → IsRealSeat seat
  by_zero true e = absurd (none-some seat (subst (λ z. cond z None (slice_get (map first_seat s.members) (node - 1)) ≡ Some seat) e here))
  by_zero false e = by_member e (is_made first_seat s.members (node - 1) seat (subst (λ z. cond z None (slice_get (map first_seat s.members) (node - 1)) ≡ Some seat) e here))

-- ---- every turn

-- an agent that settles what it has in doubt
settled_real : (w x : WorldState) (node : ℕ) (p : Prefix) → Settling w node p x → AllReal w → AllReal x
settled_real w x node p t all =
    settle_lives (λ n seat. IsRealSeat seat) w node p x t (record { real = (all (present_life w node) t.seat t.here).real; agent = kept_settling t.seat.agent p t.doubtful (all (present_life w node) t.seat t.here).agent }) all

restarted_real : (s : Setting) → IsGoodSetting s → (w x : WorldState) (node : ℕ) (image : PoolImage) → Restarting s w node image x → AllReal w → AllReal x
restarted_real s good w x node image t all =
    restart_seats (λ n seat. IsRealSeat seat) s w node image x t
    (record { real = (all (present_life w node) t.seat t.here).real; agent = retired_kept t.seat.agent (all (present_life w node) t.seat t.here).agent })
    (opened_real t.member.plan (pool_of_image image) (plan_is good.limit t.member good.least_limit (numbered_all (IsGoodMember good.limit) s.members node t.member good.members t.found))
    (image_pool t.seat.agent image t.image_is) refl)
    all

real_parts : (s : Setting) → IsGoodSetting s → PartsKeep s AllReal
unfolding network.drained
real_parts s good = record {
  steps = λ w e c v r all o is step reached. real_stepped s w e c v r all o is step;
  told = λ w x e r t all. agent_keeps (λ ts node seat. IsRealSeat seat) w x (one_agent s w e x t) (λ k. record { real = k.real; agent = kept_event t.seat.agent t.telling.what t.possible k.agent }) all;
  drains = λ w node max r all least. drained_real s w node max (seat_at w node) r least refl all;
  settles = λ w x node p r t all. settled_real w x node p t all;
  restarts = λ w x node image r t all. restarted_real s good w x node image t all;
}

pub all_real : (s : Setting) (w : WorldState) → IsReached s w → AllReal w
all_real s w r = parts_keep s AllReal (real_parts s r.good) (first_all s r.good.limit r.good.least_limit r.good.members) w r

-- what a step has queued can be sent
pub step_queues : (s : Setting) (w : WorldState) (e : Event) (c : Choice) (v : Visit) → IsReached s w → Occurs s w e c → visit_of s w e ≡ Some v → IsStep e → IsInRange c.after.plan c.after
step_queues s w e c v r o is step = (own_real s w e c v v.seat.agent r (all_real s w r) o is step (inl refl)).real
