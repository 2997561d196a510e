-- What a life begins with, and each step keeps, is so of each life of a node of a network that turns lead to.
use Rattle.std.proofs.Common.{◌≡◌, ◌≢◌, ◌⊎◌, inl, inr, refl, sym, ap, ◌∙◌, subst, arith, tests, ℕ, zero, suc, ◌+◌, ◌-◌, ◌≤◌, ◌==◌, Bool, true, false, cond, List, [], ◌∷◌, ◌++◌, length, map, slice_get, slice_set, take, Option, Some, None, unwrap_or}
use Rattle.std.proofs.lemmas.List.{length-set}
use Rattle.std.proofs.lemmas.Option.{none-some, same_Some}
use Rattle.grasp_agent.specs.Reopening.{retired}
use Rattle.grasp_agent.specs.Replies.{after_reply}
use Rattle.grasp_agent.specs.States.{AgentState}
use Rattle.grasp_laws_node.proofs.Bounded.Nodes.{nodes_kept}
use Rattle.grasp_model_node.specs.Begin.{begin}
use Rattle.grasp_model_node.specs.Draining.{closes, drained, after_drain}
use Rattle.grasp_model_node.specs.Node.{NodeState, first_node}
use Rattle.grasp_model_node.specs.BoundedNodes.{IsBoundedNode}
use Rattle.grasp_model_node.specs.Step.{Coming, NodeStep}
use Rattle.grasp_model_node.specs.declared.plan.NodePlan.{NodePlan}
use Rattle.grasp_pool.specs.Functions.{pool_of, pool_of_image}
use Rattle.grasp_pool.specs.Holdings.{Holding}
use Rattle.grasp_pool.specs.declared.image.PoolImage.{PoolImage}
use Rattle.grasp_types.specs.Prefix.{AddressBlock as Prefix}
use Rattle.grasp_types.specs.declared.reply.ApiAnswer.TheVariants as answer
use Rattle.grasp_types.specs.declared.reply.Reply.{Reply}
use Rattle.grasp_types.specs.declared.reply.Reply.TheVariants as reply
use Rattle.grasp_types.specs.declared.traffic.Input.{Input}
use Rattle.grasp_types.specs.declared.traffic.Input.TheVariants as input
use Rattle.grasp_laws_network.proofs.Appended.{appended, numbered_last, numbered_still, not_next}
use Rattle.grasp_laws_network.proofs.Going.{reached_holds}
use Rattle.grasp_laws_network.proofs.Here.{numbered_within, visits_are_here}
use Rattle.grasp_laws_network.proofs.Openings.{worlds_begin}
use Rattle.grasp_laws_network.proofs.Others.{put_elsewhere, arrived_keeps, delivered_keeps, told_keeps}
use Rattle.grasp_laws_node.proofs.PlansStay.{step_plan}
use Rattle.grasp_laws_network.proofs.Reached.{reached_keeps}
use Rattle.grasp_laws_network.proofs.SameLives.{one_lives, event_lives}
use Rattle.grasp_laws_network.proofs.Sent.{sending_keeps_nodes}
use Rattle.grasp_laws_network.proofs.Staying.{KnowsLives, first_own, reached_knows}
use Rattle.grasp_laws_network.proofs.Telling.{none_one, one_least}
use Rattle.grasp_laws_network.proofs.Turning.{settle_one, restart_by}
use Rattle.grasp_model_network.specs.EventSteps.{after_agent_call, after_agent, agent_input, after_arrival, after_clock, after_cut, after_delivery, after_piece}
use Rattle.grasp_model_network.specs.StreamChanges.{arrived, told, reached_side, side_named, delivered}
use Rattle.grasp_model_network.specs.Events.{visit_of, after_visit, after_by, after_event, drains, drained_behind, Occurs}
use Rattle.grasp_laws_network.specs.Keeping.{IsHere}
use Rattle.grasp_laws_network.specs.Laws.{OpeningsAreSteps}
use Rattle.grasp_laws_network.specs.Lives.{TurnsKeep}
use Rattle.grasp_laws_network.specs.Nodes.{OfEachNode, HavePlans, NodesAreSound}
use Rattle.grasp_laws_network.specs.Telling.{OneAgent}
use Rattle.grasp_model_network.specs.Notes.{noted}
use Rattle.grasp_model_network.specs.Openings.{first_seat, fresh_seat, answered_seat, opened_seat}
use Rattle.grasp_model_network.specs.Restarting.{restarted, after_restart}
use Rattle.grasp_model_network.specs.Runs.{IsReached, first_world}
use Rattle.grasp_model_network.specs.Sending as network
use Rattle.grasp_model_network.specs.Sending.{seat_with, stepped, drained_at, drained_from, event_drain}
use Rattle.grasp_model_network.specs.Setting.{Member, Setting, numbered}
use Rattle.grasp_model_network.specs.Settling.{after_settle}
use Rattle.grasp_model_network.specs.Streams.{stream_numbered}
use Rattle.grasp_model_network.specs.Visits.{Visit, Choice, MayCome, no_choice}
use Rattle.grasp_model_network.specs.World.{Seat, WorldState, present_life, seat_at, with_seat}
use Rattle.grasp_model_network.specs.declared.event.Event.{Event}
use Rattle.grasp_model_network.specs.declared.event.Event.TheVariants as event

-- each step keeps it
abbrev pub StepsKeep : (ℕ → NodeState → Type 0) → Type 0
StepsKeep P = (k : ℕ) (n after : NodeState) (now : ℕ) (i : Input) (x : Coming) (r : Reply) → P k n → NodeStep n now i x r after → P k after

-- ---- one node is put

pub set_is : {A : Type 0} (xs : List A) (i : ℕ) (x y : A) → slice_get (slice_set xs i x) i ≡ Some y → x ≡ y
set_is [] i x y e = absurd (none-some y e)
set_is (z ∷ zs) zero x y e = same_Some x y e
set_is (z ∷ zs) (suc i) x y e = set_is zs i x y e

pub put_is : (seats : List Seat) (node : ℕ) (seat other : Seat) → 1 ≤ node → numbered (slice_set seats (node - 1) seat) node ≡ Some other → seat ≡ other
put_is seats node seat other least e = set_is seats (node - 1) seat other (subst (λ z. cond z None (slice_get (slice_set seats (node - 1) seat) (node - 1)) ≡ Some other) (not_none node least) e) where
  not_none : (n : ℕ) → 1 ≤ n → (n == 0) ≡ false
  not_none n h = grind (arith, tests)

pub put_each : (P : ℕ → NodeState → Type 0) (w x : WorldState) (node : ℕ) (seat : Seat) → 1 ≤ node → x.seats ≡ slice_set w.seats (node - 1) seat → P node seat.core → OfEachNode P w → OfEachNode P x
put_each P w x node seat least e p each n other found = by_node (n == node) refl where
  at : numbered (slice_set w.seats (node - 1) seat) n ≡ Some other
  at = subst (λ seats. numbered seats n ≡ Some other) e found

  same : (a b : ℕ) → (a == b) ≡ true → a ≡ b
  same a b is = grind (arith, tests)

  differ : (a b : ℕ) → (a == b) ≡ false → a ≢ b
  differ a b is = λ f. grind (arith, tests)

  by_node : (z : Bool) → (n == node) ≡ z → P n other.core
  by_node true is =
      subst (λ k. P k other.core) (sym (same n node is))
      (subst (λ (y : Seat). P node y.core) (put_is w.seats node seat other least (subst (λ k. numbered (slice_set w.seats (node - 1) seat) k ≡ Some other) (same n node is) at)) p)
  by_node false is = each n other (sym (put_elsewhere w.seats node n seat least (differ n node is)) ∙ at)

-- ---- a drain

pub drain_steps : (n : NodeState) (now max : ℕ) (x : Coming) → NodeStep n now (input.Drain max) x (reply.Outputs (drained (begin n now) max)) (after_drain (begin n now) max)
drain_steps n now max x = record { is_coming = tt; acts = (refl, refl) }

pub drained_by_each : (P : ℕ → NodeState → Type 0) (s : Setting) (w : WorldState) (node max : ℕ) (o : Option Seat) → StepsKeep P → 1 ≤ node → seat_at w node ≡ o → OfEachNode P w
    → OfEachNode P (drained_at s w node max o)
drained_by_each P s w node max None keep least here each = each
drained_by_each P s w node max (Some seat) keep least here each =
    from (begin seat.core seat.core.reading)
    (keep node seat.core (after_drain (begin seat.core seat.core.reading) max) seat.core.reading (input.Drain max) no_choice.coming
    (reply.Outputs (drained (begin seat.core seat.core.reading) max)) (each node seat here) (drain_steps seat.core seat.core.reading max no_choice.coming))
  where
    from : (m : NodeState) → P node (after_drain m max) → OfEachNode P (drained_from s w node seat m max)
    from m p =
        put_each P w (drained_from s w node seat m max) node (seat_with (after_drain m max) seat.agent) least
        (sending_keeps_nodes s (with_seat w node (seat_with (after_drain m max) seat.agent)) node (take max m.queue) (closes m max)) p each

pub drained_each : (P : ℕ → NodeState → Type 0) (s : Setting) (w : WorldState) (node max : ℕ) → StepsKeep P → 1 ≤ node → OfEachNode P w → OfEachNode P (network.drained s w node max)
unfolding network.drained
drained_each P s w node max keep least each = drained_by_each P s w node max (seat_at w node) keep least refl each

-- ---- a step

pub stepped_each : (P : ℕ → NodeState → Type 0) (w x y : WorldState) (v : Visit) (core : NodeState) (agent : AgentState) → 1 ≤ v.node → x.seats ≡ w.seats → y.seats ≡ (stepped x v core agent).seats
    → P v.node core → OfEachNode P w → OfEachNode P y
unfolding stepped
stepped_each P w x y v core agent least e f p each =
    put_each P w y v.node (seat_with core agent) least (f ∙ ap (λ seats. slice_set seats (v.node - 1) (seat_with core agent)) e) p each

pub visit_each : (P : ℕ → NodeState → Type 0) (s : Setting) (w : WorldState) (e : Event) (v : Visit) (c : Choice) → StepsKeep P → 1 ≤ v.node → P v.node c.after → OfEachNode P w
    → OfEachNode P (after_visit s w e v c)
unfolding after_clock after_agent after_agent_call after_delivery after_arrival after_piece after_cut noted
visit_each P s w (event.Clock node millis) v c keep least p each = stepped_each P w w (after_clock w v c) v c.after v.seat.agent least refl refl p each
visit_each P s w (event.Want node wanted longest peer) v c keep least p each = each
visit_each P s w (event.Return node prefix peer) v c keep least p each = each
visit_each P s w (event.Agent node hold) v c keep least p each =
    stepped_each P w w (after_agent w v c) v c.after (after_reply v.seat.agent c.reply) least refl refl p each
visit_each P s w (event.Api node asa call hold) v c keep least p each = stepped_each P w w (after_agent_call w v asa call c) v c.after v.seat.agent least refl refl p each
visit_each P s w (event.Datagram index hold) v c keep least p each = stepped_each P w w (after_delivery w v index c) v c.after v.seat.agent least refl refl p each
visit_each P s w (event.Arrive stream hold) v c keep least p each =
    stepped_each P w (arrived w v (s.arrives_as v.node stream) c.reply (stream_numbered w.streams stream)) (after_arrival s w v stream c) v c.after v.seat.agent least
    (arrived_keeps w v (s.arrives_as v.node stream) c.reply (stream_numbered w.streams stream)) refl p each
visit_each P s w (event.Bytes stream far count hold) v c keep least p each =
    stepped_each P w (delivered w count (reached_side w stream (side_named far))) (after_piece w v stream (side_named far) count c) v c.after v.seat.agent least
    (delivered_keeps w count (reached_side w stream (side_named far))) refl p each
visit_each P s w (event.Cut stream far hold) v c keep least p each =
    stepped_each P w (told w (reached_side w stream (side_named far))) (after_cut w v stream (side_named far) c) v c.after v.seat.agent least
    (told_keeps w (reached_side w stream (side_named far))) refl p each
visit_each P s w (event.Drain node max) v c keep least p each = drained_each P s w v.node max keep least each

pub behind_each : (P : ℕ → NodeState → Type 0) (b : Bool) (s : Setting) (w : WorldState) (node : ℕ) → StepsKeep P → 1 ≤ node → OfEachNode P w → OfEachNode P (drained_behind b s w node)
behind_each P true s w node keep least each = drained_each P s w node event_drain keep least each
behind_each P false s w node keep least each = each

-- ---- another agent

pub one_each : (P : ℕ → NodeState → Type 0) (w x : WorldState) → OneAgent w x → OfEachNode P w → OfEachNode P x
one_each P w x o each =
    put_each P w x o.node (seat_with o.seat.core o.agent) (one_least w x o) (ap (λ (y : WorldState). y.seats) o.after) (each o.node o.seat o.here) each

-- ---- an event

pub by_each : (P : ℕ → NodeState → Type 0) (s : Setting) (w : WorldState) (e : Event) (c : Choice) (o : Option Visit) → StepsKeep P → visit_of s w e ≡ o → MayCome o c → OfEachNode P w
    → OfEachNode P (after_by s w e c o)
by_each P s w e c None keep is comes each = none_one s w e (OfEachNode P) each (λ x o. one_each P w x o each)
by_each P s w e c (Some v) keep is comes each = at_node (visits_are_here s w e v is) where
  at_node : IsHere w v → OfEachNode P (after_by s w e c (Some v))
  at_node here =
      behind_each P (drains e) s (after_visit s w e v c) v.node keep here.member.least
      (visit_each P s w e v c keep here.member.least (keep v.node v.seat.core c.after v.now v.input c.coming c.reply (each v.node v.seat here.stands) comes.steps) each)

pub event_each : (P : ℕ → NodeState → Type 0) (s : Setting) (w : WorldState) (e : Event) (c : Choice) → StepsKeep P → Occurs s w e c → OfEachNode P w → OfEachNode P (after_event s w e c)
unfolding after_event
event_each P s w e c keep occurs each = by_each P s w e c (visit_of s w e) keep refl occurs.comes each

-- ---- the beginning

-- what stands in a list that was made one by one was made of what stands at that place
pub record IsMade {A B : Type 0} (f : A → B) (xs : List A) (i : ℕ) (y : B) : Type 0 where
  pub of : A
  pub stands : slice_get xs i ≡ Some of
  pub made : f of ≡ y

pub is_made : {A B : Type 0} (f : A → B) (xs : List A) (i : ℕ) (y : B) → slice_get (map f xs) i ≡ Some y → IsMade f xs i y
is_made f [] i y e = absurd (none-some y e)
is_made f (x ∷ xs) zero y e = record { of = x; stands = refl; made = same_Some (f x) y e }
is_made f (x ∷ xs) (suc i) y e = behind (is_made f xs i y e) where
  behind : IsMade f xs i y → IsMade f (x ∷ xs) (suc i) y
  behind m = record { of = m.of; stands = m.stands; made = m.made }

-- what holds before anything has happened, and each step keeps, holds once the agent has made its opening calls
pub first_is : (P : ℕ → NodeState → Type 0) (k : ℕ) (plan : NodePlan) (h : Holding) → StepsKeep P → P k (first_node plan) → P k (opened_seat plan h).core
unfolding opened_seat
first_is P k plan h keep first = opened (worlds_begin plan h no_choice.coming) where
  registered : Seat
  registered = answered_seat (fresh_seat plan h) (answer.Asa 1)

  declared : Seat
  declared = answered_seat registered answer.Done

  opened : OpeningsAreSteps plan h no_choice.coming → P k (answered_seat declared answer.NotYet).core
  opened o =
      keep k declared.core (answered_seat declared answer.NotYet).core 0 (agent_input declared.agent) no_choice.coming (reply.Api answer.NotYet)
      (keep k registered.core declared.core 0 (agent_input registered.agent) no_choice.coming (reply.Api answer.Done)
      (keep k (fresh_seat plan h).core registered.core 0 (agent_input (fresh_seat plan h).agent) no_choice.coming (reply.Api (answer.Asa 1)) first o.registers) o.declares)
      o.listens

-- the property holds of each member's first life before anything has happened
abbrev pub BeginsFirst : Setting → (ℕ → NodeState → Type 0) → Type 0
BeginsFirst s P = (k : ℕ) (m : Member) → numbered s.members k ≡ Some m → P k (first_node m.plan)

pub first_each : (P : ℕ → NodeState → Type 0) (s : Setting) → StepsKeep P → BeginsFirst s P → OfEachNode P (first_world s)
unfolding first_world
first_each P s keep first node seat found = by_zero (node == 0) refl where
  by_member : (node == 0) ≡ false → IsMade first_seat s.members (node - 1) seat → P node seat.core
  by_member is m = subst (λ (x : Seat). P node x.core) m.made (first_is P node m.of.plan (pool_of m.of.roots) keep (first node m.of (rw is m.stands)))

  by_zero : (b : Bool) → (node == 0) ≡ b → P node seat.core
  by_zero true is = absurd (none-some seat (subst (λ z. cond z None (slice_get (map first_seat s.members) (node - 1)) ≡ Some seat) is found))
  by_zero false is =
      by_member is
      (is_made first_seat s.members (node - 1) seat (subst (λ z. cond z None (slice_get (map first_seat s.members) (node - 1)) ≡ Some seat) is found))

-- ---- the other turns

-- the property holds of each life of any number that begins as a member's, before anything has happened
abbrev pub Begins : Setting → (ℕ → NodeState → Type 0) → Type 0
Begins s P = (life node : ℕ) (m : Member) → numbered s.members node ≡ Some m → P life (first_node m.plan)

pub settle_each : (P : ℕ → NodeState → Type 0) (w : WorldState) (node : ℕ) (p : Prefix) → OfEachNode P w → OfEachNode P (after_settle w node p)
settle_each P w node p each = settle_one w node p (OfEachNode P) each (λ x o. one_each P w x o each)

-- where one more life begins
pub begun_each : (P : ℕ → NodeState → Type 0) (s : Setting) (w : WorldState) (node life : ℕ) (image : PoolImage) (seat : Seat) (m : Member) → seat_at w life ≡ Some seat
    → P (length w.seats + 1) (opened_seat m.plan (pool_of_image image)).core → OfEachNode P w → OfEachNode P (restarted s w node life image seat m)
begun_each P s w node life image seat m here new each n other found = by_place (appended put begun n other found) where
  ended : Seat
  ended = seat_with seat.core (retired seat.agent)

  put : List Seat
  put = slice_set w.seats (life - 1) ended

  begun : Seat
  begun = opened_seat m.plan (pool_of_image image)

  by_place : ((numbered put n ≡ Some other) ⊎ ((n ≡ length put + 1) × (begun ≡ other))) → P n other.core
  by_place (inl old) = put_each P w (with_seat w life ended) life ended (numbered_within w.seats life seat here).least refl (each life seat here) each n other old
  by_place (inr last) =
      subst (λ (y : Seat). P n y.core) last.1
      (subst (λ k. P k begun.core) (sym (last.0 ∙ ap (λ k. k + 1) (length-set w.seats (life - 1) ended))) new)

pub restart_each : (P : ℕ → NodeState → Type 0) (s : Setting) (w : WorldState) (node : ℕ) (image : PoolImage) → StepsKeep P → Begins s P → OfEachNode P w
    → OfEachNode P (after_restart s w node image)
restart_each P s w node image keep first each =
    restart_by s w node image (OfEachNode P) each
    (λ seat m here found. begun_each P s w node (present_life w node) image seat m here
    (first_is P (length w.seats + 1) m.plan (pool_of_image image) keep (first (length w.seats + 1) node m found)) each)

-- ---- all turns

pub turns_each : (P : ℕ → NodeState → Type 0) (s : Setting) → StepsKeep P → Begins s P → TurnsKeep s (OfEachNode P)
turns_each P s keep first = record {
  events = λ w e c o each. event_each P s w e c keep o each;
  settles = λ w node p dead each. settle_each P w node p each;
  restarts = λ w node image may each. restart_each P s w node image keep first each;
}

-- what a life begins with and each step keeps
pub reached_each : (P : ℕ → NodeState → Type 0) (s : Setting) (w : WorldState) → StepsKeep P → Begins s P → IsReached s w → OfEachNode P w
reached_each P s w keep first r = reached_keeps s (OfEachNode P) (first_each P s keep (λ k m found. first k k m found)) (turns_each P s keep first) w r

-- ---- plans

pub member_plan : (s : Setting) (k : ℕ) (m l : Member) → numbered s.members k ≡ Some m → numbered s.members k ≡ Some l → m.plan ≡ l.plan
member_plan s k m l e f = ap (λ (x : Member). x.plan) (same_Some m l (sym e ∙ f))

-- a node has the plan of the member whose life it is by this list
abbrev HasPlan : Setting → List ℕ → ℕ → NodeState → Type 0
HasPlan s lives life n = (m : Member) → numbered s.members (unwrap_or (numbered lives life) 0) ≡ Some m → n.plan ≡ m.plan

plan_kept : (s : Setting) (lives : List ℕ) → StepsKeep (HasPlan s lives)
plan_kept s lives k n after now i x q p step m e = step_plan n after now i x q step ∙ p m e

with_lives : (s : Setting) (w x : WorldState) → x.lives ≡ w.lives → OfEachNode (HasPlan s w.lives) x → OfEachNode (HasPlan s x.lives) x
with_lives s w x same each = subst (λ lives. OfEachNode (HasPlan s lives) x) (sym same) each

first_plans : (s : Setting) → OfEachNode (HasPlan s (first_world s).lives) (first_world s)
first_plans s =
    first_each (HasPlan s (first_world s).lives) s (plan_kept s (first_world s).lives)
    (λ k m e l f. member_plan s k m l e
    (subst (λ o. numbered s.members (unwrap_or o 0) ≡ Some l) (first_own s k (numbered_within s.members k m e)) f))

-- the lives before have the members that they had
later_plans : (s : Setting) (w : WorldState) (node : ℕ) → KnowsLives w → OfEachNode (HasPlan s w.lives) w → OfEachNode (HasPlan s (w.lives ++ node ∷ [])) w
later_plans s w node known each n seat here m e = each n seat here m (subst (λ o. numbered s.members (unwrap_or o 0) ≡ Some m) still e) where
  still : numbered (w.lives ++ node ∷ []) n ≡ numbered w.lives n
  still = numbered_still w.lives node n (subst (λ k. n ≢ k + 1) known (not_next w.seats n seat here))

-- and the last one is this member's
new_plan : (s : Setting) (w : WorldState) (node : ℕ) (m : Member) (h : Holding) → KnowsLives w → numbered s.members node ≡ Some m
    → HasPlan s (w.lives ++ node ∷ []) (length w.seats + 1) (opened_seat m.plan h).core
new_plan s w node m h known found l e =
    first_is (λ k n. n.plan ≡ m.plan) (length w.seats + 1) m.plan h (λ k n after now i x q p step. step_plan n after now i x q step ∙ p) refl
    ∙ member_plan s node m l found (subst (λ o. numbered s.members (unwrap_or o 0) ≡ Some l) last e)
  where
    last : numbered (w.lives ++ node ∷ []) (length w.seats + 1) ≡ Some node
    last = subst (λ k. numbered (w.lives ++ node ∷ []) (k + 1) ≡ Some node) (sym known) (numbered_last w.lives node)

one_plans : (s : Setting) (w x : WorldState) → OfEachNode (HasPlan s w.lives) w → OneAgent w x → OfEachNode (HasPlan s x.lives) x
one_plans s w x each o = with_lives s w x (one_lives w x o) (one_each (HasPlan s w.lives) w x o each)

restart_plans : (s : Setting) (w : WorldState) (node : ℕ) (image : PoolImage) → KnowsLives w → OfEachNode (HasPlan s w.lives) w
    → OfEachNode (HasPlan s (after_restart s w node image).lives) (after_restart s w node image)
restart_plans s w node image known each =
    restart_by s w node image (λ x. OfEachNode (HasPlan s x.lives) x) each
    (λ seat m here found. begun_each (HasPlan s (w.lives ++ node ∷ [])) s w node (present_life w node) image seat m here
    (new_plan s w node m (pool_of_image image) known found) (later_plans s w node known each))

have_plans : (s : Setting) (w : WorldState) → IsReached s w → HavePlans s w
have_plans s w r life seat m here found =
    reached_holds s (λ x. OfEachNode (HasPlan s x.lives) x) (first_plans s) (record {
      events = λ x e c g o each. with_lives s x (after_event s x e c) (event_lives s x e c) (event_each (HasPlan s x.lives) s x e c (plan_kept s x.lives) o each);
      settles = λ x node p g dead each. settle_one x node p (λ y. OfEachNode (HasPlan s y.lives) y) each (λ y o. one_plans s x y each o);
      restarts = λ x node image g may each. restart_plans s x node image (reached_knows s x g) each;
    }) w r life seat here m found

-- ---- sound nodes

pub nodes_are_sound : NodesAreSound
nodes_are_sound = record {
  sound = λ s w r. reached_each (λ k n. IsBoundedNode n) s w (λ k. nodes_kept.1) (λ k node m e. nodes_kept.0 m.plan) r;
  plans = have_plans;
}
