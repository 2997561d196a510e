-- What each step of a node of a network that turns lead to leaves, and each drain, is so of each life of a node of every such network.
use Rattle.std.proofs.Common.{◌≡◌, refl, subst, ℕ, ◌-◌, ◌≤◌, ◌==◌, Bool, true, false, cond, map, slice_get, Option, None, Some}
use Rattle.std.proofs.lemmas.Option.{none-some}
use Rattle.grasp_model_node.specs.Begin.{begin}
use Rattle.grasp_model_node.specs.Draining.{after_drain}
use Rattle.grasp_model_node.specs.Node.{NodeState}
use Rattle.grasp_laws_network.proofs.EachNode.{IsMade, is_made, one_each}
use Rattle.grasp_pool.specs.Functions.{pool_of, pool_of_image}
use Rattle.grasp_pool.specs.Holdings.{Holding}
use Rattle.grasp_pool.specs.declared.image.PoolImage.{PoolImage}
use Rattle.grasp_laws_network.proofs.Here.{visits_are_here}
use Rattle.grasp_laws_network.proofs.Telling.{one_agent}
use Rattle.grasp_laws_network.proofs.Restarted.{Restarting, restart_seats}
use Rattle.grasp_model_network.specs.Events.{Occurs, visit_of, after_visit}
use Rattle.grasp_laws_network.specs.Nodes.{OfEachNode}
use Rattle.grasp_model_network.specs.Runs.{IsReached, first_world}
use Rattle.grasp_model_network.specs.Openings.{first_seat, opened_seat}
use Rattle.grasp_model_network.specs.Sending as network
use Rattle.grasp_model_network.specs.Sending.{drained_at}
use Rattle.grasp_model_network.specs.Setting.{Member, Setting, numbered}
use Rattle.grasp_model_network.specs.Visits.{Visit, Choice}
use Rattle.grasp_model_network.specs.World.{Seat, WorldState, present_life, seat_at}
use Rattle.grasp_model_network.specs.declared.event.Event.{Event}
use Rattle.grasp_laws_delivery.proofs.AfterSteps.{seats_stepped, each_seat, each_drained}
use Rattle.grasp_laws_delivery.proofs.Holding.{IsStep, PartsKeep, parts_keep}

abbrev pub OfAll : (NodeState → Type 0) → WorldState → Type 0
OfAll P w = OfEachNode (λ node n. P n) w

pub record NodesKeep (s : Setting) (P : NodeState → Type 0) : Type 0 where
  -- each life of a member begins so, with whatever pool its agent has
  pub begins : (node : ℕ) (m : Member) (h : Holding) → numbered s.members node ≡ Some m → P (opened_seat m.plan h).core
  -- the node after the step of an event
  pub steps : (w : WorldState) (e : Event) (c : Choice) (v : Visit) → IsReached s w → P v.seat.core → Occurs s w e c → visit_of s w e ≡ Some v → seat_at w v.node ≡ Some v.seat → IsStep e → P c.after
  -- the property holds of the node after a drain, where it held before
  pub drains : (w : WorldState) (node : ℕ) (seat : Seat) (max : ℕ) → IsReached s w → seat_at w node ≡ Some seat → P seat.core → P (after_drain (begin seat.core seat.core.reading) max)

stepped_all : (s : Setting) (P : NodeState → Type 0) → NodesKeep s P → (w : WorldState) (e : Event) (c : Choice) (v : Visit) → IsReached s w → OfAll P w → Occurs s w e c → visit_of s w e ≡ Some v → IsStep e
    → OfAll P (after_visit s w e v c)
stepped_all s P k w e c v r all o is step =
    let here = visits_are_here s w e v is in
    each_seat (λ node seat. P seat.core) w (after_visit s w e v c) v c here.member.least (seats_stepped s w e v c step)
    (λ agent which there. k.steps w e c v r (all v.node v.seat here.stands) o is here.stands step) (λ node seat differs there. all node seat there)

drained_all : (s : Setting) (P : NodeState → Type 0) → NodesKeep s P → (w : WorldState) (node max : ℕ) (o : Option Seat) → IsReached s w → 1 ≤ node → seat_at w node ≡ o → OfAll P w → OfAll P (drained_at s w node max o)
drained_all s P k w node max None r least here all = all
drained_all s P k w node max (Some seat) r least here all =
    each_drained (λ n other. P other.core) s w node seat (begin seat.core seat.core.reading) max least (k.drains w node seat max r here (all node seat here)) (λ n other differs there. all n other there)

first_all : (s : Setting) (P : NodeState → Type 0) → NodesKeep s P → OfAll P (first_world s)
unfolding first_world
first_all s P k node seat here = by_zero (node == 0) refl where
  by_member : (node == 0) ≡ false → IsMade first_seat s.members (node - 1) seat → P seat.core
  by_member is m = subst (λ (x : Seat). P x.core) m.made (k.begins node m.of (pool_of m.of.roots) (rw is m.stands))

  by_zero : (b : Bool) → (node == 0) ≡ b → P seat.core
  by_zero true is = absurd (none-some seat (subst (λ z. cond z None (slice_get (map first_seat s.members) (node - 1)) ≡ Some seat) is here))
  by_zero false is = by_member is (is_made first_seat s.members (node - 1) seat (subst (λ z. cond z None (slice_get (map first_seat s.members) (node - 1)) ≡ Some seat) is here))

restarted_all : (s : Setting) (P : NodeState → Type 0) → NodesKeep s P → (w x : WorldState) (node : ℕ) (image : PoolImage) → Restarting s w node image x → OfAll P w → OfAll P x
restarted_all s P k w x node image t all =
    restart_seats (λ n seat. P seat.core) s w node image x t (all (present_life w node) t.seat t.here) (k.begins node t.member (pool_of_image image) t.found) (λ n seat there. all n seat there)

all_parts : (s : Setting) (P : NodeState → Type 0) → NodesKeep s P → PartsKeep s (OfAll P)
unfolding network.drained
all_parts s P k = record {
  steps = λ w e c v r all o is step reached. stepped_all s P k w e c v r all o is step;
  told = λ w x e r t all. one_each (λ node n. P n) w x (one_agent s w e x t) all;
  drains = λ w node max r all least. drained_all s P k w node max (seat_at w node) r least refl all;
  settles = λ w x node p r t all. one_each (λ node n. P n) w x t.one all;
  restarts = λ w x node image r t all. restarted_all s P k w x node image t all;
}

pub nodes_keep : (s : Setting) (P : NodeState → Type 0) → NodesKeep s P → (w : WorldState) → IsReached s w → OfAll P w
nodes_keep s P k w r = parts_keep s (OfAll P) (all_parts s P k) (first_all s P k) w r
