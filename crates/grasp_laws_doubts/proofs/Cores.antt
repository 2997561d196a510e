-- Networks in which the nodes and the streams are the same, and perhaps the agents and the offers others: where an agent is told something, and
-- where a prefix is settled.
use Rattle.std.proofs.Common.{◌≡◌, ◌≢◌, ◌⊎◌, inl, inr, refl, sym, ap, ◌∙◌, subst, ℕ, ◌-◌, ◌≤◌, Some, slice_set}
use Rattle.std.proofs.lemmas.Bool.{cases_eq}
use Rattle.std.proofs.lemmas.Option.{same_Some}
use Rattle.grasp_agent.specs.Replies.{after_settling}
use Rattle.grasp_model_node.specs.Node.{NodeState}
use Rattle.grasp_types.specs.Prefix.{AddressBlock as Prefix}
use Rattle.grasp_model_network.specs.Sending.{seat_with}
use Rattle.grasp_model_network.specs.Setting.{Setting, numbered}
use Rattle.grasp_model_network.specs.Settling.{IsDead, after_settle}
use Rattle.grasp_model_network.specs.World.{Seat, WorldState, present_life, seat_at}
use Rattle.grasp_model_network.specs.declared.event.Event.{Event}
use Rattle.grasp_laws_delivery.proofs.AfterSteps.{put_or}
use Rattle.grasp_laws_network.proofs.Here.{present_least}
use Rattle.grasp_laws_network.proofs.Others.{put_elsewhere}
use Rattle.grasp_laws_network.proofs.Settled.{Settling, settling_is}
use Rattle.grasp_laws_network.proofs.Staying.{put_here}
use Rattle.grasp_laws_network.proofs.Telling.{one_agent, one_least}
use Rattle.grasp_laws_network.specs.Telling.{OneAgent, Tells}
use Rattle.grasp_laws_doubts.proofs.Opening.{PlansLast}

-- the nodes and the streams are the same
pub record SameCores (w y : WorldState) : Type 0 where
  pub back : (node : ℕ) (new : Seat) → seat_at y node ≡ Some new → (seat : Seat) × (seat_at w node ≡ Some seat) × (new.core ≡ seat.core)
  pub forth : (node : ℕ) (seat : Seat) → seat_at w node ≡ Some seat → (new : Seat) × (seat_at y node ≡ Some new) × (new.core ≡ seat.core)
  pub streams : y.streams ≡ w.streams

-- one seat is put
put_cores : (w y : WorldState) (node : ℕ) (seat new : Seat) → 1 ≤ node → seat_at w node ≡ Some seat → y.seats ≡ slice_set w.seats (node - 1) new → new.core ≡ seat.core → y.streams ≡ w.streams → SameCores w y
put_cores w y node seat new least here seats core streams = record { back = back; forth = forth; streams = streams } where
  back : (n : ℕ) (z : Seat) → seat_at y n ≡ Some z → (x : Seat) × (seat_at w n ≡ Some x) × (z.core ≡ x.core)
  back n z there = by_case (put_or w.seats node new n z least (subst (λ xs. numbered xs n ≡ Some z) seats there)) where
    by_case : ((n ≡ node) × (new ≡ z)) ⊎ ((n ≢ node) × (numbered w.seats n ≡ Some z)) → (x : Seat) × (seat_at w n ≡ Some x) × (z.core ≡ x.core)
    by_case (inl t) = (seat, ap (λ k. seat_at w k) t.0 ∙ here, ap (λ (x : Seat). x.core) (sym t.1) ∙ core)
    by_case (inr t) = (z, t.1, refl)

  forth : (n : ℕ) (x : Seat) → seat_at w n ≡ Some x → (z : Seat) × (seat_at y n ≡ Some z) × (z.core ≡ x.core)
  forth n x at = by_case (cases_eq n node) where
    by_case : (n ≡ node) ⊎ (n ≡ node → ⊥) → (z : Seat) × (seat_at y n ≡ Some z) × (z.core ≡ x.core)
    by_case (inl same) = (
      new,
      ap (λ xs. numbered xs n) seats ∙ (ap (λ k. numbered (slice_set w.seats (node - 1) new) k) same ∙ put_here w.seats node seat new here),
      core ∙ ap (λ (z : Seat). z.core) (same_Some seat x (sym here ∙ (ap (λ k. seat_at w k) (sym same) ∙ at))),
    )
    by_case (inr apart) = (x, ap (λ xs. numbered xs n) seats ∙ (put_elsewhere w.seats node n new least apart ∙ at), refl)

pub told_cores : (s : Setting) (w x : WorldState) (e : Event) → Tells s w e x → SameCores w x
told_cores s w x e t =
    let o : OneAgent w x = one_agent s w e x t in
    put_cores w x o.node o.seat (seat_with o.seat.core o.agent) (one_least w x o) o.here (ap (λ (z : WorldState). z.seats) o.after) refl (ap (λ (z : WorldState). z.streams) o.after)

pub settled_cores : (w : WorldState) (node : ℕ) (p : Prefix) → IsDead w node p → SameCores w (after_settle w node p)
settled_cores w node p dead =
    let t : Settling w node p (after_settle w node p) = settling_is w node p dead in
    put_cores w (after_settle w node p) (present_life w node) t.seat (seat_with t.seat.core (after_settling t.seat.agent p)) (present_least w node) t.here t.seats refl t.streams

pub cores_plans : (w y : WorldState) → SameCores w y → PlansLast w y
cores_plans w y k node seat here = let f = k.forth node seat here in (f.0, f.1, ap (λ (n : NodeState). n.plan) f.2)

-- where one seat is put, whose plan is the same, so is each plan
pub put_plans : (w y : WorldState) (node : ℕ) (seat new : Seat) → 1 ≤ node → seat_at w node ≡ Some seat → y.seats ≡ slice_set w.seats (node - 1) new → new.core.plan ≡ seat.core.plan → PlansLast w y
put_plans w y node seat new least here seats plan n x at = by_case (cases_eq n node) where
  by_case : (n ≡ node) ⊎ (n ≡ node → ⊥) → (z : Seat) × (seat_at y n ≡ Some z) × (z.core.plan ≡ x.core.plan)
  by_case (inl same) = (
    new,
    ap (λ xs. numbered xs n) seats ∙ (ap (λ k. numbered (slice_set w.seats (node - 1) new) k) same ∙ put_here w.seats node seat new here),
    plan ∙ ap (λ (z : Seat). z.core.plan) (same_Some seat x (sym here ∙ (ap (λ k. seat_at w k) (sym same) ∙ at))),
  )
  by_case (inr apart) = (x, ap (λ xs. numbered xs n) seats ∙ (put_elsewhere w.seats node n new least apart ∙ at), refl)
