-- An event is an undrained one and then a drain: what each of the two keeps, and each other turn, is so of every network that turns lead to.
use Rattle.std.proofs.Common.{◌≡◌, refl, sym, ap, ◌∙◌, subst, arith, tests, ℕ, ◌≤◌, Bool, true, false, ◌⊎◌, inl, inr, nat_lt, Option, None, Some}
use Rattle.grasp_laws_network.proofs.Going.{reached_more, reached_holds}
use Rattle.grasp_laws_network.proofs.Growing.{behind_grows}
use Rattle.grasp_laws_network.proofs.Here.{visits_are_here}
use Rattle.grasp_laws_network.proofs.Restarted.{Restarting, restarting_is}
use Rattle.grasp_laws_network.proofs.Settled.{Settling, settling_is}
use Rattle.grasp_laws_network.proofs.Telling.{none_tells}
use Rattle.grasp_model_network.specs.Events.{Occurs, IsFit, visit_of, after_visit, after_none, after_by, after_event, drains, drained_behind}
use Rattle.grasp_laws_network.specs.Keeping.{WorldGrows}
use Rattle.grasp_laws_network.specs.Telling.{Tells}
use Rattle.grasp_model_network.specs.Restarting.{after_restart}
use Rattle.grasp_model_network.specs.Runs.{IsReached, first_world}
use Rattle.grasp_model_network.specs.Sending.{drained, event_drain}
use Rattle.grasp_model_network.specs.Setting.{Setting}
use Rattle.grasp_model_network.specs.Settling.{after_settle}
use Rattle.grasp_model_network.specs.Visits.{Visit, Choice, MayCome}
use Rattle.grasp_model_network.specs.World.{WorldState, is_too_much, most_bytes}
use Rattle.grasp_model_network.specs.declared.event.Event.{Event}
use Rattle.grasp_model_network.specs.declared.event.Event.TheVariants as event
use Rattle.grasp_pool.specs.declared.image.PoolImage.{PoolImage}
use Rattle.grasp_types.specs.Prefix.{AddressBlock as Prefix}
use Rattle.grasp_laws_delivery.specs.Undrained.{undrained, UndrainedAreReached}

-- ---- an undrained event

held_visit : (s : Setting) (w : WorldState) (e : Event) → visit_of s w (undrained e) ≡ visit_of s w e
held_visit s w (event.Clock node millis) = refl
held_visit s w _ = refl

held_after : (s : Setting) (w : WorldState) (e : Event) (v : Visit) (c : Choice) → after_visit s w (undrained e) v c ≡ after_visit s w e v c
held_after s w (event.Clock node millis) v c = refl
held_after s w _ v c = refl

held_drains : (e : Event) → drains (undrained e) ≡ false
held_drains (event.Clock node millis) = refl
held_drains _ = refl

held_fit : (s : Setting) (w : WorldState) (e : Event) → IsFit s w e → IsFit s w (undrained e)
held_fit s w (event.Clock node millis) f = f
held_fit s w _ f = f

held_event : (s : Setting) (w : WorldState) (e : Event) (c : Choice) (v : Visit) → visit_of s w e ≡ Some v → after_event s w (undrained e) c ≡ after_visit s w e v c
unfolding after_event
held_event s w e c v is =
    ap (λ (o : Option Visit). after_by s w (undrained e) c o) (held_visit s w e ∙ is)
    ∙ (ap (λ (b : Bool). drained_behind b s (after_visit s w (undrained e) v c) v.node) (held_drains e) ∙ held_after s w e v c)

-- ---- no more is sent by the step alone

no_more : (most a b : ℕ) → a ≤ b → nat_lt most b ≡ false → nat_lt most a ≡ false
no_more most a b h k = grind (arith, tests)

less_sent : (s : Setting) (w x : WorldState) → WorldGrows w x → is_too_much x ≡ false → is_too_much w ≡ false
less_sent s w x g e = no_more most_bytes w.byte_count x.byte_count g.byte_count e

behind_of : (s : Setting) (w : WorldState) (e : Event) (c : Choice) (v : Visit) → visit_of s w e ≡ Some v → after_event s w e c ≡ drained_behind (drains e) s (after_visit s w e v c) v.node
unfolding after_event
behind_of s w e c v is = ap (λ (o : Option Visit). after_by s w e c o) is

pub held_occurs : (s : Setting) (w : WorldState) (e : Event) (c : Choice) (v : Visit) → Occurs s w e c → visit_of s w e ≡ Some v → Occurs s w (undrained e) c
held_occurs s w e c v o is = record {
  fit = held_fit s w e o.fit;
  comes = subst (λ (x : Option Visit). MayCome x c) (sym (held_visit s w e)) o.comes;
  enough = subst (λ (x : WorldState). is_too_much x ≡ false) (sym (held_event s w e c v is))
      (less_sent s (after_visit s w e v c) (drained_behind (drains e) s (after_visit s w e v c) v.node)
      (behind_grows (drains e) s (after_visit s w e v c) v.node)
      (subst (λ (x : WorldState). is_too_much x ≡ false) (behind_of s w e c v is) o.enough));
}

pub held_reached : UndrainedAreReached
held_reached s w e c v r o is = subst (λ (x : WorldState). IsReached s x) (held_event s w e c v is) (reached_more s w (undrained e) c r (held_occurs s w e c v o is))

-- ---- what each part of an event and each other turn keeps

-- the event makes a step that isn't a drain
abbrev pub IsStep : Event → Type 0
IsStep (event.Want node length longest peer) = ⊥
IsStep (event.Return node prefix peer) = ⊥
IsStep (event.Drain node max) = ⊥
IsStep _ = Unit {0}

pub record PartsKeep (s : Setting) (P : WorldState → Type 0) : Type 0 where
  -- a step, and the network after it, which turns lead to
  pub steps : (w : WorldState) (e : Event) (c : Choice) (v : Visit) → IsReached s w → P w → Occurs s w e c → visit_of s w e ≡ Some v → IsStep e → IsReached s (after_visit s w e v c)
      → P (after_visit s w e v c)
  -- an agent that is told something
  pub told : (w x : WorldState) (e : Event) → IsReached s w → Tells s w e x → P w → P x
  -- a drain
  pub drains : (w : WorldState) (node max : ℕ) → IsReached s w → P w → 1 ≤ node → P (drained s w node max)
  -- a settling
  pub settles : (w x : WorldState) (node : ℕ) (p : Prefix) → IsReached s w → Settling w node p x → P w → P x
  -- a restart
  pub restarts : (w x : WorldState) (node : ℕ) (image : PoolImage) → IsReached s w → Restarting s w node image x → P w → P x

part_kept : (s : Setting) (P : WorldState → Type 0) → PartsKeep s P → (w : WorldState) (e : Event) (c : Choice) (v : Visit) → IsReached s w → P w → Occurs s w e c → visit_of s w e ≡ Some v → 1 ≤ v.node
    → P (after_visit s w e v c)
part_kept s P k w (event.Clock node millis) c v r p o is least = k.steps w (event.Clock node millis) c v r p o is tt (held_reached s w (event.Clock node millis) c v r o is)
part_kept s P k w (event.Want node length longest peer) c v r p o is least = p
part_kept s P k w (event.Return node prefix peer) c v r p o is least = p
part_kept s P k w (event.Agent node hold) c v r p o is least = k.steps w (event.Agent node hold) c v r p o is tt (held_reached s w (event.Agent node hold) c v r o is)
part_kept s P k w (event.Api node asa call hold) c v r p o is least =
    k.steps w (event.Api node asa call hold) c v r p o is tt (held_reached s w (event.Api node asa call hold) c v r o is)
part_kept s P k w (event.Datagram index hold) c v r p o is least = k.steps w (event.Datagram index hold) c v r p o is tt (held_reached s w (event.Datagram index hold) c v r o is)
part_kept s P k w (event.Arrive stream hold) c v r p o is least = k.steps w (event.Arrive stream hold) c v r p o is tt (held_reached s w (event.Arrive stream hold) c v r o is)
part_kept s P k w (event.Bytes stream far count hold) c v r p o is least =
    k.steps w (event.Bytes stream far count hold) c v r p o is tt (held_reached s w (event.Bytes stream far count hold) c v r o is)
part_kept s P k w (event.Cut stream far hold) c v r p o is least = k.steps w (event.Cut stream far hold) c v r p o is tt (held_reached s w (event.Cut stream far hold) c v r o is)
part_kept s P k w (event.Drain node max) c v r p o is least = k.drains w v.node max r p least

behind_kept : (s : Setting) (P : WorldState → Type 0) → PartsKeep s P → (b : Bool) (w : WorldState) (node : ℕ) → IsReached s w → P w → 1 ≤ node → P (drained_behind b s w node)
behind_kept s P k true w node r p least = k.drains w node event_drain r p least
behind_kept s P k false w node r p least = p

none_kept : (s : Setting) (P : WorldState → Type 0) → PartsKeep s P → (w : WorldState) (e : Event) → IsReached s w → P w → (after_none s w e ≡ w) ⊎ Tells s w e (after_none s w e) → P (after_none s w e)
none_kept s P k w e r p (inl same) = subst P (sym same) p
none_kept s P k w e r p (inr t) = k.told w (after_none s w e) e r t p

event_kept : (s : Setting) (P : WorldState → Type 0) → PartsKeep s P → (w : WorldState) (e : Event) (c : Choice) → IsReached s w → P w → Occurs s w e c → P (after_event s w e c)
unfolding after_event
event_kept s P k w e c r p o = by_visit (visit_of s w e) refl where
  by_visit : (x : Option Visit) → visit_of s w e ≡ x → P (after_by s w e c x)
  by_visit None is = none_kept s P k w e r p (none_tells s w e o.fit)
  by_visit (Some v) is =
      let least = (visits_are_here s w e v is).member.least in
      behind_kept s P k (drains e) (after_visit s w e v c) v.node (held_reached s w e c v r o is) (part_kept s P k w e c v r p o is least) least

-- what holds of the first network, and is kept by each part of an event and by each other turn, holds of every network that turns lead to
pub parts_keep : (s : Setting) (P : WorldState → Type 0) → PartsKeep s P → P (first_world s) → (w : WorldState) → IsReached s w → P w
parts_keep s P k first w r = reached_holds s P first (record {
  events = λ x e c g o p. event_kept s P k x e c g p o;
  settles = λ x node p g dead all. k.settles x (after_settle x node p) node p g (settling_is x node p dead) all;
  restarts = λ x node image g may all. k.restarts x (after_restart s x node image) node image g (restarting_is s x node image may) all;
}) w r
