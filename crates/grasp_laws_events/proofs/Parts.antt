-- What an event is once its step is known, and that each member has a node.
use Rattle.std.proofs.Common.{◌≡◌, refl, ap, ◌∙◌, subst, ℕ, not, false, length, Option, None, Some}
use Rattle.grasp_laws_network.proofs.Lists.{numbered_there}
use Rattle.grasp_laws_network.proofs.LivesKept.{lives_are_kept}
use Rattle.grasp_model_network.specs.Events.{after_by, after_event, after_none, after_visit, drained_behind, drains, visit_of, Occurs}
use Rattle.grasp_model_network.specs.Plans.{IsNode}
use Rattle.grasp_model_network.specs.Reports.{report_by, report_of, report_visit}
use Rattle.grasp_model_network.specs.Runs.{IsReached}
use Rattle.grasp_model_network.specs.Setting.{Setting}
use Rattle.grasp_model_network.specs.Visits.{Visit, Choice, MayCome, VisitStep}
use Rattle.grasp_model_network.specs.World.{Seat, WorldState, present_life, seat_at}
use Rattle.grasp_model_network.specs.declared.event.Event.{Event}
use Rattle.grasp_model_network.specs.declared.event.Event.TheVariants as event
use Rattle.grasp_laws_events.specs.Steps.{SendsNothingBehind}

pub after_is : (s : Setting) (w : WorldState) (e : Event) (c : Choice) (v : Visit) → visit_of s w e ≡ Some v
    → after_event s w e c ≡ drained_behind (drains e) s (after_visit s w e v c) v.node
unfolding after_event
after_is s w e c v is = ap (after_by s w e c) is

pub none_is : (s : Setting) (w : WorldState) (e : Event) (c : Choice) → visit_of s w e ≡ None → after_event s w e c ≡ after_none s w e
unfolding after_event
none_is s w e c is = ap (after_by s w e c) is

pub report_is : (s : Setting) (w : WorldState) (e : Event) (c : Choice) (v : Visit) → visit_of s w e ≡ Some v → report_of s w e c ≡ report_visit e v c
unfolding report_of
report_is s w e c v is = ap (report_by w e c) is

pub comes_is : (s : Setting) (w : WorldState) (e : Event) (c : Choice) (v : Visit) → visit_of s w e ≡ Some v → Occurs s w e c → VisitStep v c
comes_is s w e c v is o = subst (λ (x : Option Visit). MayCome x c) is o.comes

-- each member has a node in its present life
pub has_seat : (s : Setting) (w : WorldState) (node : ℕ) → IsReached s w → IsNode (length s.members) node → (seat : Seat) × (seat_at w (present_life w node) ≡ Some seat)
has_seat s w node r member = numbered_there w.seats (present_life w node) ((lives_are_kept s w r).present node member)

-- ---- events that send nothing behind their steps

drains_none : (e : Event) → SendsNothingBehind e → drains e ≡ false
drains_none (event.Clock node millis) h = refl
drains_none (event.Want node length longest peer) h = refl
drains_none (event.Return node prefix peer) h = refl
drains_none (event.Agent node hold) h = ap not h
drains_none (event.Api node asa call hold) h = ap not h
drains_none (event.Datagram index hold) h = ap not h
drains_none (event.Arrive k hold) h = ap not h
drains_none (event.Bytes k far count hold) h = ap not h
drains_none (event.Cut k far hold) h = ap not h
drains_none (event.Drain node max) h = refl

-- an event that sends nothing behind its step leaves what its step does
pub held_is : (s : Setting) (w : WorldState) (e : Event) (c : Choice) (v : Visit) → visit_of s w e ≡ Some v → SendsNothingBehind e → after_event s w e c ≡ after_visit s w e v c
held_is s w e c v is h = after_is s w e c v is ∙ ap (λ b. drained_behind b s (after_visit s w e v c) v.node) (drains_none e h)
