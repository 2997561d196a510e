-- An event behind which nothing is sent, and the drain that comes then.
use Rattle.std.proofs.Common.{◌≡◌, refl, sym, ap, ◌∙◌, subst, arith, tests, ℕ, ◌≤◌, Bool, true, false, nat_lt, length, Option, None, Some}
use Rattle.std.proofs.lemmas.Bool.{true≢false}
use Rattle.grasp_laws_delivery.proofs.Holding.{IsStep}
use Rattle.grasp_laws_delivery.specs.Ready.{StepsArePresent}
use Rattle.grasp_laws_delivery.specs.Undrained.{undrained}
use Rattle.grasp_laws_network.proofs.Growing.{behind_grows}
use Rattle.grasp_laws_network.proofs.Here.{visits_are_here}
use Rattle.grasp_laws_network.proofs.Lives.{is_present_life, same_present}
use Rattle.grasp_laws_network.proofs.LivesKept.{life_member, lives_are_kept}
use Rattle.grasp_laws_network.proofs.SameLives.{event_lives}
use Rattle.grasp_laws_network.specs.Keeping.{WorldGrows}
use Rattle.grasp_types.specs.declared.traffic.Input.TheVariants as input
use Rattle.grasp_model_network.specs.Events.{IsFit, Occurs, Overflows, after_by, after_event, after_none, after_visit, drained_behind, drains, visit_of}
use Rattle.grasp_model_network.specs.Plans.{IsNode}
use Rattle.grasp_model_network.specs.Runs.{IsReached}
use Rattle.grasp_model_network.specs.Sending.{drained, event_drain}
use Rattle.grasp_model_network.specs.Setting.{Setting}
use Rattle.grasp_model_network.specs.Visits.{Choice, MayCome, Visit, visit_seat}
use Rattle.grasp_model_network.specs.World.{Seat, WorldState, is_too_much, member_of, most_bytes, present_life, seat_at}
use Rattle.grasp_model_network.specs.declared.event.Event.{Event}
use Rattle.grasp_model_network.specs.declared.event.Event.TheVariants as event
use Rattle.grasp_recorder.proofs.Readings.{IsPut, behind_of, put_after}

-- ---- the event without its drain

pub held_visit : (s : Setting) (w : WorldState) (e : Event) → visit_of s w (undrained e) ≡ visit_of s w e
held_visit s w (event.Clock node millis) = refl
held_visit s w _ = refl

held_after : (s : Setting) (w : WorldState) (e : Event) (v : Visit) (c : Choice) → after_visit s w (undrained e) v c ≡ after_visit s w e v c
held_after s w (event.Clock node millis) v c = refl
held_after s w _ v c = refl

held_drains : (e : Event) → drains (undrained e) ≡ false
held_drains (event.Clock node millis) = refl
held_drains _ = refl

pub held_fit : (s : Setting) (w : WorldState) (e : Event) → IsFit s w e → IsFit s w (undrained e)
held_fit s w (event.Clock node millis) f = f
held_fit s w _ f = f

-- it is the event itself, where nothing is sent behind that
pub held_same : (e : Event) → drains e ≡ false → undrained e ≡ e
held_same (event.Agent node true) none = refl
held_same (event.Agent node false) none = absurd (true≢false none)
held_same (event.Api node asa call true) none = refl
held_same (event.Api node asa call false) none = absurd (true≢false none)
held_same (event.Datagram index true) none = refl
held_same (event.Datagram index false) none = absurd (true≢false none)
held_same (event.Arrive stream true) none = refl
held_same (event.Arrive stream false) none = absurd (true≢false none)
held_same (event.Bytes stream far count true) none = refl
held_same (event.Bytes stream far count false) none = absurd (true≢false none)
held_same (event.Cut stream far true) none = refl
held_same (event.Cut stream far false) none = absurd (true≢false none)
held_same (event.Clock node millis) none = refl
held_same (event.Want node shortest longest peer) none = refl
held_same (event.Return node prefix peer) none = refl
held_same (event.Drain node most) none = refl

-- its network is the one behind the step
pub held_event : (s : Setting) (w : WorldState) (e : Event) (v : Visit) (c : Choice) → visit_of s w e ≡ Some v → after_event s w (undrained e) c ≡ after_visit s w e v c
unfolding after_event
held_event s w e v c is =
    ap (λ (o : Option Visit). after_by s w (undrained e) c o) (held_visit s w e ∙ is)
    ∙ (ap (λ (b : Bool). drained_behind b s (after_visit s w (undrained e) v c) v.node) (held_drains e) ∙ held_after s w e v c)

none_told : (s : Setting) (w : WorldState) (e : Event) → after_none s w (undrained e) ≡ after_none s w e
none_told s w (event.Clock node millis) = refl
none_told s w _ = refl

-- where nothing comes of it, the two are one
pub held_none : (s : Setting) (w : WorldState) (e : Event) (c : Choice) → visit_of s w e ≡ None → after_event s w (undrained e) c ≡ after_event s w e c
unfolding after_event
held_none s w e c is =
    ap (λ (o : Option Visit). after_by s w (undrained e) c o) (held_visit s w e ∙ is)
    ∙ none_told s w e
    ∙ sym (ap (λ (o : Option Visit). after_by s w e c o) is)

held_comes : (s : Setting) (w : WorldState) (e : Event) (c : Choice) → MayCome (visit_of s w (undrained e)) c → MayCome (visit_of s w e) c
held_comes s w e c h = subst (λ (o : Option Visit). MayCome o c) (held_visit s w e) h

-- ---- how much is sent

more_sent : (most a b : ℕ) → a ≤ b → nat_lt most a ≡ true → nat_lt most b ≡ true
more_sent most a b h k = grind (arith, tests)

grown : (w x : WorldState) → WorldGrows w x → is_too_much w ≡ true → is_too_much x ≡ true
grown w x g e = more_sent most_bytes w.byte_count x.byte_count g.byte_count e

-- where the event without its drain sends too much, so does the event
pub held_overflows : (s : Setting) (w : WorldState) (e : Event) → Overflows s w (undrained e) → Overflows s w e
held_overflows s w e h = record { choice = h.choice; comes = held_comes s w e h.choice h.comes; too_much = by (visit_of s w e) refl } where
  by : (o : Option Visit) → visit_of s w e ≡ o → is_too_much (after_event s w e h.choice) ≡ true
  by None is = subst (λ (x : WorldState). is_too_much x ≡ true) (held_none s w e h.choice is) h.too_much
  by (Some v) is =
      subst (λ (x : WorldState). is_too_much x ≡ true) (sym (behind_of s w e v h.choice is))
      (grown (after_visit s w e v h.choice) (drained_behind (drains e) s (after_visit s w e v h.choice) v.node)
      (behind_grows (drains e) s (after_visit s w e v h.choice) v.node)
      (subst (λ (x : WorldState). is_too_much x ≡ true) (held_event s w e v h.choice is) h.too_much))

-- ---- where no drain comes

-- where nothing is sent behind the event, or nothing comes of it, it occurs as it does without its drain
pub alone_occurs : (s : Setting) (w : WorldState) (e : Event) (c : Choice) → IsFit s w e → Occurs s w (undrained e) c → after_event s w (undrained e) c ≡ after_event s w e c → Occurs s w e c
alone_occurs s w e c fit o same = record { fit = fit; comes = held_comes s w e c o.comes; enough = subst (λ (x : WorldState). is_too_much x ≡ false) same o.enough }

pub alone_after : (s : Setting) (w : WorldState) (e : Event) (c : Choice) → drains e ≡ false → after_event s w (undrained e) c ≡ after_event s w e c
alone_after s w e c none = ap (λ (f : Event). after_event s w f c) (held_same e none)

-- ---- the drain

-- the member whose present life makes a step
pub record IsMember (s : Setting) (w : WorldState) (v : Visit) : Type 0 where
  pub life : present_life w (member_of w v.node) ≡ v.node
  pub is_node : IsNode (length s.members) (member_of w v.node)

pub visit_member : (s : Setting) (w : WorldState) (e : Event) (v : Visit) → IsReached s w → visit_of s w e ≡ Some v → IsNode (length s.members) (member_of w v.node)
visit_member s w e v r is =
    let stand = lives_are_kept s w r in
    stand.members v.node (member_of w v.node) (life_member s w v.node stand (visits_are_here s w e v is).member)

pub step_member : StepsArePresent → (s : Setting) (w : WorldState) (e : Event) (v : Visit) → IsReached s w → IsFit s w e → visit_of s w e ≡ Some v → IsMember s w v
step_member present s w e v r fit is = record { life = sym (is_present_life w v.node (present s w e v r fit is)); is_node = visit_member s w e v r is }

module _ (s : Setting) (w : WorldState) (e : Event) (v : Visit) (c : Choice) (is : visit_of s w e ≡ Some v) (member : IsMember s w v) (step : IsStep e) (some : drains e ≡ true) where
  abbrev node : ℕ
  node = member_of w v.node

  abbrev between : WorldState
  between = after_event s w (undrained e) c

  put : IsPut between v c
  put = subst (λ (x : WorldState). IsPut x v c) (sym (held_event s w e v c is)) (put_after s w e v c step is)

  life : present_life between node ≡ v.node
  life = same_present w between node (event_lives s w (undrained e) c) ∙ member.life

  -- the node as the step leaves it
  pub left_seat : Seat
  left_seat = put.seat

  pub left_core : left_seat.core ≡ c.after
  unfolding left_seat put
  left_core = put.core

  pub left_here : seat_at between (present_life between node) ≡ Some left_seat
  unfolding left_seat put
  left_here = ap (λ k. seat_at between k) life ∙ put.at

  drain_visits : visit_of s between (event.Drain node event_drain) ≡ Some (record { node = v.node; seat = left_seat; now = left_seat.core.reading; input = input.Drain event_drain })
  unfolding left_seat put
  drain_visits =
      ap (λ k. visit_seat k (input.Drain event_drain) (seat_at between k)) life
      ∙ ap (λ (o : Option Seat). visit_seat v.node (input.Drain event_drain) o) put.at

  drain_after : (d : Choice) → after_event s between (event.Drain node event_drain) d ≡ drained s between v.node event_drain
  unfolding after_event
  drain_after d = ap (λ (o : Option Visit). after_by s between (event.Drain node event_drain) d o) drain_visits

  -- the drain leads to the network behind the event
  pub behind_drain : (d : Choice) → after_event s between (event.Drain node event_drain) d ≡ after_event s w e c
  behind_drain d =
      drain_after d
      ∙ ap (λ (x : WorldState). drained s x v.node event_drain) (held_event s w e v c is)
      ∙ sym (behind_of s w e v c is ∙ ap (λ (b : Bool). drained_behind b s (after_visit s w e v c) v.node) some)

  -- so the event occurs where the drain does
  pub drained_occurs : (d : Choice) → IsFit s w e → Occurs s w (undrained e) c → Occurs s between (event.Drain node event_drain) d → Occurs s w e c
  drained_occurs d fit o p = record { fit = fit; comes = held_comes s w e c o.comes; enough = subst (λ (x : WorldState). is_too_much x ≡ false) (behind_drain d) p.enough }

  -- and sends too much where the drain does
  pub drained_overflows : Occurs s w (undrained e) c → Overflows s between (event.Drain node event_drain) → Overflows s w e
  drained_overflows o p = record { choice = c; comes = held_comes s w e c o.comes; too_much = subst (λ (x : WorldState). is_too_much x ≡ true) (behind_drain p.choice) p.too_much }

-- ---- steps

-- an event behind which something is sent makes a step
pub drains_step : (e : Event) → drains e ≡ true → IsStep e
drains_step (event.Clock _ _) some = absurd (true≢false (sym some))
drains_step (event.Want _ _ _ _) some = absurd (true≢false (sym some))
drains_step (event.Return _ _ _) some = absurd (true≢false (sym some))
drains_step (event.Drain _ _) some = absurd (true≢false (sym some))
drains_step _ some = tt
