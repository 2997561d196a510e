-- A stream keeps its place and its ends, and no less is said on it.
use Rattle.std.proofs.Common.{◌≡◌, refl, sym, ap, ◌∙◌, subst, arith, ℕ, zero, suc, ◌<◌, ◌≤◌, Bool, true, false, cond, nat_lt, get_or, List, [], ◌∷◌, length, slice_get, Option, Some, None}
use Rattle.std.proofs.lemmas.Bool.{lt-ltb}
use Rattle.std.proofs.lemmas.List.Sums.{position_or_len_is}
use Rattle.std.proofs.lemmas.Option.{none-some, slice_get_within, slice_get-get_or, get_or_from_slice_get, same_Some}
use Rattle.std.specs.List.{position_or_len}
use Rattle.grasp_model_node.specs.Queue.{Queued}
use Rattle.grasp_laws_node_stories.specs.Stories.{OpensIt}
use Rattle.grasp_session.specs.Messages.{Side, Near, Far}
use Rattle.grasp_laws_network.proofs.Growing.{visit_grows}
use Rattle.grasp_model_network.specs.StreamChanges.{arrived, arrival_by, reached_side, side_named}
use Rattle.grasp_model_network.specs.Events.{visit_of, after_visit}
use Rattle.grasp_laws_network.specs.Keeping.{StreamGrows, StreamsGrow}
use Rattle.grasp_model_network.specs.Runs.{IsReached}
use Rattle.grasp_model_network.specs.Sending.{gained, handed_over}
use Rattle.grasp_model_network.specs.Setting.{Setting}
use Rattle.grasp_model_network.specs.Streams.{StreamEnd, StreamState, end_at, has_end, place_of_end, count_at_end}
use Rattle.grasp_model_network.specs.Visits.{Visit, Choice}
use Rattle.grasp_model_network.specs.World.{WorldState}
use Rattle.grasp_model_network.specs.declared.event.Event.{Event}
use Rattle.grasp_model_network.specs.declared.event.Event.TheVariants as event
use Rattle.grasp_laws_delivery.proofs.AfterSteps.{streams_before, streams_stepped}
use Rattle.grasp_laws_delivery.proofs.Holding.{IsStep}
use Rattle.grasp_laws_delivery.proofs.Came.Inputs.{IsOpening, opening_is}
use Rattle.grasp_laws_delivery.proofs.OnePlace.{Placed, numbered_place, one_talk, has_it}
use Rattle.grasp_laws_delivery.specs.Ready.{FarWaits, StreamsAreReady}
use Rattle.grasp_laws_negotiation.proofs.Events.{Premade, harmless_premade, opened_premade, like_ends}
use Rattle.grasp_laws_negotiation.proofs.Harmless.{Harmless, same_talks, delivered_harmless, told_harmless, handed_harmless}
use Rattle.grasp_laws_negotiation.proofs.Steps.{every_at}
use Rattle.grasp_laws_negotiation.proofs.StreamsMade.{with_voices, made_stays, one_place}
use Rattle.grasp_laws_prefixes.proofs.Standing.{IsEndAt, AllStay}

-- ---- one place for an end

-- where at most one stream has an end, it is found at its place
pub place_found : (ts : List StreamState) (e : StreamEnd) (place : ℕ) (t : StreamState) → count_at_end ts e ≤ 1 → slice_get ts place ≡ Some t → has_end e t ≡ true → place_of_end ts e ≡ Some place
place_found ts e place t few is has =
    ap (λ n. cond (nat_lt n (length ts)) (Some n) None) first ∙ ap (λ b. cond b (Some place) None) (lt-ltb place (length ts) low) where
      low : place < length ts
      low = slice_get_within ts place t is

      below : (a b : ℕ) → a < b → a ≤ b
      below a b h = omega arith

      less : (a b c : ℕ) → a < b → b < c → a < c
      less a b c h k = omega arith

      not_same : (a b : ℕ) → a < b → a ≡ b → ⊥
      not_same a b h f = omega arith

      before : (k : ℕ) → k < place → has_end e (get_or ts k t) ≡ false
      before k h = by_test (has_end e (get_or ts k t)) refl where
        by_test : (b : Bool) → has_end e (get_or ts k t) ≡ b → b ≡ false
        by_test true it = absurd (not_same k place h (one_place e ts k place (get_or ts k t) t few (slice_get-get_or ts k t (less k place (length ts) h low)) it is has))
        by_test false it = refl

      first : position_or_len (has_end e) ts ≡ place
      first = position_or_len_is (has_end e) ts place t (below place (length ts) low) before (λ h. ap (has_end e) (get_or_from_slice_get ts place t t is) ∙ has)

-- two streams that were opened at one end are at one place
pub same_place : StreamsAreReady → (s : Setting) (w : WorldState) → IsReached s w → (e : StreamEnd) (i j : ℕ) (t u : StreamState) (a b : Side) → slice_get w.streams i ≡ Some t → end_at t a ≡ Some e
    → slice_get w.streams j ≡ Some u → end_at u b ≡ Some e → i ≡ j
same_place ready s w r e i j t u a b is at it has = one_place e w.streams i j t u (ready.apart s w r e) is (has_it t e a at) it (has_it u e b has)

-- ---- what a step leaves

-- the streams are where they were, with the ends that they had
abbrev EndsStay : List StreamState → List StreamState → Type 0
EndsStay ts us = (place : ℕ) (t : StreamState) → slice_get ts place ≡ Some t
    → (u : StreamState) × (slice_get us place ≡ Some u) × ((side : Side) (e : StreamEnd) → end_at t side ≡ Some e → end_at u side ≡ Some e)

module _ (ready : StreamsAreReady) (s : Setting) (w : WorldState) (r : IsReached s w) where
  arrival_before : (k : ℕ) (v : Visit) (c : Choice) (hold : Bool) → visit_of s w (event.Arrive k hold) ≡ Some v
      → Premade w.streams (streams_before s w (event.Arrive k hold) v c) v.node v.input
  arrival_before k v c hold is = by_opening (opening_is s w k v is) where
    by_opening : IsOpening s w k v → Premade w.streams (streams_before s w (event.Arrive k hold) v c) v.node v.input
    by_opening p =
        let number = s.arrives_as v.node k in
        let at : Placed w.streams p.talk = numbered_place k w.streams p.talk p.found in
        subst (λ (z : Option StreamState). Premade w.streams (arrived w v number c.reply z).streams v.node v.input) (sym p.found)
        (opened_premade w.streams v.node v.input p.talk.near number (arrival_by c.reply) (subst (λ z. OpensIt z number) (sym p.is.input_is) refl)
        (λ place t stands side has. unopened place t stands side p has at)) where
          unopened : (place : ℕ) (t : StreamState) → slice_get w.streams place ≡ Some t → (side : Side) → (p : IsOpening s w k v) → end_at t side ≡ Some p.talk.near → Placed w.streams p.talk → t.far ≡ None
          unopened place t stands side p has at =
              let one : t ≡ p.talk = one_talk p.talk.near w.streams place at.place t p.talk (ready.apart s w r p.talk.near) stands (has_it t p.talk.near side has) at.stands (has_it p.talk p.talk.near Near refl) in
              ap (λ (x : StreamState). x.far) one ∙ every_at FarWaits w.streams at.place p.talk (ready.waits s w r) at.stands p.waiting

  quiet_before : (v : Visit) (us : List StreamState) → Harmless w.streams us → Premade w.streams us v.node v.input
  quiet_before v us h = harmless_premade w.streams us v.node v.input h

  step_before : (e : Event) (v : Visit) (c : Choice) → visit_of s w e ≡ Some v → IsStep e → Premade w.streams (streams_before s w e v c) v.node v.input
  step_before (event.Want node length longest peer) v c is step = absurd step
  step_before (event.Return node prefix peer) v c is step = absurd step
  step_before (event.Arrive stream hold) v c is step = arrival_before stream v c hold is
  step_before (event.Bytes stream far count hold) v c is step =
      quiet_before v (streams_before s w (event.Bytes stream far count hold) v c) (delivered_harmless w count (reached_side w stream (side_named far)))
  step_before (event.Cut stream far hold) v c is step = quiet_before v (streams_before s w (event.Cut stream far hold) v c) (told_harmless w (reached_side w stream (side_named far)))
  step_before (event.Drain node max) v c is step = absurd step
  step_before _ v c is step = quiet_before v w.streams (same_talks w.streams)

  voices_end : (node : ℕ) (qs : List Queued) (t : StreamState) (side : Side) (e : StreamEnd) → end_at t side ≡ Some e → end_at (with_voices node qs t) side ≡ Some e
  voices_end node qs t Near e at = at
  voices_end node qs t Far e at = at

  step_ends : (e : Event) (v : Visit) (c : Choice) → visit_of s w e ≡ Some v → IsStep e → EndsStay w.streams (after_visit s w e v c).streams
  step_ends e v c is step place t stands =
      let p = (step_before e v c is step).forth place t stands in
      let qs = gained v.seat.core c.after in (
        with_voices v.node qs p.after,
        ap (λ (ts : List StreamState). slice_get ts place) (streams_stepped s w e v c step) ∙ made_stays v.node qs (streams_before s w e v c) place p.after p.stands,
        λ side end at. voices_end v.node qs p.after side end (p.ends side end at),
      )

  grown_at : (ts us : List StreamState) → StreamsGrow ts us → (place : ℕ) (t u : StreamState) → slice_get ts place ≡ Some t → slice_get us place ≡ Some u → StreamGrows t u
  grown_at [] us g place t u is it = absurd (none-some t is)
  grown_at (x ∷ ts) [] g place t u is it = absurd g
  grown_at (x ∷ ts) (y ∷ us) g zero t u is it = subst (λ z. StreamGrows z u) (same_Some x t is) (subst (λ z. StreamGrows x z) (same_Some y u it) g.0)
  grown_at (x ∷ ts) (y ∷ us) g (suc place) t u is it = grown_at ts us g.1 place t u is it

  pub step_stays : (e : Event) (v : Visit) (c : Choice) → visit_of s w e ≡ Some v → IsStep e → AllStay w.streams (after_visit s w e v c).streams
  step_stays e v c is step place t stands =
      let u = step_ends e v c is step place t stands in
      let g = grown_at w.streams (after_visit s w e v c).streams (visit_grows s w e v c).streams place t u.0 stands u.1 in
      record { after = u.0; stands = u.1; ends = u.2; newer = g.said.0; said = g.said.1 }

-- ---- what a drain and a want leave

pub same_stay : (ts us : List StreamState) → us ≡ ts → AllStay ts us
same_stay ts us e place t stands = record { after = t; stands = ap (λ (xs : List StreamState). slice_get xs place) e ∙ stands; ends = λ side end at. at; newer = []; said = refl }

pub handed_stay : (s : Setting) (w : WorldState) (node : ℕ) (qs : List Queued) (streams : List ℕ) → AllStay w.streams (handed_over s w node qs streams).streams
handed_stay s w node qs streams place t stands =
    let m = (handed_harmless s w node qs streams).forth place t stands in
    record { after = m.after; stands = m.stands; ends = like_ends t m.after m.like; newer = []; said = m.like.said }

-- ---- the ends of a stream

pub end_stays : (ts us : List StreamState) → AllStay ts us → (place : ℕ) (side : Side) (e : StreamEnd) → IsEndAt ts place side e → IsEndAt us place side e
end_stays ts us stay place side e at =
    let u = stay place at.talk at.stands in
    record { talk = u.after; stands = u.stands; end_is = u.ends side e at.end_is }
