-- A stream that is opened where it was dialled to.
use Rattle.std.proofs.Common.{◌≡◌, ◌≤◌, refl, sym, ap, ◌∙◌, subst, arith, ℕ, ◌+◌, ◌-◌, ◌*◌, ◌%◌, ◌/◌, ◌==◌, Bool, true, false, cond, List, Option, Some, None, length, slice_get, slice_set}
use Rattle.std.proofs.lemmas.Option.{none-some, slice_get_past}
use Rattle.grasp_model_network.specs.Setting.{numbered}
use Rattle.grasp_model_network.specs.World.{end_of}
use Rattle.grasp_model_network.specs.Streams.{StreamEnd, Arrival, StreamState, is_number, stream_numbered, change_at_end, with_far}
use Rattle.grasp_session.specs.Messages.{Side, Near}
use Rattle.grasp_simulator.specs.StreamParts.{standing_by, stream_opened}
use Rattle.grasp_simulator.specs.StreamsStand.{Queueing, dial_at, arrival_of, StreamStands, HeldAs, IsDialled, TalkStands, numbers, TableStands, IsTalk, near_here, near_place, far_here, place_in}
use Rattle.grasp_simulator.specs.declared.stream.Stream.{Stream}
use Rattle.grasp_simulator.specs.declared.stream.LifeEnd.{LifeEnd}
use Rattle.grasp_simulator.proofs.StreamChanges.{KeepsNumber, changed}
use Rattle.grasp_simulator.proofs.StreamTalks.{Chosen, found_is, at_least_1, talk_at}
use Rattle.std.proofs.lemmas.Bool.{eqb-true}
use Rattle.grasp_laws_delivery.proofs.Ends.{end_itself}

-- how the far side stands then
abbrev pub opened_as : Bool → Arrival
opened_as taken = arrival_of (standing_by taken)

-- the far end of the stream of this number at this node
abbrev pub far_at : ℕ → ℕ → StreamEnd
far_at node k = end_of node (2 * k - 1)

opens : (node : ℕ) (taken : Bool) (code : Stream) (k : ℕ) (t : StreamState) → StreamStands code k t → StreamStands (stream_opened code node taken) k (with_far (far_at node k) (opened_as taken) t Near)
opens node taken code k t s = record { near = s.near; even = s.even; to = s.to; far = refl; near_side = s.near_side; far_side = refl; from_near = s.from_near; from_far = s.from_far }

far_number_stays : (e : StreamEnd) (a : Arrival) → KeepsNumber (with_far e a)
far_number_stays e a t side = refl

far_near_stays : (e : StreamEnd) (a : Arrival) (t : StreamState) (side : Side) → (with_far e a t side).near ≡ t.near
far_near_stays e a t side = refl

module _ (streams : List Stream) (index : List (LifeEnd × ℕ)) (begins : Queueing) (ts : List StreamState) (dials : ℕ) (s : TableStands streams index begins ts dials) where
  -- the stream of a number that was dialled
  dialled_by : (k : ℕ) (t : StreamState) (o : Option ℕ) → is_number k o ≡ true → TalkStands streams index begins t o → IsDialled streams index k t
  dialled_by k t None is h = absurd (cc)
  dialled_by k t (Some j) is h = subst (λ (m : ℕ). IsDialled streams index m t) (eqb-true j k is) h

  pub dialled_of : (k : ℕ) (t : StreamState) → stream_numbered ts k ≡ Some t → IsDialled streams index k t
  dialled_of k t found =
      let c : Chosen (λ (x : StreamState). TalkStands streams index begins x x.number) (numbers k) t = found_is (λ (x : StreamState). TalkStands streams index begins x x.number) (numbers k) ts t found s.each in
      dialled_by k t t.number c.passes c.holds

  stands_at : (k : ℕ) (code : Stream) (t : StreamState) (p : Option StreamState) → slice_get streams (k - 1) ≡ Some code → 1 ≤ k → stream_numbered ts k ≡ Some t → StreamStands code k t
  stands_at k code t p got least found =
      let here : numbered streams k ≡ Some code = at_least_1 streams index begins ts dials s k least ∙ got in
      let a : IsTalk k (Some code) (stream_numbered ts k) = subst (λ o. IsTalk k o (stream_numbered ts k)) here (talk_at streams index begins ts dials s k) in
      subst (λ o. IsTalk k (Some code) o) found a

  -- the place of its near end
  near_at : (k : ℕ) (code : Stream) (t : StreamState) → slice_get streams (k - 1) ≡ Some code → StreamStands code k t → IsDialled streams index k t → place_in streams index code.near code.number ≡ Some (k - 1, false)
  near_at k code t got h d =
      let e : StreamEnd = end_of code.near code.number in
      let even : code.number % 2 ≡ 0 = sym (ap (λ (x : StreamEnd). x.number % 2) h.near) ∙ h.even in
      let known : dial_at index e ≡ Some k = ap (dial_at index) (sym h.near) ∙ d.known in
      ap (λ m. cond (m == 0) (near_place streams e (dial_at index e)) (far_here (slice_get streams (code.number / 2)) code.near (code.number / 2))) even
      ∙ (ap (near_place streams e) known ∙ (ap (λ o. near_here o e (k - 1)) got ∙ ap (λ b. cond b (Some (k - 1, false)) None) (end_itself e)))

  pub opened_here : (k node : ℕ) (taken : Bool) (code after : Stream) (t : StreamState) → 1 ≤ k → slice_get streams (k - 1) ≡ Some code → after ≡ stream_opened code node taken → stream_numbered ts k ≡ Some t
      → TableStands (slice_set streams (k - 1) after) index begins (change_at_end ts t.near (with_far (far_at node k) (opened_as taken))) dials
  opened_here k node taken code after t least got new found =
      let h : StreamStands code k t = stands_at k code t None got least found in
      let d : IsDialled streams index k t = dialled_of k t found in
      let n : (k - 1) + 1 ≡ k = omega (arith, least) in
      let f : StreamState → Side → StreamState = with_far (far_at node k) (opened_as taken) in
      let opened : Stream = stream_opened code node taken in
      subst (λ (c : Stream). TableStands (slice_set streams (k - 1) c) index begins (change_at_end ts t.near f) dials) (sym new)
      (subst (λ (e : StreamEnd). TableStands (slice_set streams (k - 1) opened) index begins (change_at_end ts e f) dials) (sym h.near)
      (changed streams index begins code.near code.number (k - 1, false) f code opened (far_number_stays (far_at node k) (opened_as taken)) (far_near_stays (far_at node k) (opened_as taken))
      (near_at k code t got h d) got
      (λ x stands. subst (λ (j : ℕ). StreamStands opened j (f x Near)) (sym n) (opens node taken code k x (subst (λ (j : ℕ). StreamStands code j x) n stands))) ts dials refl refl s))

  held_not : (k : ℕ) (t : StreamState) (o : Option Stream) → o ≡ None → HeldAs o k t → ⊥
  held_not k t None is h = h
  held_not k t (Some code) is h = absurd (none-some code (sym is))

  -- a stream that has a number is among those of the table
  pub is_kept : (k : ℕ) (t : StreamState) → stream_numbered ts k ≡ Some t → (1 ≤ k) × (length streams ≤ k - 1 → ⊥)
  is_kept k t found = let d : IsDialled streams index k t = dialled_of k t found in (d.least, λ past. held_not k t (slice_get streams (k - 1)) (slice_get_past streams (k - 1) past) d.held)
