-- The stream that has a number at a node.
use Rattle.std.proofs.Common.{◌≡◌, ◌≤◌, ◌<◌, inl, inr, refl, sym, ap, ◌∙◌, subst, arith, ℕ, ◌+◌, ◌-◌, ◌==◌, Bool, true, false, List, length, Option, Some, None, is_some, IfSome}
use Rattle.std.specs.List.{count_by, find}
use Rattle.std.proofs.lemmas.Bool.{cases_Bool, eqb-true}
use Rattle.std.proofs.lemmas.Option.{none-some}
use Rattle.grasp_laws_network.proofs.Routing.{is_itself}
use Rattle.grasp_model_network.specs.StreamChanges.{side_named}
use Rattle.grasp_model_network.specs.Streams.{StreamEnd, StreamState, has_end, is_number, side_of_end, stream_numbered}
use Rattle.grasp_model_network.specs.World.{end_of}
use Rattle.grasp_session.specs.Messages.{Side, Near, Far}
use Rattle.grasp_simulator.specs.Lending.{dialled_at, is_far, numbered_side}
use Rattle.grasp_simulator.specs.StreamsStand.{Queueing, TableStands, TalkStands, numbers, place_in}
use Rattle.grasp_simulator.specs.declared.stream.LifeEnd.{LifeEnd}
use Rattle.grasp_simulator.specs.declared.stream.Stream.{Stream}
use Rattle.grasp_simulator.proofs.StreamMakes.{found_counts}
use Rattle.grasp_simulator.proofs.StreamPlaces.{side_at_place, side_here, side_in, side_of_queued, true_false}
use Rattle.grasp_simulator.proofs.StreamTalks.{Chosen, found_is, none_counted}

-- the number of the stream of a place
abbrev pub number_at : Option (ℕ × Bool) → Option (ℕ × Bool)
number_at None = None
number_at (Some p) = Some (p.0 + 1, p.1)

side_far : (far : Bool) → is_far (side_named far) ≡ far
side_far true = refl
side_far false = refl

-- a side that is there at this place is that of the stream of its number
at_place : (far : Bool) (i k : ℕ) (b : Bool) → ((i + 1) == k) ≡ b → is_some (side_at_place far b) ≡ true → numbered_side (Some k) (side_at_place far b) ≡ Some (i + 1, far)
at_place far i k true is has =
    let n : i + 1 ≡ k = eqb-true (i + 1) k is in
    ap (λ (b : Bool). Some (k, b)) (side_far far) ∙ ap (λ (m : ℕ). Some (m, far)) (sym n)
at_place far i k false is has = absurd (cc)

module _ (streams : List Stream) (index : List (LifeEnd × ℕ)) (begins : Queueing) (ts : List StreamState) (dials : ℕ) (s : TableStands streams index begins ts dials) (life number : ℕ) where
  abbrev e : StreamEnd
  e = end_of life number

  abbrev Stands : StreamState → Type 0
  Stands t = TalkStands streams index begins t t.number

  -- ---- an end without a place

  nowhere_by : (t : StreamState) (n : Option ℕ) → TalkStands streams index begins t n → place_in streams index life number ≡ None → numbered_side n (side_of_end e t) ≡ None
  nowhere_by t None stands none = by_side (side_of_end e t) where
    by_side : (o : Option Side) → numbered_side None o ≡ None
    by_side o = refl
  nowhere_by t (Some k) stands none =
      ap (numbered_side (Some k)) (side_here streams index begins life number k t stands ∙ ap (λ (o : Option (ℕ × Bool)). side_in o k) none)

  nowhere : (o : Option StreamState) → find (has_end e) ts ≡ o → place_in streams index life number ≡ None → dialled_at e o ≡ None
  nowhere None is none = refl
  nowhere (Some t) is none = nowhere_by t t.number (found_is Stands (has_end e) ts t is s.each).holds none

  -- ---- an end with a place

  here_by : (t : StreamState) (n : Option ℕ) (p : ℕ × Bool) → TalkStands streams index begins t n → has_end e t ≡ true → place_in streams index life number ≡ Some p → numbered_side n (side_of_end e t) ≡ Some (p.0 + 1, p.1)
  here_by t None p stands has placed = absurd (true_false (is_some (side_of_end e t)) has (ap is_some (side_of_queued streams index begins life number t p stands placed)))
  here_by t (Some k) p stands has placed =
      let side : side_of_end e t ≡ side_at_place p.1 ((p.0 + 1) == k) = side_here streams index begins life number k t stands ∙ ap (λ (o : Option (ℕ × Bool)). side_in o k) placed in
      ap (numbered_side (Some k)) side ∙ at_place p.1 p.0 k ((p.0 + 1) == k) refl (sym (ap is_some side) ∙ has)

  -- the stream of the place's number has the end
  has_it : (t : StreamState) (n : Option ℕ) (p : ℕ × Bool) → TalkStands streams index begins t n → is_number (p.0 + 1) n ≡ true → place_in streams index life number ≡ Some p → has_end e t ≡ true
  has_it t None p stands is placed = absurd (cc)
  has_it t (Some k) p stands is placed =
      let n : k ≡ p.0 + 1 = eqb-true k (p.0 + 1) is in
      let side : side_of_end e t ≡ side_at_place p.1 ((p.0 + 1) == k) = side_here streams index begins life number k t stands ∙ ap (λ (o : Option (ℕ × Bool)). side_in o k) placed in
      ap is_some (side ∙ (ap (λ (m : ℕ). side_at_place p.1 ((p.0 + 1) == m)) n ∙ ap (side_at_place p.1) (is_itself (p.0 + 1))))

  found_once : (p : ℕ × Bool) (o : Option StreamState) → stream_numbered ts (p.0 + 1) ≡ o → p.0 < length streams → place_in streams index life number ≡ Some p → 1 ≤ count_by (has_end e) ts
  found_once p None is within placed =
      absurd (let dialled : dials ≡ length streams = s.dialled in
      let one : count_by (numbers (p.0 + 1)) ts ≡ 1 = s.once (p.0 + 1) (omega arith) (omega (arith, within, dialled)) in
      let none : count_by (numbers (p.0 + 1)) ts ≡ 0 = none_counted (numbers (p.0 + 1)) ts is in
      omega (arith, one, none))
  found_once p (Some t) is within placed =
      let c : Chosen Stands (numbers (p.0 + 1)) t = found_is Stands (numbers (p.0 + 1)) ts t is s.each in
      found_counts (numbers (p.0 + 1)) (has_end e) ts t is (has_it t t.number p c.holds c.passes placed)

  here : (p : ℕ × Bool) (o : Option StreamState) → find (has_end e) ts ≡ o → p.0 < length streams → place_in streams index life number ≡ Some p → dialled_at e o ≡ Some (p.0 + 1, p.1)
  here p None is within placed =
      absurd (let some : 1 ≤ count_by (has_end e) ts = found_once p (stream_numbered ts (p.0 + 1)) refl within placed in
      let none : count_by (has_end e) ts ≡ 0 = none_counted (has_end e) ts is in
      omega (arith, some, none))
  here p (Some t) is within placed =
      let c : Chosen Stands (has_end e) t = found_is Stands (has_end e) ts t is s.each in
      here_by t t.number p c.holds c.passes placed

  -- ---- both

  -- the stream of the end has the number of its place
  pub number_told : (o : Option (ℕ × Bool)) → place_in streams index life number ≡ o → IfSome o (λ p. p.0 < length streams) → number_at o ≡ dialled_at e (find (has_end e) ts)
  number_told None placed within = sym (nowhere (find (has_end e) ts) refl placed)
  number_told (Some p) placed within = sym (here p (find (has_end e) ts) refl within placed)
