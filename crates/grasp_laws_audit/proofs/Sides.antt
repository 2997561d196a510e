-- A side of a stream is found again by the number that it has at its node.
use Rattle.std.proofs.Common.{◌≡◌, refl, sym, ap, ◌∙◌, subst, arith, ℕ, zero, suc, ◌+◌, ◌≤◌, ◌<◌, Bool, true, false, cond, nat_le, ◌⊎◌, inl, inr, List, [], ◌∷◌, map, take, length, Option, None, Some, slice_get}
use Rattle.std.proofs.lemmas.Bool.{eqb-true}
use Rattle.std.proofs.lemmas.Bool.Decides.{leb_tells}
use Rattle.std.proofs.lemmas.List.{take_all, length-take-le}
use Rattle.std.proofs.Math.Seq.{take-length}
use Rattle.std.proofs.lemmas.Option.{none-some, same_Some}
use Rattle.std.specs.List.{find}
use Rattle.grasp_session.specs.Messages.{Side, other}
use Rattle.grasp_laws_delivery.proofs.FromReady.{distinct}
use Rattle.grasp_laws_delivery.proofs.Heard.Steps.{IsReachedSide}
use Rattle.grasp_laws_delivery.proofs.OnePlace.{has_it, numbered_place, one_talk}
use Rattle.grasp_laws_delivery.proofs.Sides.{end_found, one_side, side_found}
use Rattle.grasp_laws_delivery.specs.Ready.{StreamsAreReady}
use Rattle.grasp_model_network.specs.Runs.{IsReached}
use Rattle.grasp_model_network.specs.Setting.{Setting}
use Rattle.grasp_model_network.specs.StreamChanges.{Reached, side_named}
use Rattle.grasp_model_network.specs.Streams.{StreamState, at_end, change_at_end, changed_by, end_at, has_end, is_number, next_bytes, sent_by, side_of_end, stream_numbered, with_delivered, with_direction}
use Rattle.grasp_model_network.specs.World.{WorldState}
use Rattle.grasp_model_audit.specs.Naming.{NamedSide, is_far, side_in, side_numbered}

-- ---- lists

-- what passes is found, where nothing else passes
found_once : (p : StreamState → Bool) (ts : List StreamState) (i : ℕ) (t : StreamState) → ((j : ℕ) (u : StreamState) → slice_get ts j ≡ Some u → p u ≡ true → u ≡ t) → slice_get ts i ≡ Some t → p t ≡ true
    → find p ts ≡ Some t
found_once p [] i t one is has = absurd (none-some t is)
found_once p (x ∷ xs) i t one is has = by_first (p x) refl i is (λ j at. found_once p xs j t (λ k u e f. one (suc k) u e f) at has) where
  by_first : (b : Bool) → p x ≡ b → (j : ℕ) → slice_get (x ∷ xs) j ≡ Some t → ((k : ℕ) → slice_get xs k ≡ Some t → find p xs ≡ Some t) → cond b (Some x) (find p xs) ≡ Some t
  by_first true first j at rest = ap (λ (u : StreamState). Some u) (one 0 x refl first)
  by_first false first zero at rest = absurd (let z : true ≡ false = sym has ∙ (ap p (sym (same_Some x t at)) ∙ first) in cc)
  by_first false first (suc j) at rest = rest j at

-- what is found passes
found_passes : (p : StreamState → Bool) (ts : List StreamState) (t : StreamState) → find p ts ≡ Some t → p t ≡ true
found_passes p [] t found = absurd (none-some t found)
found_passes p (x ∷ xs) t found = by_first (p x) refl found (found_passes p xs t) where
  by_first : (b : Bool) → p x ≡ b → cond b (Some x) (find p xs) ≡ Some t → (find p xs ≡ Some t → p t ≡ true) → p t ≡ true
  by_first true first e rest = ap p (sym (same_Some x t e)) ∙ first
  by_first false first e rest = rest e

mapped_same : (f g : StreamState → StreamState) (ts : List StreamState) → ((i : ℕ) (u : StreamState) → slice_get ts i ≡ Some u → f u ≡ g u) → map f ts ≡ map g ts
mapped_same f g [] same = refl
mapped_same f g (x ∷ xs) same =
    let first = same 0 x refl in
    let rest = mapped_same f g xs (λ i u e. same (suc i) u e) in
    (λ i. first i ∷ rest i)

-- as many bytes as there are
pub take_again : (n : ℕ) (xs : List ℕ) → take (length (take n xs)) xs ≡ take n xs
take_again n xs = by_length (leb_tells n (length xs)) where
  by_length : ((nat_le n (length xs) ≡ true) × (n ≤ length xs)) ⊎ ((nat_le n (length xs) ≡ false) × (length xs < n)) → take (length (take n xs)) xs ≡ take n xs
  by_length (inl t) = ap (λ k. take k xs) (length-take-le n xs t.1)
  by_length (inr t) =
      let fewer = t.1 in
      let all : take n xs ≡ xs = take_all n xs (omega (arith, fewer)) in
      ap (λ ys. take (length ys) xs) all ∙ (take-length xs ∙ sym all)

-- ---- numbers

number_is : (k : ℕ) (o : Option ℕ) → is_number k o ≡ true → o ≡ Some k
number_is k None e = absurd (cc)
number_is k (Some n) e = ap (λ (m : ℕ). Some m) (eqb-true n k e)

pub numbered_so : (k : ℕ) (ts : List StreamState) (t : StreamState) → stream_numbered ts k ≡ Some t → t.number ≡ Some k
numbered_so k ts t found = number_is k t.number (found_passes (λ (u : StreamState). is_number k u.number) ts t found)

pub far_again : (far : Bool) → is_far (side_named far) ≡ far
far_again true = refl
far_again false = refl

-- the side of a stream with this number
abbrev pub side_of : ℕ → Bool → NamedSide
side_of k far = record { stream = k; far = far }

-- ---- the side

module _ (ready : StreamsAreReady) (s : Setting) (w : WorldState) (r : IsReached s w) (k : ℕ) (side : Side) (x : Reached) (h : IsReachedSide w k side x) where
  abbrev place : ℕ
  place = (numbered_place k w.streams x.talk h.found).place

  stands : slice_get w.streams place ≡ Some x.talk
  stands = (numbered_place k w.streams x.talk h.found).stands

  has : has_end x.at x.talk ≡ true
  has = has_it x.talk x.at side h.ends

  -- each stream that has the end is this one
  only : (j : ℕ) (u : StreamState) → slice_get w.streams j ≡ Some u → has_end x.at u ≡ true → u ≡ x.talk
  only j u at it = one_talk x.at w.streams j place u x.talk (ready.apart s w r x.at) at it stands has

  found : find (has_end x.at) w.streams ≡ Some x.talk
  found = found_once (has_end x.at) w.streams place x.talk only stands has

  side_is : (other_side : Side) → end_at x.talk other_side ≡ Some x.at → other_side ≡ side
  side_is other_side at = one_side x.talk x.at other_side side (distinct ready s w r place x.talk stands) at h.ends

  side_there : side_of_end x.at x.talk ≡ Some side
  side_there =
      let f = side_found x.talk x.at side h.ends in
      f.1 ∙ ap (λ (z : Side). Some z) (side_is f.0 (end_found x.talk x.at f.0 f.1))

  -- it is found again by its end
  pub side_again : side_in x.at (find (has_end x.at) w.streams) ≡ Some (side_of k (is_far side))
  side_again =
      ap (side_in x.at) found
      ∙ (λ i. side_numbered (numbered_so k w.streams x.talk h.found i) (side_there i))

  -- so many bytes are delivered as there are among those that were asked for
  delivered_so : (count : ℕ) (u : StreamState) (o : Option Side) → u ≡ x.talk → ((z : Side) → o ≡ Some z → z ≡ side)
      → changed_by (with_delivered (length (next_bytes x.talk (other side) count))) u o ≡ changed_by (with_delivered count) u o
  delivered_so count u None same is = refl
  delivered_so count u (Some z) same is =
      ap (λ (n : ℕ). with_direction u (other z) (record (sent_by u (other z)) { delivered = (sent_by u (other z)).delivered + n })) (ap length (again u z same (is z refl)))
    where
      again : (t : StreamState) (y : Side) → t ≡ x.talk → y ≡ side → next_bytes t (other y) (length (next_bytes x.talk (other side) count)) ≡ next_bytes t (other y) count
      again t y a b =
          ap (λ (n : ℕ). next_bytes t (other y) n) (λ i. length (next_bytes (sym a i) (other (sym b i)) count))
          ∙ take_again count _

  pub delivered_again : (count : ℕ) → change_at_end w.streams x.at (with_delivered (length (next_bytes x.talk (other side) count))) ≡ change_at_end w.streams x.at (with_delivered count)
  delivered_again count = mapped_same (at_end x.at (with_delivered (length (next_bytes x.talk (other side) count)))) (at_end x.at (with_delivered count)) w.streams each where
    by_side : (u : StreamState) (i : ℕ) → slice_get w.streams i ≡ Some u → (o : Option Side) → side_of_end x.at u ≡ o
        → changed_by (with_delivered (length (next_bytes x.talk (other side) count))) u o ≡ changed_by (with_delivered count) u o
    by_side u i at None e = refl
    by_side u i at (Some z) e =
        let same = only i u at (has_it u x.at z (end_found u x.at z e)) in
        delivered_so count u (Some z) same
        (λ y f. side_is y (subst (λ (t : StreamState). end_at t y ≡ Some x.at) same (subst (λ (q : Side). end_at u q ≡ Some x.at) (same_Some z y f) (end_found u x.at z e))))

    each : (i : ℕ) (u : StreamState) → slice_get w.streams i ≡ Some u → at_end x.at (with_delivered (length (next_bytes x.talk (other side) count))) u ≡ at_end x.at (with_delivered count) u
    each i u at = by_side u i at (side_of_end x.at u) refl
