-- The numbers of the streams that are closing.
use Rattle.std.proofs.Common.{◌≡◌, ℕ, zero, suc, ◌+◌, ◌<◌, ◌≤◌, Bool, true, false, not, cond, List, [], ◌∷◌, Option, Some, None, length, map, refl, sym, ap, ◌∙◌, subst, arith}
use Rattle.std.specs.Prelude.{nat_le, nat_lt, is_none, is_some, position, filter, slice_index_or}
use Rattle.std.specs.List.{AllZip, insert, position_or_len}
use Rattle.std.proofs.lemmas.Bool.{ltb-false, true≢false}
use Rattle.grasp_wire.specs.Cutter.{Past}
use Rattle.grasp_wire.specs.declared.cutter.Cutter.{Cutter}
use Rattle.grasp_core.specs.Stands.{StreamStands, StreamsStand, CutsAs}
use Rattle.grasp_model_node.specs.Streams.{StreamRecord, StreamsState, put_number, rising, closing_numbers}
use Rattle.grasp_core.specs.declared.streams.Stream.{Stream}
use Rattle.grasp_core.specs.declared.streams.Streams.{Streams}

-- the numbers of those that have no cutter
abbrev pub held_numbers : List Stream → List ℕ
held_numbers l = rising (map (λ s. s.number) (filter (λ s. is_none s.cutter) l))

kept_numbers : List StreamRecord → List ℕ
kept_numbers xs = map (λ x. x.number) (filter (λ x. is_none x.past) xs)

both_none : (limit : ℕ) (c : Option Cutter) (p : Option Past) → CutsAs limit c p → is_none c ≡ is_none p
both_none limit None None h = refl
both_none limit None (Some past) h = absurd h
both_none limit (Some c) None h = absurd h
both_none limit (Some c) (Some past) h = refl

numbers_both : (limit : ℕ) (l : List Stream) (xs : List StreamRecord) → AllZip (StreamStands limit) l xs → map (λ s. s.number) (filter (λ s. is_none s.cutter) l) ≡ map (λ x. x.number) (filter (λ x. is_none x.past) xs)
numbers_both limit [] [] h = refl
numbers_both limit [] (b ∷ bs) h = absurd h
numbers_both limit (a ∷ l) [] h = absurd h
numbers_both limit (a ∷ l) (b ∷ bs) h = rw (both_none limit a.cutter b.past h.0.cuts) (by_test (is_none b.past) (numbers_both limit l bs h.1)) where
  by_test : (t : Bool) → map (λ s. s.number) (filter (λ s. is_none s.cutter) l) ≡ map (λ x. x.number) (filter (λ x. is_none x.past) bs)
      → map (λ s. s.number) (cond t (a ∷ filter (λ s. is_none s.cutter) l) (filter (λ s. is_none s.cutter) l)) ≡ map (λ x. x.number) (cond t (b ∷ filter (λ x. is_none x.past) bs) (filter (λ x. is_none x.past) bs))
  by_test true e = rw (h.0.number, e) refl
  by_test false e = e

-- in the code the numbers of the closing streams are those of the definition
pub all_numbers : (streams : Streams) (s : StreamsState) → StreamsStand streams s → held_numbers streams.held.items ≡ closing_numbers s
all_numbers streams s h = ap rising (numbers_both streams.limit streams.held.items s.records h.held)

pub closing_first : (a : Stream) (l : List Stream) → is_none a.cutter ≡ true → held_numbers (a ∷ l) ≡ put_number a.number (held_numbers l)
closing_first a l e = rw e refl

-- a list into which a number was put isn't empty
put_some : (n : ℕ) (xs : List ℕ) → 1 ≤ length (put_number n xs)
put_some n [] = omega arith
put_some n (m ∷ ms) = by_test (nat_le n m) where
  by_test : (t : Bool) → 1 ≤ length (cond t (n ∷ m ∷ ms) (m ∷ put_number n ms))
  by_test true = omega arith
  by_test false = omega arith

-- what the test of a cutter says
pub no_cutter : (o : Option Cutter) (b : Bool) → is_some o ≡ not b → b ≡ true → is_none o ≡ true
no_cutter None b e t = refl
no_cutter (Some c) b e t = absurd (true≢false (e ∙ ap not t))

pub some_held : (l : List Stream) (i : ℕ) (a : Stream) → i < length l → a ≡ slice_index_or l i a → is_none a.cutter ≡ true → 1 ≤ length (held_numbers l)
some_held [] i a h at e = absurd (omega (arith, h))
some_held (b ∷ l) zero a h at e = subst (λ (s : Stream). 1 ≤ length (held_numbers (s ∷ l))) at (rw (closing_first a l e) (put_some a.number (held_numbers l)))
some_held (b ∷ l) (suc i) a h at e = by_test (is_none b.cutter) (some_held l i a (omega (arith, h)) at e) where
  by_test : (t : Bool) → 1 ≤ length (held_numbers l) → 1 ≤ length (rising (map (λ s. s.number) (cond t (b ∷ filter (λ s. is_none s.cutter) l) (filter (λ s. is_none s.cutter) l))))
  by_test true k = put_some b.number (held_numbers l)
  by_test false k = k

-- a number is put in before the first that isn't less
pub number_put : (n : ℕ) (xs : List ℕ) → insert xs (position_or_len (λ m. nat_le n m) xs) n ≡ put_number n xs
number_put n [] = refl
number_put n (m ∷ ms) = by_test (nat_le n m) (number_put n ms) where
  past : (k : ℕ) → 1 + k ≡ suc k
  past k = omega arith

  by_test : (t : Bool) → insert ms (position_or_len (λ x. nat_le n x) ms) n ≡ put_number n ms
      → insert (m ∷ ms) (cond (not t) (1 + position_or_len (λ x. nat_le n x) ms) 0) n ≡ cond t (n ∷ m ∷ ms) (m ∷ put_number n ms)
  by_test true e = refl
  by_test false e = rw (past (position_or_len (λ x. nat_le n x) ms)) (ap (λ (ys : List ℕ). m ∷ ys) e)

before : (p : ℕ → Bool) (xs : List ℕ) → position_or_len p xs ≤ length xs
before p [] = omega arith
before p (x ∷ xs) = by_test (p x) (before p xs) where
  by_test : (t : Bool) → position_or_len p xs ≤ length xs → cond (not t) (1 + position_or_len p xs) 0 ≤ suc (length xs)
  by_test true h = omega arith
  by_test false h = omega (arith, h)

-- where a place was found, and where none was
pub place_found : (p : ℕ → Bool) (xs : List ℕ) (i : ℕ) → Some i ≡ position p xs → (i ≡ position_or_len p xs) × (i ≤ length xs)
place_found p xs i e = by_test (nat_lt (position_or_len p xs) (length xs)) e where
  by_test : (t : Bool) → Some i ≡ cond t (Some (position_or_len p xs)) None → (i ≡ position_or_len p xs) × (i ≤ length xs)
  by_test true f = let same : i ≡ position_or_len p xs = cc in (same, subst (λ (k : ℕ). k ≤ length xs) (sym same) (before p xs))
  by_test false f = absurd (cc)

pub place_missed : (p : ℕ → Bool) (xs : List ℕ) → None ≡ position p xs → length xs ≡ position_or_len p xs
place_missed p xs e = by_test (nat_lt (position_or_len p xs) (length xs)) refl e where
  by_test : (t : Bool) → nat_lt (position_or_len p xs) (length xs) ≡ t → None ≡ cond t (Some (position_or_len p xs)) None → length xs ≡ position_or_len p xs
  by_test true g f = absurd (cc)
  by_test false g f = omega (arith, before p xs, ltb-false (position_or_len p xs) (length xs) g)
