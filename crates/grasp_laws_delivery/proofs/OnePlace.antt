-- Where at most one stream has an end, two streams with this end are the same.
use Rattle.std.proofs.Common.{◌≡◌, ◌≢◌, refl, sym, ap, ◌∙◌, arith, ℕ, zero, suc, ◌+◌, ◌≤◌, Bool, true, false, cond, is_some, List, [], ◌∷◌, Option, None, Some, slice_get}
use Rattle.std.proofs.lemmas.List.Sums.{sum_by-cons}
use Rattle.std.proofs.lemmas.Option.{none-some, same_Some}
use Rattle.std.specs.List.{count_by, find}
use Rattle.grasp_session.specs.Messages.{Side}
use Rattle.grasp_model_network.specs.Streams.{StreamEnd, StreamState, end_at, has_end, side_of_end, count_at_end, is_number, stream_numbered}
use Rattle.grasp_laws_delivery.proofs.Sides.{side_found, end_found}
use Rattle.grasp_laws_delivery.specs.Saying.{OfEachStream}

-- a side with the end is one that is found
pub has_it : (t : StreamState) (e : StreamEnd) (side : Side) → end_at t side ≡ Some e → has_end e t ≡ true
has_it t e side at = let f = side_found t e side at in ap is_some f.1

count_first : (p : StreamState → Bool) (t : StreamState) (ts : List StreamState) → count_by p (t ∷ ts) ≡ cond (p t) 1 0 + count_by p ts
count_first p t ts = sum_by-cons (λ x. cond (p x) 1 0) t ts

pub as_one : (b : Bool) → b ≡ true → 1 ≤ cond b 1 0
as_one true e = omega arith
as_one false e = absurd (cc)

-- one is counted
counted : (p : StreamState → Bool) (ts : List StreamState) (i : ℕ) (t : StreamState) → slice_get ts i ≡ Some t → p t ≡ true → 1 ≤ count_by p ts
counted p [] i t is has = absurd (none-some t is)
counted p (x ∷ xs) zero t is has =
    let c : count_by p (x ∷ xs) ≡ cond (p x) 1 0 + count_by p xs = count_first p x xs in
    let one : 1 ≤ cond (p x) 1 0 = as_one (p x) (ap p (same_Some x t is) ∙ has) in
    omega (arith, c, one)
counted p (x ∷ xs) (suc i) t is has =
    let c : count_by p (x ∷ xs) ≡ cond (p x) 1 0 + count_by p xs = count_first p x xs in
    let more : 1 ≤ count_by p xs = counted p xs i t is has in
    omega (arith, c, more)

no_two : (p : StreamState → Bool) (x : StreamState) (xs : List StreamState) (j : ℕ) (u : StreamState) → count_by p (x ∷ xs) ≤ 1 → p x ≡ true → slice_get xs j ≡ Some u → p u ≡ true → ⊥
no_two p x xs j u few first is has =
    let c : count_by p (x ∷ xs) ≡ cond (p x) 1 0 + count_by p xs = count_first p x xs in
    let one : 1 ≤ cond (p x) 1 0 = as_one (p x) first in
    let more : 1 ≤ count_by p xs = counted p xs j u is has in
    omega (arith, few, c, one, more)

fewer : (p : StreamState → Bool) (x : StreamState) (xs : List StreamState) → count_by p (x ∷ xs) ≤ 1 → count_by p xs ≤ 1
fewer p x xs few =
    let c : count_by p (x ∷ xs) ≡ cond (p x) 1 0 + count_by p xs = count_first p x xs in
    omega (arith, few, c)

one_so : (p : StreamState → Bool) (ts : List StreamState) (i j : ℕ) (t u : StreamState) → count_by p ts ≤ 1 → slice_get ts i ≡ Some t → p t ≡ true → slice_get ts j ≡ Some u → p u ≡ true → t ≡ u
one_so p [] i j t u few a f b g = absurd (none-some t a)
one_so p (x ∷ xs) zero zero t u few a f b g = sym (same_Some x t a) ∙ same_Some x u b
one_so p (x ∷ xs) zero (suc j) t u few a f b g = absurd (no_two p x xs j u few (ap p (same_Some x t a) ∙ f) b g)
one_so p (x ∷ xs) (suc i) zero t u few a f b g = absurd (no_two p x xs i t few (ap p (same_Some x u b) ∙ g) a f)
one_so p (x ∷ xs) (suc i) (suc j) t u few a f b g = one_so p xs i j t u (fewer p x xs few) a f b g

pub one_talk : (e : StreamEnd) (ts : List StreamState) (i j : ℕ) (t u : StreamState) → count_at_end ts e ≤ 1 → slice_get ts i ≡ Some t → has_end e t ≡ true → slice_get ts j ≡ Some u → has_end e u ≡ true → t ≡ u
one_talk e ts i j t u few a f b g = one_so (has_end e) ts i j t u few a f b g

pub one_passing : (p : StreamState → Bool) (ts : List StreamState) (i j : ℕ) (t u : StreamState) → count_by p ts ≡ 1 → slice_get ts i ≡ Some t → p t ≡ true → slice_get ts j ≡ Some u → p u ≡ true → t ≡ u
one_passing p ts i j t u one a f b g = one_so p ts i j t u (at_most (count_by p ts) one) a f b g where
  at_most : (n : ℕ) → n ≡ 1 → n ≤ 1
  at_most n e = omega (arith, e)

-- where no stream has the end, none is counted
no_end : (e : StreamEnd) (t : StreamState) → ((side : Side) → end_at t side ≢ Some e) → has_end e t ≡ false
no_end e t none = by_side (side_of_end e t) refl where
  by_side : (o : Option Side) → side_of_end e t ≡ o → is_some o ≡ false
  by_side None is = refl
  by_side (Some side) is = absurd (none side (end_found t e side is))

pub none_counted : (e : StreamEnd) (ts : List StreamState) → OfEachStream (λ t. (side : Side) → end_at t side ≢ Some e) ts → count_at_end ts e ≡ 0
none_counted e [] none = refl
none_counted e (x ∷ xs) none =
    let c : count_at_end (x ∷ xs) e ≡ cond (has_end e x) 1 0 + count_at_end xs e = count_first (has_end e) x xs in
    let rest : count_at_end xs e ≡ 0 = none_counted e xs (λ i t is. none (suc i) t is) in
    let first : cond (has_end e x) 1 0 ≤ 0 = as_none (has_end e x) (no_end e x (none 0 x refl)) in
    omega (arith, c, rest, first)
  where
    as_none : (b : Bool) → b ≡ false → cond b 1 0 ≤ 0
    as_none true e = absurd (cc)
    as_none false e = omega arith

-- a stream with this end, and its place in the list
pub record Counted (e : StreamEnd) (ts : List StreamState) : Type 0 where
  pub place : ℕ
  pub talk : StreamState
  pub stands : slice_get ts place ≡ Some talk
  pub has : has_end e talk ≡ true

pub some_counted : (e : StreamEnd) (ts : List StreamState) → 1 ≤ count_at_end ts e → Counted e ts
some_counted e [] some = absurd (none_in (count_at_end [] e) refl some) where
  none_in : (n : ℕ) → n ≡ 0 → 1 ≤ n → ⊥
  none_in n a b = omega (arith, a, b)
some_counted e (x ∷ xs) some = by_test (has_end e x) refl (some_counted e xs) where
  behind : Counted e xs → Counted e (x ∷ xs)
  behind c = record { place = suc c.place; talk = c.talk; stands = c.stands; has = c.has }

  fewer_left : has_end e x ≡ false → 1 ≤ count_at_end xs e
  fewer_left is =
      let c : count_at_end (x ∷ xs) e ≡ cond (has_end e x) 1 0 + count_at_end xs e = count_first (has_end e) x xs in
      let first : cond (has_end e x) 1 0 ≤ 0 = as_none (has_end e x) is in
      omega (arith, c, first, some)
    where
      as_none : (b : Bool) → b ≡ false → cond b 1 0 ≤ 0
      as_none true e = absurd (cc)
      as_none false e = omega arith

  by_test : (b : Bool) → has_end e x ≡ b → (1 ≤ count_at_end xs e → Counted e xs) → Counted e (x ∷ xs)
  by_test true is rest = record { place = 0; talk = x; stands = refl; has = is }
  by_test false is rest = behind (rest (fewer_left is))

-- ---- the stream of a number

pub record Placed (ts : List StreamState) (t : StreamState) : Type 0 where
  pub place : ℕ
  pub stands : slice_get ts place ≡ Some t

pub numbered_place : (k : ℕ) (ts : List StreamState) (t : StreamState) → stream_numbered ts k ≡ Some t → Placed ts t
numbered_place k [] t found = absurd (none-some t found)
numbered_place k (x ∷ xs) t found = by_test (is_number k x.number) found (numbered_place k xs t) where
  by_test : (b : Bool) → cond b (Some x) (find (λ y. is_number k y.number) xs) ≡ Some t → (find (λ y. is_number k y.number) xs ≡ Some t → Placed xs t) → Placed (x ∷ xs) t
  by_test true e rest = record { place = 0; stands = e }
  by_test false e rest = behind (rest e) where
    behind : Placed xs t → Placed (x ∷ xs) t
    behind p = record { place = suc p.place; stands = p.stands }
