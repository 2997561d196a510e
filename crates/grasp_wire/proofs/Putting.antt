-- What was put so far, part by part.
use Rattle.std.proofs.Common.{◌≡◌, ℕ, zero, suc, ◌+◌, ◌≤◌, List, [], ◌∷◌, ◌++◌, map, take, Some, slice_get, length, Result, Ok, Err, refl, sym, ap, subst, ◌∙◌, append_assoc, append-nil, length-append, arith}
use Rattle.std.specs.Prelude.{All}
use Rattle.std.specs.Result.{IsErr}
use Rattle.std.proofs.lemmas.List.{map-append, length-map, take_all}
use Rattle.std.proofs.lemmas.List.Elements.{All-push}
use Rattle.grasp_cbor.specs.DataItem.{DataItem, array_of}
use Rattle.grasp_cbor.specs.Head.{shortest_head}
use Rattle.grasp_cbor.specs.Shortest.{shortest}
use Rattle.grasp_cbor.proofs.Counts.{shortest_items-push, item_count-data_items}
use Rattle.grasp_cbor.proofs.Lengths.{length-shortest_head}
use Rattle.grasp_cbor.proofs.Places.{take_got, got_below}
use Rattle.grasp_wire.specs.Parts.{shortest_parts}
use Rattle.grasp_wire.specs.Put.{Place, Puts}

-- some bytes and then others
pub puts_then : (E keeps counts : Type 0) (a b c : Place) (xs ys : List ℕ) (r : Result (Unit {0}) E) → Puts {E = E} keeps counts a b xs (Ok tt) → Puts {E = E} keeps counts b c ys r → Puts {E = E} keeps counts a c (xs ++ ys) r
puts_then E keeps counts a b c xs ys (Ok done) p q = (
  λ k. q.0 k ∙ ap (λ s. s ++ ys) (p.0 k) ∙ append_assoc a.bytes xs ys,
  λ u. omega (arith, q.1 u, p.1 u, length-append xs ys),
  (p.2.0 ++ q.2.0, q.2.1 ∙ ap (λ s. s ++ q.2.0) p.2.1 ∙ append_assoc a.bytes p.2.0 q.2.0),
)
puts_then E keeps counts a b c xs ys (Err e) p q =
    (λ u. omega (arith, q.0 u, p.1 u, length-append xs ys), (p.2.0 ++ q.1.0, q.1.1 ∙ ap (λ s. s ++ q.1.0) p.2.1 ∙ append_assoc a.bytes p.2.0 q.1.0))

pub puts_last : (E keeps counts : Type 0) (a b : Place) (xs : List ℕ) (r : Result (Unit {0}) E) → Puts {E = E} keeps counts a b xs r → Puts {E = E} keeps counts a b (xs ++ []) r
puts_last E keeps counts a b xs r p = subst (λ s. Puts {E = E} keeps counts a b s r) (sym (append-nil xs)) p

-- whichever error is handed on
pub puts_err : (E keeps counts : Type 0) (a b : Place) (xs : List ℕ) (r : Result (Unit {0}) E) (e : E) → IsErr r → Puts {E = E} keeps counts a b xs (Err e) → Puts {E = E} keeps counts a b xs r
puts_err E keeps counts a b xs (Ok done) e err p = absurd (cc)
puts_err E keeps counts a b xs (Err f) e err p = p

-- the items of two lists
pub parts_joined : (ts us : List DataItem) → shortest_parts (ts ++ us) ≡ shortest_parts ts ++ shortest_parts us
parts_joined [] us = refl
parts_joined (t ∷ ts) us = ap (λ s. shortest t ++ s) (parts_joined ts us) ∙ sym (append_assoc (shortest t) (shortest_parts ts) (shortest_parts us))

-- an array is its head and its items
array_is : (ts : List DataItem) (n : ℕ) → n ≡ length ts → shortest_head 4 n ++ shortest_parts ts ≡ shortest (array_of ts)
array_is ts n e = ap (λ k. shortest_head 4 k ++ shortest_parts ts) (e ∙ sym (item_count-data_items ts))

-- the front of an array was put, and then the rest of it or not all
pub array_put : (E keeps counts : Type 0) (a b c : Place) (front ts : List DataItem) (n : ℕ) (r : Result (Unit {0}) E) → n ≡ length (front ++ ts)
    → Puts {E = E} keeps counts a b (shortest_head 4 n ++ shortest_parts front) (Ok tt) → Puts {E = E} keeps counts b c (shortest_parts ts) r → Puts {E = E} keeps counts a c (shortest (array_of (front ++ ts))) r
array_put E keeps counts a b c front ts n r count p q =
    let e : (shortest_head 4 n ++ shortest_parts front) ++ shortest_parts ts ≡ shortest (array_of (front ++ ts)) =
    append_assoc (shortest_head 4 n) (shortest_parts front) (shortest_parts ts) ∙ ap (λ s. shortest_head 4 n ++ s) (sym (parts_joined front ts)) ∙ array_is (front ++ ts) n count in
    subst (λ x. Puts {E = E} keeps counts a c x r) e (puts_then E keeps counts a b c (shortest_head 4 n ++ shortest_parts front) (shortest_parts ts) r p q)

-- ---- lists

-- the elements of a list before a place were put, and each of them is in range
pub record ArePut {X : Type 0} (E keeps counts surely : Type 0) (item : X → DataItem) (P : X → Type 0) (xs : List X) (i : ℕ) (old new : Place) : Type 0 where
  pub puts : Puts {E = E} keeps counts old new (shortest_parts (map item (take i xs))) (Ok tt)
  pub each : surely → All P (take i xs)

-- one more
parts_push : {X : Type 0} (item : X → DataItem) (xs : List X) (i : ℕ) (x : X) → slice_get xs i ≡ Some x
    → shortest_parts (map item (take i xs)) ++ shortest (item x) ≡ shortest_parts (map item (take (i + 1) xs))
parts_push item xs i x got =
    sym (shortest_items-push (map item (take i xs)) (item x))
    ∙ sym (ap shortest_parts (map-append item (take i xs) (x ∷ [])))
    ∙ sym (ap (λ ys. shortest_parts (map item ys)) (take_got xs i x got))

pub one_more_put : {X : Type 0} (E keeps counts surely : Type 0) (item : X → DataItem) (P : X → Type 0) (xs : List X) (i : ℕ) (x : X) (old mid new : Place) → Some x ≡ slice_get xs i
    → ArePut E keeps counts surely item P xs i old mid → Puts {E = E} keeps counts mid new (shortest (item x)) (Ok tt) → (surely → P x) → ArePut E keeps counts surely item P xs (i + 1) old new
one_more_put E keeps counts surely item P xs i x old mid new got so_far q p = record {
  puts = subst (λ s. Puts {E = E} keeps counts old new s (Ok tt)) (parts_push item xs i x (sym got)) (puts_then E keeps counts old mid new (shortest_parts (map item (take i xs))) (shortest (item x)) (Ok tt) so_far.puts q);
  each = λ k. subst (λ ys. All P ys) (sym (take_got xs i x (sym got))) (All-push P (take i xs) x (so_far.each k) (p k));
}

at_least : {X : Type 0} (item : X → DataItem) (xs : List X) (i : ℕ) (x : X) → slice_get xs i ≡ Some x
    → length (shortest_parts (map item (take i xs))) + length (shortest (item x)) ≤ length (shortest_parts (map item xs))
at_least item [] i x got = absurd (cc)
at_least item (y ∷ xs) zero x got = let q : y ≡ x = cc in let d = ap (λ z. length (shortest (item z))) q in omega (arith, length-append (shortest (item y)) (shortest_parts (map item xs)))
at_least item (y ∷ xs) (suc i) x got =
    omega (arith, at_least item xs i x got, length-append (shortest (item y)) (shortest_parts (map item xs)), length-append (shortest (item y)) (shortest_parts (map item (take i xs))))

-- one wasn't put
pub one_not_put : {X : Type 0} (E keeps counts surely : Type 0) (item : X → DataItem) (P : X → Type 0) (xs : List X) (i : ℕ) (x : X) (old mid new : Place) (e : E) → Some x ≡ slice_get xs i
    → ArePut E keeps counts surely item P xs i old mid → Puts {E = E} keeps counts mid new (shortest (item x)) (Err e) → Puts {E = E} keeps counts old new (shortest_parts (map item xs)) (Err e)
one_not_put E keeps counts surely item P xs i x old mid new e got so_far q =
    let p = so_far.puts in
    (λ u. omega (arith, q.0 u, p.1 u, at_least item xs i x (sym got)), (p.2.0 ++ q.1.0, q.1.1 ∙ ap (λ s. s ++ q.1.0) p.2.1 ∙ append_assoc old.bytes p.2.0 q.1.0))

-- all were put
pub all_put : {X : Type 0} (E keeps counts surely : Type 0) (item : X → DataItem) (P : X → Type 0) (xs : List X) (i : ℕ) (old new : Place) → length xs ≤ i → ArePut E keeps counts surely item P xs i old new
    → Puts {E = E} keeps counts old new (shortest_parts (map item xs)) (Ok tt) × (surely → All P xs)
all_put E keeps counts surely item P xs i old new done w =
    (subst (λ ys. Puts {E = E} keeps counts old new (shortest_parts (map item ys)) (Ok tt)) (take_all i xs done) w.puts, λ k. subst (λ ys. All P ys) (take_all i xs done) (w.each k))

pub ruleset putting = (append_assoc, append-nil, parts_joined, item_count-data_items, got_below, length-append, length-shortest_head, length-map)
