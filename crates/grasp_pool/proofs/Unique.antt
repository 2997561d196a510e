-- A set of addresses has one canonical list.
use Rattle.std.proofs.Common.{◌≡◌, ℕ, suc, zero, ◌<◌, ◌⊎◌, ◌↔◌, inl, inr, List, [], ◌∷◌, length, Contains, refl, sym, ◌∙◌, ap, subst, arith, slice_index_or}
use Rattle.std.proofs.lemmas.List.Elements.{Contains-append_cases, Contains-append_right, Contains-append_left, Contains-push_cases, Contains-push}
use Rattle.grasp_types.specs.Prefix.{AddressBlock as Prefix}
use Rattle.grasp_pool.specs.Spans.{Covers}
use Rattle.grasp_pool.specs.Canonical.{IsFreeIn, IsMaximal, IsRising, IsCanonical}

pub none_in : (q : Prefix) → ¬ Contains [] q
none_in q h = let b : h.0 < 0 = h.1 in omega arith

pub cons_cases : (x q : Prefix) (xs : List Prefix) → Contains (x ∷ xs) q → Contains xs q ⊎ (x ≡ q)
cons_cases x q xs h = elim (Contains-append_cases (x ∷ []) xs q h) [
  | inl one ↦ elim (Contains-push_cases [] x q one) [ inl h0 ↦ absurd (none_in q h0) | inr e ↦ inr e ]
  | inr more ↦ inl more
]

pub cons_more : (x q : Prefix) (xs : List Prefix) → Contains xs q → Contains (x ∷ xs) q
cons_more x q xs h = Contains-append_right (x ∷ []) xs q h

pub cons_first : (x : Prefix) (xs : List Prefix) → Contains (x ∷ xs) x
cons_first x xs = Contains-append_left (x ∷ []) xs x (Contains-push [] x)

pub rising_head : (x : Prefix) (xs : List Prefix) → IsRising (x ∷ xs) → (q : Prefix) → Contains xs q → x.address < q.address
rising_head x xs r q h =
    let b : h.0 < length xs = h.1
    in let lt : x.address < (slice_index_or xs h.0 q).address = r zero (suc h.0) q (omega arith) (omega arith)
    in subst (λ p. x.address < p.address) h.2 lt

pub rising_tail : (x : Prefix) (xs : List Prefix) → IsRising (x ∷ xs) → IsRising xs
rising_tail x xs r i j d lt within = r (suc i) (suc j) d (omega arith) (omega arith)

pub same_members : (xs ys : List Prefix) → IsRising xs → IsRising ys → ((q : Prefix) → Contains xs q → Contains ys q)
    → ((q : Prefix) → Contains ys q → Contains xs q) → xs ≡ ys
same_members [] [] r s f g = refl
same_members [] (y ∷ ys) r s f g = absurd (none_in y (g y (cons_first y ys)))
same_members (x ∷ xs) [] r s f g = absurd (none_in x (f x (cons_first x xs)))
same_members (x ∷ xs) (y ∷ ys) r s f g =
    let e : x ≡ y = elim (cons_cases y x ys (f x (cons_first x xs))) [
      | inl h ↦ elim (cons_cases x y xs (g y (cons_first y ys))) [
        | inl k ↦ let a : y.address < x.address = rising_head y ys s x h in let b : x.address < y.address = rising_head x xs r y k in absurd (omega arith)
        | inr e ↦ e
      ]
      | inr e ↦ sym e
    ]
    in let t : xs ≡ ys = same_members xs ys (rising_tail x xs r) (rising_tail y ys s)
    (λ q h. elim (cons_cases y q ys (f q (cons_more x q xs h))) [
      | inl k ↦ k
      | inr e' ↦ let a : x.address < q.address = rising_head x xs r q h in let b : x.address ≡ q.address = ap (λ p. p.address) (e ∙ e') in absurd (omega arith)
    ])
    (λ q h. elim (cons_cases x q xs (g q (cons_more y q ys h))) [
      | inl k ↦ k
      | inr e' ↦ let a : y.address < q.address = rising_head y ys s q h in let b : y.address ≡ q.address = ap (λ p. p.address) (sym e ∙ e') in absurd (omega arith)
    ])
    in λ i. e i ∷ t i

free_as : (xs ys : List Prefix) → ((a : ℕ) → Covers xs a → Covers ys a) → (p : Prefix) → IsFreeIn xs p → IsFreeIn ys p
free_as xs ys f p h = record { valid = h.valid; all = λ a i. f a (h.all a i) }

maximal_as : (xs ys : List Prefix) → ((a : ℕ) → Covers xs a → Covers ys a) → ((a : ℕ) → Covers ys a → Covers xs a)
    → (p : Prefix) → IsMaximal xs p → IsMaximal ys p
maximal_as xs ys f g p m = record { free = free_as xs ys f p m.free; largest = λ q h inside. m.largest q (free_as ys xs g q h) inside }

pub one_canonical : (xs ys : List Prefix) → IsCanonical xs → IsCanonical ys → ((a : ℕ) → Covers xs a ↔ Covers ys a) → xs ≡ ys
one_canonical xs ys c d same = same_members xs ys c.rising d.rising
    (λ q h. (d.members q).1 (maximal_as xs ys (λ a. (same a).0) (λ a. (same a).1) q ((c.members q).0 h)))
    (λ q h. (c.members q).1 (maximal_as ys xs (λ a. (same a).1) (λ a. (same a).0) q ((d.members q).0 h)))
