-- Lists of prefixes of which no two overlap.
use Rattle.std.proofs.Common.{◌≡◌, inl, inr, ℕ, ◌+◌, ◌-◌, ◌<◌, ◌≤◌, List, ◌++◌, length, slice_index_or, Contains, sym, ap, subst, ◌∙◌, arith}
use Rattle.std.proofs.lemmas.Bool.{cases_lt}
use Rattle.std.proofs.lemmas.List.{get_or_default, get_or_append_left, get_or-append-add, length-append}
use Rattle.std.proofs.lemmas.List.Elements.{Contains-get_or}
use Rattle.grasp_types.specs.Prefix.{AddressBlock as Prefix}
use Rattle.grasp_pool.specs.Canonical.{IsRising}
use Rattle.grasp_pool.specs.Listings.{AreDisjoint}
use Rattle.grasp_pool.specs.Spans.{Apart, IsValid}

-- prefixes in rising order are disjoint where any two of them are
pub rising_disjoint : (ps : List Prefix) → IsRising ps → ((p : Prefix) → Contains ps p → IsValid p) → ((p q : Prefix) → ¬ (p ≡ q) → Contains ps p → Contains ps q → Apart p q) → AreDisjoint ps
rising_disjoint ps rising valid apart = record {
  valid = λ k d lt within. valid (slice_index_or ps k d) (Contains-get_or ps k d within);
  apart = λ k d lt within j e less before.
      apart (slice_index_or ps j e) (slice_index_or ps k d) (λ same. differ k d within j e less before same) (Contains-get_or ps j e before) (Contains-get_or ps k d within);
}
  where
    differ : (k : ℕ) (d : Prefix) → k < length ps → (j : ℕ) (e : Prefix) → j < k → j < length ps → ¬ (slice_index_or ps j e ≡ slice_index_or ps k d)
    differ k d within j e less before same =
        let rises : (slice_index_or ps j d).address < (slice_index_or ps k d).address = rising j k d less within
        in let one : (slice_index_or ps j d).address ≡ (slice_index_or ps k d).address = ap (λ (p : Prefix). p.address) (get_or_default ps j d e before ∙ same)
        in absurd (omega (arith, one))

-- two lists of disjoint prefixes, with nothing in common
module _ (xs ys : List Prefix) (left : AreDisjoint xs) (right : AreDisjoint ys) (between : (p q : Prefix) → Contains xs p → Contains ys q → Apart p q) where
  many : length (xs ++ ys) ≡ length xs + length ys
  many = length-append xs ys

  in_left : (k : ℕ) (d : Prefix) → k < length xs → slice_index_or xs k d ≡ slice_index_or (xs ++ ys) k d
  in_left k d less = sym (get_or_append_left xs ys d k less)

  in_right : (k : ℕ) (d : Prefix) → length xs ≤ k → slice_index_or ys (k - length xs) d ≡ slice_index_or (xs ++ ys) k d
  in_right k d least =
      let there : length xs + (k - length xs) ≡ k = omega arith
      in sym (get_or-append-add xs ys (k - length xs) d) ∙ ap (λ n. slice_index_or (xs ++ ys) n d) there

  beyond : (k : ℕ) → length xs ≤ k → k < length (xs ++ ys) → k - length xs < length ys
  beyond k least within = omega (arith, many)

  pub both_disjoint : AreDisjoint (xs ++ ys)
  both_disjoint = record { valid = valid; apart = λ k d lt within j e less before. apart k d within j e less before }
    where
      valid : (k : ℕ) (d : Prefix) → k < length (xs ++ ys) → k < length (xs ++ ys) → IsValid (slice_index_or (xs ++ ys) k d)
      valid k d lt within = elim (cases_lt k (length xs)) [
        | inl h ↦ subst IsValid (in_left k d h) (left.valid k d h h)
        | inr h ↦ subst IsValid (in_right k d h) (right.valid (k - length xs) d (beyond k h within) (beyond k h within))
      ]

      apart : (k : ℕ) (d : Prefix) → k < length (xs ++ ys) → (j : ℕ) (e : Prefix) → j < k → j < length (xs ++ ys) → Apart (slice_index_or (xs ++ ys) j e) (slice_index_or (xs ++ ys) k d)
      apart k d within j e less before = elim (cases_lt k (length xs)) [
        | inl h ↦ let g : j < length xs = omega arith in
            subst (λ p. Apart p (slice_index_or (xs ++ ys) k d)) (in_left j e g) (subst (Apart (slice_index_or xs j e)) (in_left k d h) (left.apart k d h h j e less g))
        | inr h ↦ elim (cases_lt j (length xs)) [
          | inl g ↦ subst (λ p. Apart p (slice_index_or (xs ++ ys) k d)) (in_left j e g)
              (subst (Apart (slice_index_or xs j e)) (in_right k d h)
              (between (slice_index_or xs j e) (slice_index_or ys (k - length xs) d) (Contains-get_or xs j e g) (Contains-get_or ys (k - length xs) d (beyond k h within))))
          | inr g ↦ let lower : j - length xs < k - length xs = omega arith in
              subst (λ p. Apart p (slice_index_or (xs ++ ys) k d)) (in_right j e g)
              (subst (Apart (slice_index_or ys (j - length xs) e)) (in_right k d h)
              (right.apart (k - length xs) d (beyond k h within) (beyond k h within) (j - length xs) e lower (beyond j g before)))
        ]
      ]
