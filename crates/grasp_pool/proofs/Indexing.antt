-- The first entry that is no longer than a length, as the list grows and shrinks.
use Rattle.std.proofs.Common.{◌≡◌, ℕ, ◌<◌, ◌≤◌, ◌⊎◌, inl, inr, List, ◌∷◌, length, Contains, slice_index_or, refl, sym, ◌∙◌, ap, subst, arith, Option, Some, None, MatchOption, Bool, true, false, cond, nat_lt}
use Rattle.std.proofs.lemmas.Bool.{cases_lt, cases_eq}
use Rattle.std.proofs.lemmas.List.{get_or_default}
use Rattle.grasp_types.specs.Prefix.{AddressBlock as Prefix}
use Rattle.grasp_pool.specs.Canonical.{IsRising}
use Rattle.grasp_pool.specs.Parts.{BeginBelow, IsEntryAt, IsNarrow, IsFirstPlace, IsFirstOf, IsIndex, IsNoted, earlier_of}
use Rattle.grasp_pool.proofs.Words.{IsAdded, IsRemoved}
use Rattle.grasp_pool.specs.Functions.{without}
use Rattle.grasp_pool.proofs.Equal.{without_members, without_rising}
use Rattle.grasp_pool.proofs.Unique.{cons_cases, cons_more, cons_first}
use Rattle.grasp_pool.proofs.Maximal.{cases_prefix}
use Rattle.grasp_pool.proofs.Lists.{lt_tells}

-- what has the same members has the same first
pub same_first : (xs ys : List Prefix) (n : ℕ) (o : Option Prefix) → ((q : Prefix) → Contains xs q → Contains ys q) → ((q : Prefix) → Contains ys q → Contains xs q)
    → IsFirstOf xs n o → IsFirstOf ys n o
same_first xs ys n None f g h = λ q m. h q (g q m)
same_first xs ys n (Some w) f g h = record { has = f w h.has; short = h.short; least = λ q m l. h.least q (g q m) l }

-- the first stays where another goes
pub kept_first : (es : List Prefix) (p : Prefix) (n : ℕ) (o : Option Prefix) → IsFirstOf (p ∷ es) n o → ¬ (o ≡ Some p) → IsFirstOf es n o
kept_first es p n None f ne = λ q h. f q (cons_more p q es h)
kept_first es p n (Some w) s ne = record {
  has = elim (cons_cases p w es s.has) [ inl h ↦ h | inr e ↦ absurd (ne (ap (λ v. Some v) (sym e))) ];
  short = s.short;
  least = λ q h l. s.least q (cons_more p q es h) l;
}

-- where the first goes, the next one is the first that is no longer from its place on
module _ (es : List Prefix) (p : Prefix) (from at n : ℕ) (rising : IsRising es) (below : BeginBelow es from p.address) (first : IsFirstOf (p ∷ es) n (Some p))
    (passed : (k : ℕ) (d : Prefix) → from ≤ k → k < at → n < (slice_index_or es k d).length)
    (found : (d : Prefix) → at < length es → (slice_index_or es at d).length ≤ n) where
  long_before : (k : ℕ) (d : Prefix) → k < at → k < length es → n < (slice_index_or es k d).length
  long_before k d lt within = elim (cases_lt k from) [
    | inr le ↦ passed k d le lt
    | inl lt' ↦ elim (cases_lt n (slice_index_or es k d).length) [
      | inl long ↦ long
      | inr short ↦
          let has : Contains es (slice_index_or es k d) = (k, within, sym (get_or_default es k d (slice_index_or es k d) within))
          in let le : p.address ≤ (slice_index_or es k d).address = first.least (slice_index_or es k d) (cons_more p (slice_index_or es k d) es has) short
          in let b : (slice_index_or es k d).address < p.address = below k d lt'
          in absurd (omega arith)
    ]
  ]

  pub next_first : (o : Option Prefix) → IsEntryAt es at o → IsFirstOf es n o
  next_first None le = λ q h.
      let within : h.0 < length es = h.1
      in let long : n < (slice_index_or es h.0 q).length = long_before h.0 q (omega arith) within
      in subst (λ v. n < v.length) h.2 long
  next_first (Some w) e = record {
    has = (at, e.0, sym e.1);
    short = subst (λ v. v.length ≤ n) (sym e.1) (found w e.0);
    least = λ q h l.
        let within : h.0 < length es = h.1
        in let s : w.address ≡ (slice_index_or es at q).address = ap (λ v. v.address) (e.1 ∙ get_or_default es at w q e.0)
        in let t : (slice_index_or es h.0 q).address ≡ q.address = ap (λ v. v.address) h.2
        in elim (cases_lt h.0 at) [
          | inl lt ↦
              let long : n < (slice_index_or es h.0 q).length = long_before h.0 q lt within
              in let u : (slice_index_or es h.0 q).length ≡ q.length = ap (λ v. v.length) h.2
              in absurd (omega arith)
          | inr le ↦ elim (cases_eq at h.0) [
            | inl same ↦ let u : (slice_index_or es at q).address ≡ (slice_index_or es h.0 q).address = ap (λ i. (slice_index_or es i q).address) same in omega arith
            | inr other ↦
                let lt : at < h.0 = grind arith
                in let up : (slice_index_or es at q).address < (slice_index_or es h.0 q).address = rising at h.0 q lt within
                in omega arith
          ]
        ];
  }

-- one more entry
added_first : (old new : List Prefix) (p : Prefix) (n : ℕ) (o : Option Prefix) → IsAdded old new p → p.length ≤ n → IsFirstOf old n o → IsFirstOf new n (earlier_of p o)
added_first old new p n None added short f = record {
  has = (added p).1 (inr refl);
  short = short;
  least = λ q h l. elim ((added q).0 h) [
    | inl h' ↦ let long : n < q.length = f q h' in absurd (omega arith)
    | inr e ↦ let s : q.address ≡ p.address = ap (λ v. v.address) e in omega arith
  ];
}
added_first old new p n (Some w) added short f = choose (nat_lt p.address w.address) (lt_tells p.address w.address)
  where
    choose : (b : Bool) → ((b ≡ true) × (p.address < w.address)) ⊎ ((b ≡ false) × (w.address ≤ p.address)) → IsFirstOf new n (cond b (Some p) (Some w))
    choose true (inl h) = record {
      has = (added p).1 (inr refl);
      short = short;
      least = λ q m l. elim ((added q).0 m) [
        | inl m' ↦ let le : w.address ≤ q.address = f.least q m' l in let lt : p.address < w.address = h.1 in omega arith
        | inr e ↦ let s : q.address ≡ p.address = ap (λ v. v.address) e in omega arith
      ];
    }
    choose true (inr h) = absurd (cc)
    choose false (inl h) = absurd (cc)
    choose false (inr h) = record {
      has = (added w).1 (inl f.has);
      short = f.short;
      least = λ q m l. elim ((added q).0 m) [
        | inl m' ↦ f.least q m' l
        | inr e ↦ let s : q.address ≡ p.address = ap (λ v. v.address) e in let le : w.address ≤ p.address = h.1 in omega arith
      ];
    }

-- one more entry that is too long
longer_first : (old new : List Prefix) (p : Prefix) (n : ℕ) (o : Option Prefix) → IsAdded old new p → n < p.length → IsFirstOf old n o → IsFirstOf new n o
longer_first old new p n None added long f = λ q h. elim ((added q).0 h) [
  | inl h' ↦ f q h'
  | inr e ↦ subst (λ v. n < v.length) (sym e) long
]
longer_first old new p n (Some w) added long f = record {
  has = (added w).1 (inl f.has);
  short = f.short;
  least = λ q h l. elim ((added q).0 h) [
    | inl h' ↦ f.least q h' l
    | inr e ↦ let s : q.length ≡ p.length = ap (λ v. v.length) e in absurd (omega arith)
  ];
}

pub added_index : (old new : List Prefix) (p : Prefix) (table table' : List (Option Prefix)) → IsAdded old new p → IsIndex old table → IsNoted table table' p p.length → IsIndex new table'
added_index old new p table table' added index noted = record {
  size = noted.size ∙ index.size;
  firsts = λ n d lt. elim (cases_lt n p.length) [
    | inl long ↦ subst (IsFirstOf new n) (sym (noted.below n d long)) (longer_first old new p n (slice_index_or table n d) added long (index.firsts n d lt))
    | inr short ↦
        let e : length table ≡ 129 = index.size
        in subst (IsFirstOf new n) (sym (noted.from n d short (omega arith))) (added_first old new p n (slice_index_or table n d) added short (index.firsts n d lt))
  ];
}

-- the table of a list is one of the list with p in front, where p was taken out
pub removed_index : (old new : List Prefix) (p : Prefix) (table : List (Option Prefix)) → IsRemoved old new p → Contains old p → IsIndex old table → IsIndex (p ∷ new) table
removed_index old new p table removed has index = record {
  size = index.size;
  firsts = λ n d lt. same_first old (p ∷ new) n (slice_index_or table n d)
      (λ q h. elim (cases_prefix q p) [ inl e ↦ subst (Contains (p ∷ new)) (sym e) (cons_first p new) | inr ne ↦ cons_more p q new ((removed q).1 (h, ne)) ])
      (λ q h. elim (cons_cases p q new h) [ inl h' ↦ ((removed q).0 h').0 | inr e ↦ subst (Contains old) e has ])
      (index.firsts n d lt);
}

-- where the entry at a place is taken out
pub taken_rising : (ps new : List Prefix) (i : ℕ) (p : Prefix) → IsRising ps → i < length ps → p ≡ slice_index_or ps i p → new ≡ without p.address ps → IsRising new
taken_rising ps new i p rising within e is = subst IsRising (sym is) (without_rising p ps rising (i, within, sym e))

pub taken_index : (ps new : List Prefix) (i : ℕ) (p : Prefix) (table : List (Option Prefix)) → IsRising ps → IsIndex ps table → i < length ps → p ≡ slice_index_or ps i p
    → new ≡ without p.address ps → IsIndex (p ∷ new) table
taken_index ps new i p table rising index within e is =
    let has : Contains ps p = (i, within, sym e)
    in subst (λ xs. IsIndex (p ∷ xs) table) (sym is) (removed_index ps (without p.address ps) p table (without_members p ps rising has) has index)

-- the first entry that is no longer stands after longer ones alone
pub narrow_first : (ps : List Prefix) (n i : ℕ) (w : Prefix) → IsRising ps → IsFirstOf ps n (Some w) → i < length ps → slice_index_or ps i w ≡ w → IsNarrow ps n i
narrow_first ps n i w rising first within at k d lt within' = elim (cases_lt n (slice_index_or ps k d).length) [
  | inl long ↦ long
  | inr short ↦
      let q : Prefix = slice_index_or ps k d
      in let has : Contains ps q = (k, within', sym (get_or_default ps k d q within'))
      in let le : w.address ≤ q.address = first.least q has short
      in let up : q.address < (slice_index_or ps i d).address = rising k i d lt within
      in let s : (slice_index_or ps i d).address ≡ w.address = ap (λ v. v.address) (get_or_default ps i d w within ∙ at)
      in absurd (omega arith)
]

pub narrow_all : (ps : List Prefix) (n : ℕ) → IsFirstOf ps n None → IsNarrow ps n (length ps)
narrow_all ps n first k d lt within = first (slice_index_or ps k d) (k, within, sym (get_or_default ps k d (slice_index_or ps k d) within))

-- the place of the first entry that is no longer
pub found_first : (ps : List Prefix) (n : ℕ) (w : Prefix) (o : Option ℕ) → IsRising ps → IsFirstOf ps n (Some w)
    → MatchOption o (¬ Contains ps w) (λ i. (i < length ps) × (slice_index_or ps i w ≡ w))
    → IsFirstPlace ps n o
found_first ps n w None rising first none = absurd (none first.has)
found_first ps n w (Some i) rising first at = (
  at.0,
  λ d. subst (λ v. v.length ≤ n) (sym (get_or_default ps i d w at.0 ∙ at.1)) first.short,
  narrow_first ps n i w rising first at.0 at.1,
)
