-- Which entry overlaps a prefix first.
use Rattle.std.proofs.Common.{◌≡◌, ℕ, ◌+◌, ◌-◌, ◌<◌, ◌≤◌, ◌⊎◌, inl, inr, List, ◌++◌, length, Contains, slice_index_or, sym, ◌∙◌, ap, subst, arith, Option, Some, None, true, false, nat_le, cond, Bool}
use Rattle.std.proofs.lemmas.Bool.{cases_lt, cases_eq}
use Rattle.std.proofs.lemmas.List.{get_or_default}
use Rattle.std.proofs.lemmas.List.Elements.{Contains-append_cases, Contains-append_left, Contains-append_right, Contains-get_or}
use Rattle.std.proofs.lemmas.Bool.Decides.{leb_tells}
use Rattle.grasp_types.specs.Prefix.{AddressBlock as Prefix, span_of, Overlap}
use Rattle.grasp_pool.specs.Spans.{Apart, size}
use Rattle.grasp_pool.specs.Canonical.{IsRising}
use Rattle.grasp_pool.specs.Holdings.{Holding, IsListed, IsNew}
use Rattle.grasp_pool.proofs.Addresses.{first_in}
use Rattle.grasp_pool.proofs.Dyadic.{size_pos}
use Rattle.grasp_pool.proofs.Maximal.{cases_prefix}
use Rattle.grasp_pool.specs.Parts.{ApartFrom, ArePairwiseApart, BeginBelow, BeginFrom, IsOverlapAt, IsFirstIn, IsAnswer, lesser_of}
use Rattle.grasp_pool.specs.Listings.{ApartBelow}
use Rattle.grasp_pool.specs.Pools.{IsPool, entries, IsFirstOverlap}

pub meets : (p q : Prefix) → p.address ≤ q.address + (size q - 1) → q.address ≤ p.address + (size p - 1) → Overlap p q
meets p q h k =
    let a : 0 < size p = size_pos p
    in let b : 0 < size q = size_pos q
    in elim (cases_lt p.address q.address) [
      | inl lt ↦ (q.address, ((omega arith, omega arith), (omega arith, omega arith)))
      | inr le ↦ (p.address, ((omega arith, omega arith), (omega arith, omega arith)))
    ]

pub apart_of : (p q : Prefix) → ¬ Overlap p q → Apart p q
apart_of p q miss a i j = miss (a, (i, j))

-- one more is apart
pub more_apart : (ps : List Prefix) (p : Prefix) (i : ℕ) (z : Prefix) → ApartBelow ps p i → i < length ps → ¬ Overlap (slice_index_or ps i z) p → ApartBelow ps p (i + 1)
more_apart ps p i z below h miss k d lt within = elim (cases_eq k i) [
  | inl e ↦ subst (λ q. Apart q p) (ap (λ j. slice_index_or ps j z) (sym e) ∙ get_or_default ps k z d within) (apart_of (slice_index_or ps i z) p miss)
  | inr ne ↦ below k d (grind arith) within
]

pub all_apart : (ps : List Prefix) (p : Prefix) → ApartBelow ps p (length ps) → ApartFrom ps p
all_apart ps p below q h = subst (λ r. Apart r p) h.2 (below h.0 q h.1 h.1)

pub first_at : (ps : List Prefix) (p : Prefix) (i : ℕ) (z : Prefix) → IsRising ps → ApartBelow ps p i → i < length ps → Overlap (slice_index_or ps i z) p
    → IsFirstIn ps p (slice_index_or ps i z)
first_at ps p i z rising below h m = record {
  has = Contains-get_or ps i z h;
  meets = m;
  least = λ q k n. elim (cases_lt k.0 i) [
    | inl lt ↦ absurd (below k.0 q lt k.1 n.0 (subst (λ r. span_of r n.0) (sym k.2) n.1.0) n.1.1)
    | inr le ↦ elim (cases_eq i k.0) [
      | inl e ↦ let s : (slice_index_or ps i z).address ≡ q.address = ap (λ r. r.address) (get_or_default ps i z q h ∙ ap (λ j. slice_index_or ps j q) e ∙ k.2) in omega arith
      | inr ne ↦
          let lt : i < k.0 = grind arith
          in let within : k.0 < length ps = k.1
          in let up : (slice_index_or ps i q).address < (slice_index_or ps k.0 q).address = rising i k.0 q lt within
          in let s : (slice_index_or ps i z).address ≡ (slice_index_or ps i q).address = ap (λ r. r.address) (get_or_default ps i z q h)
          in let t : (slice_index_or ps k.0 q).address ≡ q.address = ap (λ r. r.address) k.2
          in omega arith
    ]
  ];
}

-- the first of two lists together
first_left : (xs ys : List Prefix) (p k : Prefix) → IsFirstIn xs p k → ((q : Prefix) → Contains ys q → Overlap q p → k.address ≤ q.address) → IsFirstIn (xs ++ ys) p k
first_left xs ys p k f others = record {
  has = Contains-append_left xs ys k f.has;
  meets = f.meets;
  least = λ q h m. elim (Contains-append_cases xs ys q h) [ inl h' ↦ f.least q h' m | inr h' ↦ others q h' m ];
}

first_right : (xs ys : List Prefix) (p k : Prefix) → IsFirstIn ys p k → ((q : Prefix) → Contains xs q → Overlap q p → k.address ≤ q.address) → IsFirstIn (xs ++ ys) p k
first_right xs ys p k f others = record {
  has = Contains-append_right xs ys k f.has;
  meets = f.meets;
  least = λ q h m. elim (Contains-append_cases xs ys q h) [ inl h' ↦ others q h' m | inr h' ↦ f.least q h' m ];
}

pub none_meets : (xs : List Prefix) (p : Prefix) → ApartFrom xs p → (q : Prefix) → Contains xs q → ¬ Overlap q p
none_meets xs p apart q h m = apart q h m.0 m.1.0 m.1.1

pub lesser_answer : (xs ys : List Prefix) (p : Prefix) (x y : Option Prefix) → IsAnswer xs p x → IsAnswer ys p y → IsAnswer (xs ++ ys) p (lesser_of x y)
lesser_answer xs ys p None None a b = λ q h. elim (Contains-append_cases xs ys q h) [ inl h' ↦ a q h' | inr h' ↦ b q h' ]
lesser_answer xs ys p None (Some k) a b = first_right xs ys p k b (λ q h m. absurd (none_meets xs p a q h m))
lesser_answer xs ys p (Some k) None a b = first_left xs ys p k a (λ q h m. absurd (none_meets ys p b q h m))
lesser_answer xs ys p (Some k) (Some j) a b = choose (nat_le k.address j.address) (leb_tells k.address j.address)
  where
    choose : (t : Bool) → ((t ≡ true) × (k.address ≤ j.address)) ⊎ ((t ≡ false) × (j.address < k.address)) → IsAnswer (xs ++ ys) p (cond t (Some k) (Some j))
    choose true (inl h) = first_left xs ys p k a (λ q g m. let l : j.address ≤ q.address = b.least q g m in let e : k.address ≤ j.address = h.1 in omega arith)
    choose true (inr h) = absurd (cc)
    choose false (inl h) = absurd (cc)
    choose false (inr h) = first_right xs ys p j b (λ q g m. let l : k.address ≤ q.address = a.least q g m in let e : j.address < k.address = h.1 in omega arith)

-- the entries are the free, the reserved and the doubtful prefixes
pub entry_cases : (h : Holding) (q : Prefix) → Contains (entries h) q → Contains h.free q ⊎ IsListed h q
entry_cases h q c = elim (Contains-append_cases (h.free ++ h.reserved) h.doubtful q c) [
  | inl c' ↦ elim (Contains-append_cases h.free h.reserved q c') [ inl f ↦ inl f | inr r ↦ inr (inl r) ]
  | inr d ↦ inr (inr d)
]

pub entry_free : (h : Holding) (q : Prefix) → Contains h.free q → Contains (entries h) q
entry_free h q c = Contains-append_left (h.free ++ h.reserved) h.doubtful q (Contains-append_left h.free h.reserved q c)

pub entry_listed : (h : Holding) (q : Prefix) → IsListed h q → Contains (entries h) q
entry_listed h q l = elim l [
  | inl r ↦ Contains-append_left (h.free ++ h.reserved) h.doubtful q (Contains-append_right h.free h.reserved q r)
  | inr d ↦ Contains-append_right (h.free ++ h.reserved) h.doubtful q d
]

pub new_of : (h : Holding) (p : Prefix) → ApartFrom (entries h) p → IsNew h p
new_of h p apart = record {
  free = λ a i f. apart f.0 (entry_free h f.0 f.1) a f.2 i;
  listed = λ q l a i j. apart q (entry_listed h q l) a j i;
}

-- two entries with one address are the same
same_entry : (h : Holding) → IsPool h → (p q : Prefix) → Contains (entries h) p → Contains (entries h) q → p.address ≡ q.address → p ≡ q
same_entry h pool p q c d e = elim (cases_prefix p q) [
  | inl same ↦ same
  | inr ne ↦
      let there : span_of q p.address = subst (span_of q) (sym e) (first_in q)
      in absurd (elim (entry_cases h p c) [
        | inl f ↦ elim (entry_cases h q d) [
          | inl g ↦ pool.free.clean.apart p q f g ne p.address (first_in p) there
          | inr l ↦ pool.held q p.address l there (p, f, first_in p)
        ]
        | inr k ↦ elim (entry_cases h q d) [
          | inl g ↦ pool.held p p.address k (first_in p) (q, g, there)
          | inr l ↦ pool.apart p q ne k l p.address (first_in p) there
        ]
      ])
]

pub first_overlap_of : (h : Holding) → IsPool h → (p k : Prefix) → IsFirstIn (entries h) p k → IsFirstOverlap h p k
first_overlap_of h pool p k f = record {
  has = f.has;
  meets = f.meets;
  least = λ q c m.
      let le : k.address ≤ q.address = f.least q c m
      in elim (cases_eq k.address q.address) [
        | inl e ↦ let s : k.length ≡ q.length = ap (λ r. r.length) (same_entry h pool k q f.has c e) in inr (e, omega arith)
        | inr ne ↦ inl (grind arith)
      ];
}

pub first_meets : (h : Holding) (p k : Prefix) → IsFirstIn (entries h) p k → ¬ IsNew h p
first_meets h p k f new = elim (entry_cases h k f.has) [
  | inl c ↦ new.free f.meets.0 f.meets.1.1 (k, c, f.meets.1.0)
  | inr l ↦ new.listed k l f.meets.0 f.meets.1.1 f.meets.1.0
]

pub false_misses : (b : Bool) → b ≡ false → ¬ (b ≡ true)
false_misses b e f = absurd (cc)

pub pos_of : (r n : ℕ) → r ≡ n → ¬ (r ≡ 0) → 0 < n
pos_of r n e ne = grind arith

pub all_apart_at : (ps : List Prefix) (p : Prefix) (n : ℕ) → ApartBelow ps p n → length ps ≤ n → ApartFrom ps p
all_apart_at ps p n below le = all_apart ps p (λ k d lt within. below k d (omega arith) within)

-- of a rising list without overlaps only two entries can be the first that overlaps p:
-- the last that begins below p, and the first that doesn't
module _ (ps : List Prefix) (p : Prefix) (i : ℕ) (rising : IsRising ps) (apart : ArePairwiseApart ps)
    (below : BeginBelow ps i p.address)
    (above : BeginFrom ps i p.address) where
  -- what begins before another and reaches up to it overlaps it
  reaches : (k j : ℕ) (d : Prefix) → k < j → j < length ps → ¬ ((slice_index_or ps j d).address < (slice_index_or ps k d).address + size (slice_index_or ps k d))
  reaches k j d lt within h =
      let q : Prefix = slice_index_or ps k d
      in let r : Prefix = slice_index_or ps j d
      in let up : q.address < r.address = rising k j d lt within
      in apart q r (Contains-get_or ps k d (omega arith)) (Contains-get_or ps j d within)
      (λ e. let s : q.address ≡ r.address = ap (λ v. v.address) e in omega arith) r.address (omega arith, h) (first_in r)

  -- no entry before the last one below overlaps p
  pub before_last : (j : ℕ) → j < i → i ≤ length ps → ApartBelow ps p j
  before_last j lt le k d lt' within a x y =
      let q : Prefix = slice_index_or ps k d
      in let r : Prefix = slice_index_or ps j d
      in let b : r.address < p.address = below j d lt
      in let c : p.address ≤ a = y.0
      in let e : a < q.address + size q = x.1
      in reaches k j d lt' (omega arith) (omega arith)

  -- nothing from the first one that isn't below on overlaps p where that one doesn't
  pub after_first : (z : Prefix) → i < length ps → ApartBelow ps p i → ¬ Overlap (slice_index_or ps i z) p → ApartFrom ps p
  after_first z within before miss q h a x y = elim (cases_lt h.0 i) [
    | inl lt ↦ before h.0 q lt h.1 a (subst (λ v. span_of v a) (sym h.2) x) y
    | inr le ↦ elim (cases_eq i h.0) [
      | inl e ↦
          let same : q ≡ slice_index_or ps i z = sym h.2 ∙ ap (λ n. slice_index_or ps n q) (sym e) ∙ get_or_default ps i q z within
          in miss (a, (subst (λ v. span_of v a) same x, y))
      | inr ne ↦
          let far : h.0 < length ps = h.1
          in let lt : i < h.0 = grind arith
          in let r : Prefix = slice_index_or ps i z
          in let same : slice_index_or ps i z ≡ slice_index_or ps i q = get_or_default ps i z q within
          in let up : (slice_index_or ps i q).address < (slice_index_or ps h.0 q).address = rising i h.0 q lt far
          in let s : r.address ≡ (slice_index_or ps i q).address = ap (λ v. v.address) same
          in let t : (slice_index_or ps h.0 q).address ≡ q.address = ap (λ v. v.address) h.2
          in let start : p.address ≤ r.address = above i z (omega arith) within
          in let in_q : q.address ≤ a = x.0
          in let in_p : a < p.address + size p = y.1
          in miss (r.address, (first_in r, (start, omega arith)))
    ]
  ]

  -- the answer at the first place that isn't below, where nothing before it overlaps p
  pub answer_after : (x : Option Prefix) → ApartBelow ps p i → IsOverlapAt ps i p x → IsAnswer ps p x
  answer_after None before f = elim (cases_lt i (length ps)) [
    | inl within ↦ after_first p within before (f p within)
    | inr le ↦ all_apart_at ps p i before le
  ]
  answer_after (Some q) before h = subst (IsFirstIn ps p) (sym h.1) (first_at ps p i q rising before h.0 (subst (λ v. Overlap v p) h.1 h.2))

  -- the answer at the place before the first that isn't below, where the prefix there overlaps p
  pub answer_before : (j : ℕ) (q : Prefix) → j + 1 ≡ i → i ≤ length ps → IsOverlapAt ps j p (Some q) → IsAnswer ps p (Some q)
  answer_before j q e le h = subst (IsFirstIn ps p) (sym h.1) (first_at ps p j q rising (before_last j (omega arith) le) h.0 (subst (λ v. Overlap v p) h.1 h.2))

  pub none_before : (j : ℕ) → j + 1 ≡ i → i ≤ length ps → IsOverlapAt ps j p None → ApartBelow ps p i
  none_before j e le f = subst (ApartBelow ps p) e (more_apart ps p j p (before_last j (omega arith) le) (omega arith) (f p (omega arith)))

pub none_below : (ps : List Prefix) (p : Prefix) → ApartBelow ps p 0
none_below ps p k d lt within = absurd (omega arith)
