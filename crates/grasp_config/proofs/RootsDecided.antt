-- A pool opens with roots, or it doesn't.
use Rattle.std.proofs.Common.{ℕ, zero, suc, ◌+◌, ◌-◌, ◌%◌, ◌<◌, ◌≤◌, ◌^◌, ◌⊎◌, inl, inr, List, length, slice_index_or, sym, ap, ◌∙◌, subst, arith, add-one}
use Rattle.std.proofs.lemmas.Bool.{cases_eq, cases_lt}
use Rattle.std.proofs.lemmas.List.{get_or_default}
use Rattle.std.proofs.lemmas.Nat.{pow_pos}
use Rattle.grasp_types.specs.Prefix.{AddressBlock as Prefix, size_of, span_of, Overlap}
use Rattle.grasp_types.proofs.Multiples.{multiple_of_mod, mod_of_multiple}
use Rattle.grasp_pool.specs.Spans.{IsValid, size}
use Rattle.grasp_pool.specs.Roots.{block_of, AllValid, RootsApart, AllApart}
use Rattle.grasp_pool.specs.declared.roots.RootPrefix.{RootPrefix}
use Rattle.grasp_pool.proofs.Dyadic.{size_pos}
use Rattle.grasp_pool.proofs.Meeting.{meets}
use Rattle.grasp_pool.proofs.Opening.{valid_more}
use Rattle.grasp_config.specs.Config.{AreRoots}
use Rattle.grasp_config.proofs.GoodRoots.{no_root}

-- a fact, or that it isn't so
abbrev pub Decided : Type 0 → Type 0
Decided A = A ⊎ ¬ A

prefix_decided : (p : Prefix) → Decided (IsValid p)
prefix_decided p = elim (cases_lt 0 p.length) [
  | inr none ↦ inr (λ v. let x : 1 ≤ p.length = v.least in absurd (omega arith))
  | inl some ↦ elim (cases_lt 128 p.length) [
    | inl long ↦ inr (λ v. let x : p.length ≤ 128 = v.most in absurd (omega arith))
    | inr most ↦ elim (cases_lt p.address (2 ^ 128)) [
      | inr out ↦ inr (λ v. let x : p.address < 2 ^ 128 = v.within in absurd (omega arith))
      | inl within ↦ elim (cases_eq (p.address % size_of p.length) 0) [
        | inl e ↦ inl (record { least = omega arith; most = most; within = within; aligned = multiple_of_mod (size_of p.length) p.address e })
        | inr ne ↦ inr (λ v. ne (mod_of_multiple (size_of p.length) p.address (pow_pos (128 - p.length)) v.aligned))
      ]
    ]
  ]
]

overlap_decided : (q p : Prefix) → Decided (Overlap q p)
overlap_decided q p =
    let a : 0 < size p = size_pos p in
    let b : 0 < size q = size_pos q in
    elim (cases_lt q.address (p.address + size p)) [
      | inr behind ↦ inr (λ m. let x : q.address ≤ m.0 = m.1.0.0 in let y : m.0 < p.address + size p = m.1.1.1 in absurd (omega arith))
      | inl h ↦ elim (cases_lt p.address (q.address + size q)) [
        | inr before ↦ inr (λ m. let x : m.0 < q.address + size q = m.1.0.1 in let y : p.address ≤ m.0 = m.1.1.0 in absurd (omega arith))
        | inl k ↦ inl (meets q p (omega arith) (omega arith))
      ]
    ]

valid_decided : (roots : List RootPrefix) (n : ℕ) → Decided (AllValid roots n)
valid_decided roots zero = inl (λ k d lt within. absurd (omega arith))
valid_decided roots (suc n) = elim (valid_decided roots n) [
  | inr bad ↦ inr (λ all. bad (λ k d lt within. all k d (omega arith) within))
  | inl good ↦ elim (cases_lt n (length roots)) [
    | inr over ↦ inl (λ k d lt within. good k d (omega arith) within)
    | inl within ↦ elim (prefix_decided (block_of (slice_index_or roots n no_root))) [
      | inl v ↦ inl (subst (AllValid roots) (add-one n) (valid_more roots n no_root good within v))
      | inr bad ↦ inr (λ all. bad (all n no_root (omega arith) within))
    ]
  ]
]

-- one more root is apart from p
root_apart : (roots : List RootPrefix) (p : Prefix) (i : ℕ) (z : RootPrefix) → RootsApart roots p i → i < length roots → ¬ Overlap (block_of (slice_index_or roots i z)) p → RootsApart roots p (i + 1)
root_apart roots p i z below h miss k d lt within = elim (cases_eq k i) [
  | inl e ↦ λ a x y. miss (a, (subst (λ r. span_of (block_of r) a) (sym (get_or_default roots k z d within) ∙ ap (λ j. slice_index_or roots j z) e) x, y))
  | inr ne ↦ below k d (grind arith) within
]

-- one more root is apart from those before it
apart_more : (roots : List RootPrefix) (j : ℕ) (z : RootPrefix) → AllApart roots j → j < length roots → RootsApart roots (block_of (slice_index_or roots j z)) j → AllApart roots (j + 1)
apart_more roots j z before h here k d lt within = elim (cases_eq k j) [
  | inl e ↦ subst (λ n. RootsApart roots (block_of (slice_index_or roots n d)) n) (sym e) (subst (λ r. RootsApart roots (block_of r) j) (get_or_default roots j z d h) here)
  | inr ne ↦ before k d (grind arith) within
]

apart_decided : (roots : List RootPrefix) (p : Prefix) (n : ℕ) → Decided (RootsApart roots p n)
apart_decided roots p zero = inl (λ k d lt within. absurd (omega arith))
apart_decided roots p (suc n) = elim (apart_decided roots p n) [
  | inr bad ↦ inr (λ all. bad (λ k d lt within. all k d (omega arith) within))
  | inl good ↦ elim (cases_lt n (length roots)) [
    | inr over ↦ inl (λ k d lt within. good k d (omega arith) within)
    | inl within ↦ elim (overlap_decided (block_of (slice_index_or roots n no_root)) p) [
      | inr miss ↦ inl (subst (RootsApart roots p) (add-one n) (root_apart roots p n no_root good within miss))
      | inl hit ↦ inr (λ all. all n no_root (omega arith) within hit.0 hit.1.0 hit.1.1)
    ]
  ]
]

all_apart_decided : (roots : List RootPrefix) (n : ℕ) → Decided (AllApart roots n)
all_apart_decided roots zero = inl (λ j d lt within. absurd (omega arith))
all_apart_decided roots (suc n) = elim (all_apart_decided roots n) [
  | inr bad ↦ inr (λ all. bad (λ j d lt within. all j d (omega arith) within))
  | inl good ↦ elim (cases_lt n (length roots)) [
    | inr over ↦ inl (λ j d lt within. good j d (omega arith) within)
    | inl within ↦ elim (apart_decided roots (block_of (slice_index_or roots n no_root)) n) [
      | inl here ↦ inl (subst (AllApart roots) (add-one n) (apart_more roots n no_root good within here))
      | inr bad ↦ inr (λ all. bad (all n no_root (omega arith) within))
    ]
  ]
]

pub roots_decided : (roots : List RootPrefix) → Decided (AreRoots roots)
roots_decided roots = elim (cases_lt 1024 (length roots)) [
  | inl many ↦ inr (λ are. let few : length roots ≤ 1024 = are.few in absurd (omega arith))
  | inr few ↦ elim (valid_decided roots (length roots)) [
    | inr bad ↦ inr (λ are. bad are.valid)
    | inl valid ↦ elim (all_apart_decided roots (length roots)) [
      | inr bad ↦ inr (λ are. bad are.apart)
      | inl apart ↦ inl (record { few = few; valid = valid; apart = apart })
    ]
  ]
]
