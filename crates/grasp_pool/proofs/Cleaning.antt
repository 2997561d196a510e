-- Clean lists with one prefix more or less.
use Rattle.std.proofs.Common.{◌≡◌, ℕ, ◌+◌, ◌-◌, ◌^◌, ◌<◌, ◌≤◌, ◌⊎◌, ◌↔◌, inl, inr, List, length, Contains, refl, sym, ◌∙◌, ap, subst, arith}
use Rattle.std.proofs.lemmas.Bool.{cases_lt}
use Rattle.grasp_types.specs.Prefix.{AddressBlock as Prefix, span_of, IsMultiple}
use Rattle.grasp_pool.specs.Spans.{Apart, size, IsValid, Covers}
use Rattle.grasp_pool.specs.Canonical.{IsRising, lower, upper, IsClean}
use Rattle.grasp_pool.proofs.Addresses.{first_in}
use Rattle.grasp_pool.proofs.Dyadic.{size_pos, next_multiple, same_prefix, size_halves}
use Rattle.grasp_pool.proofs.Maximal.{cases_prefix}
use Rattle.grasp_pool.specs.declared.halves.Halves.{Halves}
use Rattle.grasp_pool.specs.Parts.{ApartFrom}
use Rattle.grasp_pool.proofs.Words.{AreHalves, IsAdded, IsRemoved, IsAlone, IsSame, IsJoined}

pub lower_injective : (w r : Prefix) → lower w ≡ lower r → w ≡ r
lower_injective w r e =
    let a : w.address ≡ r.address = ap (λ v. v.address) e
    in let l : w.length + 1 ≡ r.length + 1 = ap (λ v. v.length) e
    in same_prefix w r a (omega arith)

pub upper_injective : (w r : Prefix) → upper w ≡ upper r → w ≡ r
upper_injective w r e =
    let a : w.address + size (lower w) ≡ r.address + size (lower r) = ap (λ v. v.address) e
    in let l : w.length + 1 ≡ r.length + 1 = ap (λ v. v.length) e
    in let s : size (lower w) ≡ size (lower r) = ap (λ n. 2 ^ (128 - n)) l
    in same_prefix w r (omega arith) (omega arith)

-- an upper half is no lower half
pub not_both : (w r : Prefix) → IsValid w → IsValid r → w.length < 128 → ¬ (upper w ≡ lower r)
not_both w r v u h e =
    let a : w.address + size (lower w) ≡ r.address = ap (λ p. p.address) e
    in let l : w.length + 1 ≡ r.length + 1 = ap (λ p. p.length) e
    in let l' : w.length ≡ r.length = omega arith
    in let s : size w ≡ size r = ap (λ n. 2 ^ (128 - n)) l'
    in let t : size w ≡ size (lower w) + size (lower w) = size_halves w h
    in let pos : 0 < size (lower w) = size_pos (lower w)
    in let n : w.address + size w ≤ r.address = next_multiple (size w) w.address r.address v.aligned (subst (λ k. IsMultiple k r.address) (sym s) u.aligned) (omega arith)
    in omega arith

pub added_clean : (old new : List Prefix) (u : Prefix) → IsClean old → IsAdded old new u → IsValid u → ApartFrom old u → IsAlone old u → IsClean new
added_clean old new u clean added v apart alone = record {
  valid = λ p h. elim ((added p).0 h) [ inl k ↦ clean.valid p k | inr e ↦ subst IsValid (sym e) v ];
  apart = λ p q h k ne. elim ((added p).0 h) [
    | inl h' ↦ elim ((added q).0 k) [
      | inl k' ↦ clean.apart p q h' k' ne
      | inr e ↦ subst (Apart p) (sym e) (apart p h')
    ]
    | inr e ↦ elim ((added q).0 k) [
      | inl k' ↦ λ a i j. apart q k' a j (subst (λ x. span_of x a) e i)
      | inr f ↦ absurd (ne (e ∙ sym f))
    ]
  ];
  unmerged = λ r w s h k. elim ((added (lower r)).0 h) [
    | inl h' ↦ elim ((added (upper r)).0 k) [
      | inl k' ↦ clean.unmerged r w s h' k'
      | inr e ↦ (alone r w s).1 (sym e) h'
    ]
    | inr e ↦ elim ((added (upper r)).0 k) [
      | inl k' ↦ (alone r w s).0 (sym e) k'
      | inr f ↦ let a : r.address ≡ r.address + size (lower r) = ap (λ x. x.address) (e ∙ sym f) in let pos : 0 < size (lower r) = size_pos (lower r) in omega arith
    ]
  ];
}

pub removed_clean : (old new : List Prefix) (u : Prefix) → IsClean old → IsRemoved old new u → IsClean new
removed_clean old new u clean removed = record {
  valid = λ p h. clean.valid p ((removed p).0 h).0;
  apart = λ p q h k. clean.apart p q ((removed p).0 h).0 ((removed q).0 k).0;
  unmerged = λ r w s h k. clean.unmerged r w s ((removed (lower r)).0 h).0 ((removed (upper r)).0 k).0;
}

pub added_covers : (old new : List Prefix) (u : Prefix) → IsAdded old new u → (a : ℕ) → Covers new a ↔ (Covers old a ⊎ span_of u a)
added_covers old new u added a = (
  λ c. elim ((added c.0).0 c.1) [
    | inl h ↦ inl (c.0, h, c.2)
    | inr e ↦ inr (subst (λ x. span_of x a) e c.2)
  ],
  λ s. elim s [
    | inl c ↦ (c.0, (added c.0).1 (inl c.1), c.2)
    | inr i ↦ (u, (added u).1 (inr refl), i)
  ],
)

pub removed_covers : (old new : List Prefix) (u : Prefix) → IsRemoved old new u → Contains old u → (a : ℕ) → Covers old a ↔ (Covers new a ⊎ span_of u a)
removed_covers old new u removed has a = (
  λ c. elim (cases_prefix c.0 u) [
    | inl e ↦ inr (subst (λ x. span_of x a) e c.2)
    | inr ne ↦ inl (c.0, (removed c.0).1 (c.1, ne), c.2)
  ],
  λ s. elim s [
    | inl c ↦ (c.0, ((removed c.0).0 c.1).0, c.2)
    | inr i ↦ (u, has, i)
  ],
)

pub removed_apart : (old new : List Prefix) (u : Prefix) → IsClean old → IsRemoved old new u → Contains old u → ApartFrom new u
removed_apart old new u clean removed has q h = clean.apart q u ((removed q).0 h).0 has ((removed q).0 h).1

-- what is apart from a list isn't covered by it
pub apart_covers : (ps : List Prefix) (p : Prefix) → ApartFrom ps p → (a : ℕ) → span_of p a → ¬ Covers ps a
apart_covers ps p apart a i c = apart c.0 c.1 a c.2 i

-- new addresses, as insert_prefix wants them
pub new_address : (ps : List Prefix) (p : Prefix) → ApartFrom ps p → (q : Prefix) → Contains ps q → ¬ (q.address ≡ p.address)
new_address ps p apart q h e = apart q h p.address (subst (span_of q) e (first_in q)) (first_in p)

-- an address of a prefix is in one of its halves
pub in_half : (r : Prefix) (a : ℕ) → r.length < 128 → span_of r a → span_of (lower r) a ⊎ span_of (upper r) a
in_half r a h i =
    let s : size r ≡ size (lower r) + size (lower r) = size_halves r h
    in elim (cases_lt a (r.address + size (lower r))) [
      | inl lt ↦ inl (i.0, lt)
      | inr le ↦ inr (le, let b : a < r.address + size r = i.1 in omega arith)
    ]

pub lower_in : (r : Prefix) (a : ℕ) → r.length < 128 → span_of (lower r) a → span_of r a
lower_in r a h i = let s : size r ≡ size (lower r) + size (lower r) = size_halves r h in (i.0, let b : a < r.address + size (lower r) = i.1 in omega arith)

pub upper_in : (r : Prefix) (a : ℕ) → r.length < 128 → span_of (upper r) a → span_of r a
upper_in r a h i =
    let s : size r ≡ size (lower r) + size (lower r) = size_halves r h
    in let b : r.address + size (lower r) ≤ a = i.0
    in let c : a < (r.address + size (lower r)) + size (lower r) = i.1
    in (omega arith, omega arith)

-- halves don't overlap
pub halves_apart : (r : Prefix) (a : ℕ) → span_of (lower r) a → ¬ span_of (upper r) a
halves_apart r a i j = let b : r.address + size (lower r) ≤ a = j.0 in let c : a < r.address + size (lower r) = i.1 in omega arith

-- where the buddy isn't in the list
pub buddy_alone : (ps : List Prefix) (p : Prefix) (h : Halves) → AreHalves p h → p.length ≤ 128 → ¬ Contains ps h.buddy → IsAlone ps p
buddy_alone ps p h are most none r v s =
    let l : h.parent.length + 1 ≡ p.length = are.length
    in let short : h.parent.length < 128 = omega arith
    in elim are.halves [
      | inl e ↦ (
        λ f k. none (subst (Contains ps) (ap upper (lower_injective r h.parent (sym f ∙ e.0)) ∙ sym e.1) k),
        λ f. absurd (not_both r h.parent v are.valid s (sym f ∙ e.0)),
      )
      | inr e ↦ (
        λ f. absurd (not_both h.parent r are.valid v short (sym e.0 ∙ f)),
        λ f k. none (subst (Contains ps) (ap lower (upper_injective r h.parent (sym f ∙ e.0)) ∙ sym e.1) k),
      )
    ]

-- a prefix of one bit is alone
pub short_alone : (ps : List Prefix) (p : Prefix) → p.length < 2 → IsAlone ps p
short_alone ps p h r v s =
    let one : 1 ≤ r.length = v.least
    in (
      λ e. let l : p.length ≡ r.length + 1 = ap (λ x. x.length) e in absurd (omega arith),
      λ e. let l : p.length ≡ r.length + 1 = ap (λ x. x.length) e in absurd (omega arith),
    )

-- p and its buddy make up the parent
pub both_halves : (p : Prefix) (h : Halves) → AreHalves p h → p.length ≤ 128 → (a : ℕ) → span_of h.parent a ↔ (span_of p a ⊎ span_of h.buddy a)
both_halves p h are most a =
    let l : h.parent.length + 1 ≡ p.length = are.length
    in let short : h.parent.length < 128 = omega arith
    in elim are.halves [
      | inl e ↦ (
        λ i. elim (in_half h.parent a short i) [
          | inl x ↦ inl (subst (λ v. span_of v a) (sym e.0) x)
          | inr x ↦ inr (subst (λ v. span_of v a) (sym e.1) x)
        ],
        λ s. elim s [
          | inl x ↦ lower_in h.parent a short (subst (λ v. span_of v a) e.0 x)
          | inr x ↦ upper_in h.parent a short (subst (λ v. span_of v a) e.1 x)
        ],
      )
      | inr e ↦ (
        λ i. elim (in_half h.parent a short i) [
          | inl x ↦ inr (subst (λ v. span_of v a) (sym e.1) x)
          | inr x ↦ inl (subst (λ v. span_of v a) (sym e.0) x)
        ],
        λ s. elim s [
          | inl x ↦ upper_in h.parent a short (subst (λ v. span_of v a) e.0 x)
          | inr x ↦ lower_in h.parent a short (subst (λ v. span_of v a) e.1 x)
        ],
      )
    ]

-- a step up: the buddy goes out of the list
pub joined : (old new : List Prefix) (p : Prefix) (h : Halves) → IsClean old → IsRising new → IsValid p → ApartFrom old p → AreHalves p h
    → Contains old h.buddy → IsRemoved old new h.buddy → length new + 1 ≡ length old → IsJoined old p new h.parent
joined old new p h clean rising v apart are has removed fewer =
    let both : (a : ℕ) → span_of h.parent a ↔ (span_of p a ⊎ span_of h.buddy a) = both_halves p h are v.most
    in let covers : (a : ℕ) → Covers old a ↔ (Covers new a ⊎ span_of h.buddy a) = removed_covers old new h.buddy removed has
    in record {
      tidy = record { clean = removed_clean old new h.buddy clean removed; rising = rising };
      valid = are.valid;
      apart = λ q k a i j. elim ((both a).0 j) [
        | inl x ↦ apart q ((removed q).0 k).0 a i x
        | inr x ↦ removed_apart old new h.buddy clean removed has q k a i x
      ];
      same = λ a. (
        λ s. elim s [
          | inl c ↦ inl ((covers a).1 (inl c))
          | inr i ↦ elim ((both a).0 i) [ inl x ↦ inr x | inr x ↦ inl ((covers a).1 (inr x)) ]
        ],
        λ s. elim s [
          | inl c ↦ elim ((covers a).0 c) [ inl c' ↦ inl c' | inr x ↦ inr ((both a).1 (inr x)) ]
          | inr i ↦ inr ((both a).1 (inl i))
        ],
      );
      shorter = are.length;
      fewer = fewer;
    }

-- two steps
pub same_then : (xs ys zs : List Prefix) (p q r : Prefix) → IsSame xs p ys q → IsSame ys q zs r → IsSame xs p zs r
same_then xs ys zs p q r f g a = (λ s. (f a).0 ((g a).0 s), λ s. (g a).1 ((f a).1 s))
