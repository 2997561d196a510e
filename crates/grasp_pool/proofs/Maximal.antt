-- In a clean list stand the maximal prefixes of what it covers, and no others.
use Rattle.std.proofs.Common.{◌≡◌, ℕ, suc, zero, ◌+◌, ◌-◌, ◌<◌, ◌≤◌, ◌⊎◌, ◌↔◌, inl, inr, List, Contains, sym, ap, subst, arith}
use Rattle.std.proofs.lemmas.Bool.{cases_lt, cases_eq}
use Rattle.grasp_types.specs.Prefix.{AddressBlock as Prefix, span_of}
use Rattle.grasp_pool.specs.Spans.{size, IsValid, Covers}
use Rattle.grasp_pool.specs.Canonical.{IsInside, IsFreeIn, IsMaximal, IsRising, IsCanonical, lower, upper, IsClean}
use Rattle.grasp_pool.proofs.Addresses.{first_in}
use Rattle.grasp_pool.proofs.Dyadic.{size_pos, nested, inside_from, inside_both, size_halves, lower_valid, upper_valid}

-- two prefixes are the same or not, as their addresses and lengths are
pub cases_prefix : (p q : Prefix) → (p ≡ q) ⊎ (¬ (p ≡ q))
cases_prefix p q = elim (cases_eq p.address q.address) [
  | inl e ↦ elim (cases_eq p.length q.length) [
    | inl f ↦ inl (λ i. record { address = e i; length = f i })
    | inr ne ↦ inr (λ h. ne (ap (λ r. r.length) h))
  ]
  | inr ne ↦ inr (λ h. ne (ap (λ r. r.address) h))
]

-- a prefix that shares an address with a shorter one lies in it
pub nested_inside : (p q : Prefix) (a : ℕ) → IsValid p → IsValid q → p.length ≤ q.length → span_of p a → span_of q a → IsInside q p
nested_inside p q a v w h i j =
    let b : (p.address ≤ q.address) × (q.address + size q ≤ p.address + size p) = nested p q a v w h i j
    in inside_from p q b.0 b.1

-- a longer prefix around a half is that half
half_is : (h p : Prefix) → IsValid h → IsValid p → h.length ≤ p.length → IsInside h p → p ≡ h
half_is h p v w le inside = inside_both p h w v (nested_inside h p h.address v w le (first_in h) (inside h.address (first_in h))) inside

-- what is all covered lies in one prefix of the list
pub in_one : (ps : List Prefix) → IsClean ps → (n : ℕ) (q : Prefix) → IsValid q → q.length + n ≡ 128
    → ((a : ℕ) → span_of q a → Covers ps a) → (p : Prefix) × Contains ps p × IsInside q p
in_one ps clean zero q v e all =
    let c : Covers ps q.address = all q.address (first_in q)
    in let w : IsValid c.0 = clean.valid c.0 c.1
    in let most : c.0.length ≤ 128 = w.most
    in (c.0, c.1, nested_inside c.0 q q.address w v (omega arith) c.2 (first_in q))
in_one ps clean (suc n) q v e all =
    let short : q.length < 128 = omega arith
    in let vl : IsValid (lower q) = lower_valid q short v
    in let vu : IsValid (upper q) = upper_valid q short v
    in let sizes : size q ≡ size (lower q) + size (lower q) = size_halves q short
    in let pos : 0 < size (lower q) = size_pos (lower q)
    in let l : (p : Prefix) × Contains ps p × IsInside (lower q) p = in_one ps clean n (lower q) vl (omega arith) (λ a i. all a (i.0, omega arith))
    in let u : (p : Prefix) × Contains ps p × IsInside (upper q) p = in_one ps clean n (upper q) vu (omega arith) (λ a i. all a (omega arith, omega arith))
    in elim (cases_lt q.length l.0.length) [
      | inr le ↦ (l.0, l.1, nested_inside l.0 q q.address (clean.valid l.0 l.1) v le (l.2 q.address (first_in (lower q))) (first_in q))
      | inl gl ↦ elim (cases_lt q.length u.0.length) [
        | inr le ↦ (u.0, u.1, nested_inside u.0 q (upper q).address (clean.valid u.0 u.1) v le (u.2 (upper q).address (first_in (upper q))) (omega arith, omega arith))
        | inl gu ↦
            let el : l.0 ≡ lower q = half_is (lower q) l.0 vl (clean.valid l.0 l.1) (omega arith) l.2
            in let eu : u.0 ≡ upper q = half_is (upper q) u.0 vu (clean.valid u.0 u.1) (omega arith) u.2
            in absurd (clean.unmerged q v short (subst (Contains ps) el l.1) (subst (Contains ps) eu u.1))
      ]
    ]

-- where an address of the list's is shared, so is the prefix
pub shared : (ps : List Prefix) → IsClean ps → (p q : Prefix) (a : ℕ) → Contains ps p → Contains ps q → span_of p a → span_of q a → p ≡ q
shared ps clean p q a h k i j = elim (cases_prefix p q) [ inl e ↦ e | inr ne ↦ absurd (clean.apart p q h k ne a i j) ]

pub in_one_of : (ps : List Prefix) → IsClean ps → (q : Prefix) → IsFreeIn ps q → (p : Prefix) × Contains ps p × IsInside q p
in_one_of ps clean q f = let most : q.length ≤ 128 = f.valid.most in in_one ps clean (128 - q.length) q f.valid (omega arith) f.all

pub member_free : (ps : List Prefix) → IsClean ps → (p : Prefix) → Contains ps p → IsFreeIn ps p
member_free ps clean p h = record { valid = clean.valid p h; all = λ a i. (p, h, i) }

pub maximal_members : (ps : List Prefix) → IsClean ps → (p : Prefix) → Contains ps p ↔ IsMaximal ps p
maximal_members ps clean p = (
  λ h. record {
    free = member_free ps clean p h;
    largest = λ q f inside.
        let o : (r : Prefix) × Contains ps r × IsInside q r = in_one_of ps clean q f
        in let e : p ≡ o.0 = shared ps clean p o.0 p.address h o.1 (first_in p) (o.2 p.address (inside p.address (first_in p)))
        in inside_both q p f.valid (clean.valid p h) (subst (IsInside q) (sym e) o.2) inside;
  },
  λ m.
      let o : (r : Prefix) × Contains ps r × IsInside p r = in_one_of ps clean p m.free
      in subst (Contains ps) (m.largest o.0 (member_free ps clean o.0 o.1) o.2) o.1,
)

pub clean_canonical : (ps : List Prefix) → IsClean ps → IsRising ps → IsCanonical ps
clean_canonical ps clean rising = record { rising = rising; members = maximal_members ps clean }
