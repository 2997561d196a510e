-- A prefix and the other half of its parent.
use Rattle.std.proofs.Common.{◌≡◌, ℕ, suc, ◌+◌, ◌-◌, ◌*◌, ◌/◌, ◌%◌, ◌^◌, ◌<◌, ◌≤◌, ◌⊎◌, inl, inr, refl, sym, ◌∙◌, ap, subst, arith, bit_and, bit_xor}
use Rattle.std.proofs.lemmas.Nat.{div-add-mod', mod_below, pow_below, and_comm, and-not}
use Rattle.std.proofs.lemmas.Nat.Bits.{and_pow}
use Rattle.std.specs.Int.Bits.{xor_add_and}
use Rattle.std.proofs.lemmas.Bool.{cases_eq}
use Rattle.std.proofs.Math.Nat.{pow-suc, mul-div_cancel}
use Rattle.grasp_types.proofs.Multiples.{multiple_of_mod}
use Rattle.grasp_types.specs.Prefix.{AddressBlock as Prefix, IsMultiple}
use Rattle.grasp_pool.specs.Spans.{size, IsValid}
use Rattle.grasp_pool.specs.Canonical.{lower, upper}
use Rattle.grasp_pool.proofs.Dyadic.{size_pos, next_multiple, multiple_plus, own_multiple, same_prefix, lower_valid, upper_valid}
use Rattle.grasp_pool.proofs.Words.{AreHalves}
use Rattle.grasp_pool.specs.Functions.{offset_of, parent_of, buddy_of}

-- a power below 128 fits
pub size_small : (p : Prefix) → IsValid p → 2 ≤ p.length → size p + size p ≤ 2 ^ 127
size_small p v h =
    let e : 2 ^ suc (128 - p.length) ≡ size p * 2 = pow-suc 2 (128 - p.length)
    in let b : 2 ^ suc (128 - p.length) < 2 ^ 128 = pow_below (suc (128 - p.length)) 128 (omega arith)
    in let c : suc (128 - p.length) < 127 → 2 ^ suc (128 - p.length) < 2 ^ 127 = pow_below (suc (128 - p.length)) 127
    in elim (cases_eq (suc (128 - p.length)) 127) [
      | inl same ↦ let s : 2 ^ suc (128 - p.length) ≡ 2 ^ 127 = ap (λ n. 2 ^ n) same in omega arith
      | inr other ↦ let lt : suc (128 - p.length) < 127 = grind arith in let d : 2 ^ suc (128 - p.length) < 2 ^ 127 = c lt in omega arith
    ]

-- of a multiple of s, the remainder by 2 s is 0 or s
pub remainders : (s x : ℕ) → 0 < s → IsMultiple s x → (x % (s + s) ≡ 0) ⊎ ((x % (s + s) ≡ s) × (s ≤ x))
remainders s x pos m =
    let split : x / (s + s) * (s + s) + x % (s + s) ≡ x = div-add-mod' x (s + s)
    in let below : x % (s + s) < s + s = mod_below x (s + s) (omega arith)
    in let twice : IsMultiple s (x / (s + s) * (s + s)) = (x / (s + s) + x / (s + s), grind arith)
    in let next : x / (s + s) * (s + s) < x → x / (s + s) * (s + s) + s ≤ x = next_multiple s (x / (s + s) * (s + s)) x twice m
    in let after : x < x / (s + s) * (s + s) + (s + s) → x + s ≤ x / (s + s) * (s + s) + (s + s)
    = next_multiple s x (x / (s + s) * (s + s) + (s + s)) m (multiple_plus s (x / (s + s) * (s + s)) (s + s) twice (multiple_plus s s s (own_multiple s) (own_multiple s)))
    in elim (cases_eq (x % (s + s)) 0) [
      | inl e ↦ inl e
      | inr ne ↦ inr (grind arith, grind arith)
    ]

pub parent_size : (p r : Prefix) → r.length + 1 ≡ p.length → p.length ≤ 128 → size r ≡ size p + size p
parent_size p r e h =
    let f : 128 - r.length ≡ suc (128 - p.length) = omega arith
    in let g : size r ≡ size p * 2 = ap (λ n. 2 ^ n) f ∙ pow-suc 2 (128 - p.length)
    in omega arith

parent_valid : (p r : Prefix) → IsValid p → r.length + 1 ≡ p.length → 1 ≤ r.length → IsMultiple (size r) r.address → r.address ≤ p.address → IsValid r
parent_valid p r v e some aligned le =
    let most : p.length ≤ 128 = v.most
    in let w : p.address < 2 ^ 128 = v.within
    in record { least = some; most = omega arith; aligned = aligned; within = omega arith }

half_size : (p r : Prefix) → r.length + 1 ≡ p.length → size p ≡ size (lower r)
half_size p r e = ap (λ n. 2 ^ (128 - n)) (sym e)

pub lower_case : (p : Prefix) → IsValid p → 2 ≤ p.length → p.address % (size p + size p) ≡ 0
    → AreHalves p (record { parent = record { address = p.address; length = p.length - 1 }; buddy = record { address = p.address + size p; length = p.length } })
lower_case p v h e =
    let r : Prefix = record { address = p.address; length = p.length - 1 }
    in let len : r.length + 1 ≡ p.length = omega arith
    in let s : size r ≡ size p + size p = parent_size p r len v.most
    in record {
      valid = parent_valid p r v len (omega arith) (subst (λ n. IsMultiple n p.address) (sym s) (multiple_of_mod (size p + size p) p.address e)) (omega arith);
      length = len;
      halves = inl (
        same_prefix p (lower r) refl (sym len),
        same_prefix (record { address = p.address + size p; length = p.length }) (upper r) (ap (λ n. p.address + n) (half_size p r len)) (sym len),
      );
    }

-- what is left below the upper half is aligned
below_upper : (s x : ℕ) → s ≤ x → x % (s + s) ≡ s → IsMultiple (s + s) (x - s)
below_upper s x le e = let split : x / (s + s) * (s + s) + x % (s + s) ≡ x = div-add-mod' x (s + s) in (x / (s + s), omega arith)

pub upper_case : (p : Prefix) → IsValid p → 2 ≤ p.length → size p ≤ p.address → p.address % (size p + size p) ≡ size p
    → AreHalves p (record { parent = record { address = p.address - size p; length = p.length - 1 }; buddy = record { address = p.address - size p; length = p.length } })
upper_case p v h le e =
    let r : Prefix = record { address = p.address - size p; length = p.length - 1 }
    in let len : r.length + 1 ≡ p.length = omega arith
    in let s : size r ≡ size p + size p = parent_size p r len v.most
    in let back : (p.address - size p) + size p ≡ p.address = omega arith
    in record {
      valid = parent_valid p r v len (omega arith) (subst (λ n. IsMultiple n (p.address - size p)) (sym s) (below_upper (size p) p.address le e)) (omega arith);
      length = len;
      halves = inr (
        same_prefix p (upper r) (sym back ∙ ap (λ n. (p.address - size p) + n) (half_size p r len)) (sym len),
        same_prefix (record { address = p.address - size p; length = p.length }) (lower r) refl (sym len),
      );
    }

-- a prefix is as far from its parent's first address as the other half is from its own
pub offset_cases : (p : Prefix) → IsValid p → (offset_of p ≡ 0) ⊎ ((offset_of p ≡ size p) × (size p ≤ p.address))
offset_cases p v = remainders (size p) p.address (size_pos p) v.aligned

pub offset_small : (p : Prefix) → IsValid p → (offset_of p ≤ size p) × (offset_of p ≤ p.address)
offset_small p v = elim (offset_cases p v) [ inl e ↦ (omega arith, omega arith) | inr h ↦ (let e : offset_of p ≡ size p = h.0 in omega arith, let e : offset_of p ≡ size p = h.0 in let l : size p ≤ p.address = h.1 in omega arith) ]

pub are_halves : (p : Prefix) → IsValid p → 2 ≤ p.length → AreHalves p (record { parent = parent_of p; buddy = buddy_of p })
are_halves p v h = elim (offset_cases p v) [
  | inl e ↦
      let x : ◌≡◌ {A = Prefix} (record { address = p.address; length = p.length - 1 }) (parent_of p) = same_prefix _ _ (let e' : offset_of p ≡ 0 = e in omega arith) refl
      in let y : ◌≡◌ {A = Prefix} (record { address = p.address + size p; length = p.length }) (buddy_of p) = same_prefix _ _ (let e' : offset_of p ≡ 0 = e in omega arith) refl
      in subst (λ u. AreHalves p (record { parent = u; buddy = buddy_of p })) x (subst (λ u. AreHalves p (record { parent = record { address = p.address; length = p.length - 1 }; buddy = u })) y (lower_case p v h e))
  | inr k ↦
      let e : offset_of p ≡ size p = k.0
      in let x : ◌≡◌ {A = Prefix} (record { address = p.address - size p; length = p.length - 1 }) (parent_of p) = same_prefix _ _ (omega arith) refl
      in let y : ◌≡◌ {A = Prefix} (record { address = p.address - size p; length = p.length }) (buddy_of p) = same_prefix _ _ (omega arith) refl
      in subst (λ u. AreHalves p (record { parent = u; buddy = buddy_of p })) x (subst (λ u. AreHalves p (record { parent = record { address = p.address - size p; length = p.length - 1 }; buddy = u })) y (upper_case p v h k.1 k.0))
]

pub buddy_valid : (p : Prefix) → IsValid p → 2 ≤ p.length → IsValid (buddy_of p)
buddy_valid p v h =
    let a : AreHalves p (record { parent = parent_of p; buddy = buddy_of p }) = are_halves p v h
    in let short : (parent_of p).length < 128 = let most : p.length ≤ 128 = v.most in omega arith
    in elim a.halves [
      | inl e ↦ subst IsValid (sym e.1) (upper_valid (parent_of p) short a.valid)
      | inr e ↦ subst IsValid (sym e.1) (lower_valid (parent_of p) short a.valid)
    ]

-- what holds of three numbers holds of their equals
pub of_three : (F : ℕ → ℕ → ℕ → Type 0) (h a l h' a' l' : ℕ) → h' ≡ h → a' ≡ a → l' ≡ l → F h a l → F h' a' l'
of_three F h a l h' a' l' e f g x = subst (λ n. F n a' l') (sym e) (subst (λ n. F h n l') (sym f) (subst (λ n. F h a n) (sym g) x))

-- the lower half and its size, from what they were computed of
pub lower_from : (w p : Prefix) (a l : ℕ) → p ≡ record { address = a; length = l + 1 } → a ≡ w.address → l ≡ w.length → p ≡ lower w
lower_from w p a l e f g = e ∙ same_prefix (record { address = a; length = l + 1 }) (lower w) f (ap (λ n. n + 1) g)

pub half_from : (w p : Prefix) (h : ℕ) → h ≡ size p → p ≡ lower w → h ≡ size (lower w)
half_from w p h e f = e ∙ ap size f

-- where each half begins: the bit of the size that an address has is its offset
pub offset_bit : (p : Prefix) → IsValid p → bit_and p.address (size p) ≡ offset_of p
offset_bit p v =
    let s : ℕ = size p
    in let q : ℕ = p.address / (s + s)
    in let pos : 0 < s = size_pos p
    in let split : q * (s + s) + offset_of p ≡ p.address = div-add-mod' p.address (s + s)
    in elim (offset_cases p v) [
      | inl e ↦
          let is : p.address ≡ (q * 2) * s = grind arith
          in let d : p.address / s ≡ q * 2 = ap (λ n. n / s) is ∙ mul-div_cancel (q * 2) pos
          in let even : (q * 2) % 2 ≡ 0 = omega arith
          in let none : 0 * s ≡ 0 = omega arith
          in and_pow p.address (128 - p.length) ∙ ap (λ n. n % 2 * s) d ∙ ap (λ n. n * s) even ∙ none ∙ sym e
      | inr h ↦
          let e : offset_of p ≡ s = h.0
          in let is : p.address ≡ (q * 2 + 1) * s = grind arith
          in let d : p.address / s ≡ q * 2 + 1 = ap (λ n. n / s) is ∙ mul-div_cancel (q * 2 + 1) pos
          in let odd : (q * 2 + 1) % 2 ≡ 1 = omega arith
          in let one : 1 * s ≡ s = omega arith
          in and_pow p.address (128 - p.length) ∙ ap (λ n. n % 2 * s) d ∙ ap (λ n. n * s) odd ∙ one ∙ sym e
    ]

pub parent_bits : (p : Prefix) → IsValid p → 2 ≤ p.length → bit_and p.address (2 ^ 128 - 1 - size p) ≡ (parent_of p).address
parent_bits p v h =
    let small : size p + size p ≤ 2 ^ 127 = size_small p v h
    in let within : p.address < 2 ^ 128 = v.within
    in let e : bit_and (2 ^ 128 - 1 - size p) p.address + bit_and (size p) p.address ≡ p.address = and-not 128 (size p) p.address (omega arith) within
    in let f : bit_and (size p) p.address ≡ offset_of p = and_comm (size p) p.address ∙ offset_bit p v
    in let g : bit_and p.address (2 ^ 128 - 1 - size p) ≡ bit_and (2 ^ 128 - 1 - size p) p.address = and_comm p.address (2 ^ 128 - 1 - size p)
    in omega arith

pub buddy_bits : (p : Prefix) → IsValid p → bit_xor p.address (size p) ≡ (buddy_of p).address
buddy_bits p v =
    let e : bit_xor p.address (size p) + bit_and p.address (size p) * 2 ≡ p.address + size p = xor_add_and p.address (size p)
    in let f : bit_and p.address (size p) ≡ offset_of p = offset_bit p v
    in let small = offset_small p v
    in let a : offset_of p ≤ size p = small.0
    in let b : offset_of p ≤ p.address = small.1
    in omega arith

-- the two, made by these bits
pub parent_made : (p q : Prefix) (h a l : ℕ) → IsValid p → 2 ≤ p.length → h ≡ size p → a ≡ p.address → l ≡ p.length
    → q ≡ record { address = bit_and a (2 ^ 128 - 1 - h); length = l - 1 } → q ≡ parent_of p
parent_made p q h a l v two e f g made = made ∙ same_prefix (record { address = bit_and a (2 ^ 128 - 1 - h); length = l - 1 }) (parent_of p)
    (of_three (λ m n k. bit_and n (2 ^ 128 - 1 - m) ≡ (parent_of p).address) (size p) p.address p.length h a l e f g (parent_bits p v two)) (ap (λ n. n - 1) g)

pub buddy_made : (p q : Prefix) (h a l : ℕ) → IsValid p → h ≡ size p → a ≡ p.address → l ≡ p.length → q ≡ record { address = bit_xor a h; length = l } → q ≡ buddy_of p
buddy_made p q h a l v e f g made = made ∙ same_prefix (record { address = bit_xor a h; length = l }) (buddy_of p)
    (of_three (λ m n k. bit_xor n m ≡ (buddy_of p).address) (size p) p.address p.length h a l e f g (buddy_bits p v)) g
