-- Prefixes are apart, or one lies in the other.
use Rattle.std.proofs.Common.{◌≡◌, ℕ, suc, ◌+◌, ◌-◌, ◌*◌, ◌^◌, ◌<◌, ◌≤◌, sym, ◌∙◌, ap, arith}
use Rattle.std.proofs.lemmas.Nat.{pow_pos, pow-add, pow_below, mul-le, row_fits}
use Rattle.std.proofs.Math.Nat.{mul_assoc, pow-suc}
use Rattle.grasp_types.specs.Prefix.{AddressBlock as Prefix, span_of, IsMultiple}
use Rattle.grasp_pool.proofs.Addresses.{first_in}
use Rattle.grasp_pool.specs.Spans.{size, IsValid}
use Rattle.grasp_pool.specs.Canonical.{IsInside, lower, upper}

pub size_pos : (p : Prefix) → 0 < size p
size_pos p = pow_pos (128 - p.length)

pub same_prefix : (p q : Prefix) → p.address ≡ q.address → p.length ≡ q.length → p ≡ q
same_prefix p q e f = λ i. record { address = e i; length = f i }

-- two multiples differ by at least one step
pub next_multiple : (s x y : ℕ) → IsMultiple s x → IsMultiple s y → x < y → x + s ≤ y
next_multiple s x y mx my h =
    let k : ℕ = mx.0 in let j : ℕ = my.0
    in let ex : x ≡ k * s = mx.1 in let ey : y ≡ j * s = my.1
    in let mono : j ≤ k → j * s ≤ k * s = λ le. mul-le j s k s le (omega arith)
    in let lt : k < j = grind arith
    in let r : k * s + s ≤ j * s = row_fits k s j s lt (omega arith)
    in omega arith

top_multiple : (p : Prefix) → p.length ≤ 128 → IsMultiple (size p) (2 ^ 128)
top_multiple p h =
    let e : 128 ≡ p.length + (128 - p.length) = omega arith
    in (2 ^ p.length, ap (λ n. 2 ^ n) e ∙ pow-add 2 p.length (128 - p.length))

-- a prefix ends within the addresses
pub ends_within : (p : Prefix) → IsValid p → p.address + size p ≤ 2 ^ 128
ends_within p v = next_multiple (size p) p.address (2 ^ 128) v.aligned (top_multiple p v.most) v.within

-- a shorter prefix's size is a multiple of a longer one's
pub size_split : (p q : Prefix) → p.length ≤ q.length → q.length ≤ 128 → size p ≡ 2 ^ (q.length - p.length) * size q
size_split p q h k =
    let e : 128 - p.length ≡ (q.length - p.length) + (128 - q.length) = omega arith
    in ap (λ n. 2 ^ n) e ∙ pow-add 2 (q.length - p.length) (128 - q.length)

-- what is aligned for a shorter prefix is aligned for a longer one
pub coarser : (p q : Prefix) (x : ℕ) → p.length ≤ q.length → q.length ≤ 128 → IsMultiple (size p) x → IsMultiple (size q) x
coarser p q x h k m =
    (m.0 * 2 ^ (q.length - p.length), m.1 ∙ ap (λ n. m.0 * n) (size_split p q h k) ∙ sym (mul_assoc m.0 (2 ^ (q.length - p.length)) (size q)))

pub multiple_plus : (s x y : ℕ) → IsMultiple s x → IsMultiple s y → IsMultiple s (x + y)
multiple_plus s x y m n = (m.0 + n.0, grind (arith, m.1, n.1))

pub own_multiple : (s : ℕ) → IsMultiple s s
own_multiple s = (1, grind arith)

-- of two prefixes with an address in common the longer lies in the shorter
pub nested : (p q : Prefix) (a : ℕ) → IsValid p → IsValid q → p.length ≤ q.length → span_of p a → span_of q a
    → (p.address ≤ q.address) × (q.address + size q ≤ p.address + size p)
nested p q a v w h i j =
    let mp : IsMultiple (size q) p.address = coarser p q p.address h w.most v.aligned
    in let ms : IsMultiple (size q) (size p) = coarser p q (size p) h w.most (own_multiple (size p))
    in let me : IsMultiple (size q) (p.address + size p) = multiple_plus (size q) p.address (size p) mp ms
    in let before : q.address < p.address → q.address + size q ≤ p.address = next_multiple (size q) q.address p.address w.aligned mp
    in let after : q.address < p.address + size p → q.address + size q ≤ p.address + size p = next_multiple (size q) q.address (p.address + size p) w.aligned me
    in (grind (arith, before), grind (arith, after))

pub inside_from : (p q : Prefix) → p.address ≤ q.address → q.address + size q ≤ p.address + size p → IsInside q p
inside_from p q h k a i = (omega arith, omega arith)

-- a prefix inside another is no larger
pub inside_length : (p q : Prefix) → q.length ≤ 128 → q.address ≤ p.address → p.address + size p ≤ q.address + size q → q.length ≤ p.length
inside_length p q k h h' =
    let below : p.length < q.length → size q < size p = λ lt. pow_below (128 - q.length) (128 - p.length) (omega arith)
    in grind (arith, below)

-- the first and the last address of p inside q
pub bounds_inside : (p q : Prefix) → IsInside p q → (q.address ≤ p.address) × (p.address + size p ≤ q.address + size q)
bounds_inside p q inside =
    let pos : 0 < size p = size_pos p
    in let first : span_of q p.address = inside p.address (first_in p)
    in let last : span_of q (p.address + (size p - 1)) = inside (p.address + (size p - 1)) (omega arith, omega arith)
    in (first.0, let b : p.address + (size p - 1) < q.address + size q = last.1 in omega arith)

-- two prefixes that lie in one another are the same
pub inside_both : (p q : Prefix) → IsValid p → IsValid q → IsInside p q → IsInside q p → p ≡ q
inside_both p q v w i j =
    let b : (q.address ≤ p.address) × (p.address + size p ≤ q.address + size q) = bounds_inside p q i
    in let c : (p.address ≤ q.address) × (q.address + size q ≤ p.address + size p) = bounds_inside q p j
    in let l : q.length ≤ p.length = inside_length p q w.most b.0 b.1
    in let m : p.length ≤ q.length = inside_length q p v.most c.0 c.1
    in same_prefix p q (omega arith) (omega arith)

pub size_halves : (p : Prefix) → p.length < 128 → size p ≡ size (lower p) + size (lower p)
size_halves p h =
    let e : 128 - p.length ≡ suc (128 - (p.length + 1)) = omega arith
    in let f : size p ≡ 2 ^ (128 - (p.length + 1)) * 2 = ap (λ n. 2 ^ n) e ∙ pow-suc 2 (128 - (p.length + 1))
    in omega arith

pub lower_valid : (p : Prefix) → p.length < 128 → IsValid p → IsValid (lower p)
lower_valid p h v =
    let e : size p ≡ size (lower p) + size (lower p) = size_halves p h
    in let w : p.address + size p ≤ 2 ^ 128 = ends_within p v
    in let pos : 0 < size (lower p) = size_pos (lower p)
    in record { least = omega arith; most = omega arith; aligned = coarser p (lower p) p.address (omega arith) (omega arith) v.aligned; within = omega arith }

pub upper_valid : (p : Prefix) → p.length < 128 → IsValid p → IsValid (upper p)
upper_valid p h v =
    let e : size p ≡ size (lower p) + size (lower p) = size_halves p h
    in let w : p.address + size p ≤ 2 ^ 128 = ends_within p v
    in let pos : 0 < size (lower p) = size_pos (lower p)
    in record {
      least = omega arith;
      most = omega arith;
      aligned = multiple_plus (size (lower p)) p.address (size (lower p)) (coarser p (lower p) p.address (omega arith) (omega arith) v.aligned) (own_multiple (size (lower p)));
      within = omega arith;
    }
