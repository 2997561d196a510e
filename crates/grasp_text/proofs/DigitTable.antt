-- The values of the lower-case hexadecimal digits, as a table over all bytes.
use Rattle.std.proofs.Common.{◌≡◌, ℕ, zero, suc, ◌+◌, ◌-◌, ◌<◌, ◌≤◌, Bool, true, false, cond, ◌&&◌, List, [], ◌∷◌, get_or, Some, None, refl, ap, ◌∙◌, arith}
use Rattle.std.specs.Prelude.{nat_le}
use Rattle.std.proofs.lemmas.Bool.{and_parts, leb-true}
use Rattle.grasp_text.specs.Reading.{digit_of}
use Rattle.grasp_text.proofs.NumberWords.{some}

-- the value of a digit, and 99 for a byte that is none
abbrev value_of_digit : ℕ → ℕ
value_of_digit c = cond (nat_le 48 c && nat_le c 57) (c - 48) (cond (nat_le 97 c && nat_le c 102) (c - 87) 99)

-- those of n bytes from d on
abbrev values_from : ℕ → ℕ → List ℕ
values_from d zero = []
values_from d (suc n) = value_of_digit d ∷ values_from (suc d) n

-- those of all bytes
abbrev pub values : List ℕ
values = values_from 0 256

value_from : (d n k : ℕ) → k < n → get_or (values_from d n) k 0 ≡ value_of_digit (d + k)
value_from d zero k lt = absurd (omega arith)
value_from d (suc n) zero lt = let e : d ≡ d + 0 = omega arith in ap value_of_digit e
value_from d (suc n) (suc k) lt = let e : suc d + k ≡ d + suc k = omega arith in value_from (suc d) n k (omega arith) ∙ ap value_of_digit e

value_at : (c : ℕ) → c < 256 → get_or values c 0 ≡ value_of_digit c
value_at c lt = let e : 0 + c ≡ c = omega arith in value_from 0 256 c lt ∙ ap value_of_digit e

read_by : (c v : ℕ) (p q : Bool) → v ≡ cond p (c - 48) (cond q (c - 87) 99) → v < 16 → some v ≡ cond p (some (c - 48)) (cond q (some (c - 87)) None)
read_by c v true q e lt = ap some e
read_by c v false true e lt = ap some e
read_by c v false false e lt = absurd (omega arith)

-- an entry below 16 is the digit's value
pub digit_read : (c : ℕ) → c < 256 → get_or values c 0 < 16 → Some (get_or values c 0) ≡ digit_of c
digit_read c small lt = read_by c (get_or values c 0) (nat_le 48 c && nat_le c 57) (nat_le 97 c && nat_le c 102) (value_at c small) lt

refused_by : (c v : ℕ) (p q : Bool) → nat_le 48 c && nat_le c 57 ≡ p → nat_le 97 c && nat_le c 102 ≡ q → v ≡ cond p (c - 48) (cond q (c - 87) 99) → 16 ≤ v → None ≡ cond p (some (c - 48)) (cond q (some (c - 87)) None)
refused_by c v true q s t e le = absurd (let high : c ≤ 57 = leb-true c 57 (and_parts (nat_le 48 c) (nat_le c 57) s).1 in omega arith)
refused_by c v false true s t e le = absurd (let high : c ≤ 102 = leb-true c 102 (and_parts (nat_le 97 c) (nat_le c 102) t).1 in omega arith)
refused_by c v false false s t e le = refl

-- where it is 16 or more, the byte is no digit
pub digit_refused : (c : ℕ) → c < 256 → 16 ≤ get_or values c 0 → None ≡ digit_of c
digit_refused c small le = refused_by c (get_or values c 0) (nat_le 48 c && nat_le c 57) (nat_le 97 c && nat_le c 102) refl refl (value_at c small) le
