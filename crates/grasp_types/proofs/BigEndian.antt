-- A number comes back from its bytes, the most significant first.
use Rattle.std.proofs.Common.{◌≡◌, ℕ, zero, suc, ◌+◌, ◌*◌, ◌/◌, ◌%◌, ◌^◌, ◌<◌, List, [], ◌∷◌, length, get_or, refl, sym, ◌∙◌, ap, arith}
use Rattle.std.specs.Int.{to_be_bytes, from_be_bytes, bytes_high_first, byte_at, w32, w128}
use Rattle.std.proofs.Math.Nat.{div-div-eq-div-mul, pow-suc, div-one, div-eq_of_lt}
use Rattle.std.proofs.lemmas.Nat.{div-add-mod'}

-- the number that these bytes go on with
abbrev pub joined : ℕ → List ℕ → ℕ
joined n [] = n
joined n (b ∷ bs) = joined (n * 256 + b) bs

byte_at-div : (k n : ℕ) → byte_at k n ≡ n / 256 ^ k % 256
byte_at-div zero n = ap (λ m. m % 256) (sym (div-one n))
byte_at-div (suc k) n = refl

next_byte : (k n : ℕ) → n / 256 ^ suc k * 256 + byte_at k n ≡ n / 256 ^ k
next_byte k n =
    let e : n / 256 ^ k / 256 ≡ n / 256 ^ suc k = div-div-eq-div-mul n (256 ^ k) 256 ∙ ap (λ m. n / m) (sym (pow-suc 256 k))
    in ap (λ m. m * 256 + byte_at k n) (sym e) ∙ ap (λ m. n / 256 ^ k / 256 * 256 + m) (byte_at-div k n) ∙ div-add-mod' (n / 256 ^ k) 256

pub joined-bytes_high_first : (k n : ℕ) → joined (n / 256 ^ k) (bytes_high_first k n) ≡ n
joined-bytes_high_first zero n = div-one n
joined-bytes_high_first (suc k) n = ap (λ m. joined m (bytes_high_first k n)) (next_byte k n) ∙ joined-bytes_high_first k n

pub joined-to_be_bytes_4 : (n : ℕ) → n < 2 ^ 32 → joined 0 (to_be_bytes w32 n) ≡ n
joined-to_be_bytes_4 n fits = ap (λ m. joined m (to_be_bytes w32 n)) (sym (div-eq_of_lt {n = n} {m = 256 ^ 4} fits)) ∙ joined-bytes_high_first 4 n

pub joined-to_be_bytes_16 : (n : ℕ) → n < 2 ^ 128 → joined 0 (to_be_bytes w128 n) ≡ n
joined-to_be_bytes_16 n fits = ap (λ m. joined m (to_be_bytes w128 n)) (sym (div-eq_of_lt {n = n} {m = 256 ^ 16} fits)) ∙ joined-bytes_high_first 16 n

-- bytes come back from the number that they join to, the most significant first

top_of : (a b : ℕ) → b < 256 → (a * 256 + b) / 256 ≡ a
top_of a b small = omega arith

low_of : (a b : ℕ) → b < 256 → (a * 256 + b) % 256 ≡ b
low_of a b small = omega arith

joined-div : (bs : List ℕ) (a : ℕ) → ((i : ℕ) → get_or bs i 0 < 256) → joined a bs / 256 ^ length bs ≡ a
joined-div [] a small = div-one a
joined-div (b ∷ bs) a small =
    ap (λ m. joined (a * 256 + b) bs / m) (pow-suc 256 (length bs))
    ∙ sym (div-div-eq-div-mul (joined (a * 256 + b) bs) (256 ^ length bs) 256)
    ∙ ap (λ m. m / 256) (joined-div bs (a * 256 + b) (λ i. small (suc i)))
    ∙ top_of a b (small 0)

bytes_high_first-joined : (bs : List ℕ) (a : ℕ) → ((i : ℕ) → get_or bs i 0 < 256) → bytes_high_first (length bs) (joined a bs) ≡ bs
bytes_high_first-joined [] a small = refl
bytes_high_first-joined (b ∷ bs) a small =
    let head : byte_at (length bs) (joined (a * 256 + b) bs) ≡ b =
    byte_at-div (length bs) (joined (a * 256 + b) bs) ∙ ap (λ m. m % 256) (joined-div bs (a * 256 + b) (λ i. small (suc i))) ∙ low_of a b (small 0)
    in let tail : bytes_high_first (length bs) (joined (a * 256 + b) bs) ≡ bs = bytes_high_first-joined bs (a * 256 + b) (λ i. small (suc i))
    in λ i. head i ∷ tail i

sum_of_16 : (a b c d e f g h j k l m n p q r : ℕ)
    → from_be_bytes w128 (a ∷ b ∷ c ∷ d ∷ e ∷ f ∷ g ∷ h ∷ j ∷ k ∷ l ∷ m ∷ n ∷ p ∷ q ∷ r ∷ []) ≡ joined 0 (a ∷ b ∷ c ∷ d ∷ e ∷ f ∷ g ∷ h ∷ j ∷ k ∷ l ∷ m ∷ n ∷ p ∷ q ∷ r ∷ [])
sum_of_16 a b c d e f g h j k l m n p q r = omega arith

from_be_bytes-joined : (bs : List ℕ) → length bs ≡ 16 → from_be_bytes w128 bs ≡ joined 0 bs
from_be_bytes-joined (a ∷ b ∷ c ∷ d ∷ e ∷ f ∷ g ∷ h ∷ j ∷ k ∷ l ∷ m ∷ n ∷ p ∷ q ∷ r ∷ []) is = sum_of_16 a b c d e f g h j k l m n p q r
from_be_bytes-joined _ is = absurd (omega arith)

pub be_bytes_16 : (bs : List ℕ) (n : ℕ) → length bs ≡ 16 → ((i : ℕ) → get_or bs i 0 < 256) → n ≡ from_be_bytes w128 bs → to_be_bytes w128 n ≡ bs
be_bytes_16 bs n is small e =
    ap (to_be_bytes w128) (e ∙ from_be_bytes-joined bs is)
    ∙ ap (λ k. bytes_high_first k (joined 0 bs)) (sym is)
    ∙ bytes_high_first-joined bs 0 small
