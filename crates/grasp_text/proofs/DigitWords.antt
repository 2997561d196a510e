-- Lower-case hexadecimal digits and the bytes that they stand for.
use Rattle.std.proofs.Common.{◌≡◌, ℕ, zero, suc, ◌+◌, ◌*◌, ◌/◌, ◌%◌, ◌<◌, List, [], ◌∷◌, ◌++◌, length, get_or, take, Some, None, refl, sym, ap, subst, ◌∙◌, append_assoc, arith}
use Rattle.std.specs.Prelude.{slice_index, slice_set}
use Rattle.std.proofs.lemmas.List.{take_more, take_more_set}
use Rattle.hex.specs.Hex.{IsBytes, encode_with, encode_lower, lower_digits}
use Rattle.hex.proofs.HexLemmas.{length-encode_with}
use Rattle.grasp_text.specs.Reading.{digit_of, AreDigitsOf}
use Rattle.grasp_text.proofs.Leaves.{digit_again, digit_only}
use Rattle.grasp_text.proofs.NumberWords.{some}

-- ---- two digits

pub digits_of_byte : (high low h l : ℕ) → digit_of high ≡ Some h → digit_of low ≡ Some l → AreDigitsOf high low (h * 16 + l)
digits_of_byte high low h l p q =
    let dh = digit_only high h p in
    let dl = digit_only low l q in
    let small : l < 16 = dl.small in
    let first : (h * 16 + l) / 16 ≡ h = omega arith in
    let second : (h * 16 + l) % 16 ≡ l = omega arith in
    (sym dh.spelled ∙ ap (slice_index lower_digits) (sym first), sym dl.spelled ∙ ap (slice_index lower_digits) (sym second))

pub no_low_digit : (high low : ℕ) → digit_of low ≡ None → (byte : ℕ) → byte < 256 → ¬ AreDigitsOf high low byte
no_low_digit high low none byte lt is = absurd (let z : None ≡ some (byte % 16) = sym none ∙ ap digit_of is.1 ∙ digit_again (byte % 16) (omega arith) in cc)

-- ---- the digits of bytes

digits-append : (xs ys : List ℕ) → encode_lower (xs ++ ys) ≡ encode_lower xs ++ encode_lower ys
unfolding encode_with
digits-append [] ys = refl
digits-append (b ∷ xs) ys = ap (λ (t : List ℕ). slice_index lower_digits (b / 16) ∷ slice_index lower_digits (b % 16) ∷ t) (digits-append xs ys)

digits_last : (xs : List ℕ) (b : ℕ) → encode_lower (xs ++ b ∷ []) ≡ encode_lower xs ++ slice_index lower_digits (b / 16) ∷ slice_index lower_digits (b % 16) ∷ []
unfolding encode_with
digits_last xs b = digits-append xs (b ∷ [])

pub no_digits : [] ≡ encode_lower []
unfolding encode_with
no_digits = refl

-- bytes stay bytes where one of them is set
pub bytes_set : (xs : List ℕ) (i byte : ℕ) → IsBytes xs → byte < 256 → IsBytes (slice_set xs i byte)
bytes_set [] i byte h lt k = h k
bytes_set (x ∷ xs) zero byte h lt zero = lt
bytes_set (x ∷ xs) zero byte h lt (suc k) = h (suc k)
bytes_set (x ∷ xs) (suc i) byte h lt zero = h zero
bytes_set (x ∷ xs) (suc i) byte h lt (suc k) = bytes_set xs i byte (λ m. h (suc m)) lt k

-- bytes stay bytes where only the first so many of them are taken
pub bytes_taken : (n : ℕ) (xs : List ℕ) → IsBytes xs → IsBytes (take n xs)
bytes_taken zero xs h k = omega arith
bytes_taken (suc n) [] h k = h k
bytes_taken (suc n) (x ∷ xs) h zero = h zero
bytes_taken (suc n) (x ∷ xs) h (suc k) = bytes_taken n xs (λ m. h (suc m)) k

-- the digits of one byte more are read
pub digits_read : (digits out : List ℕ) (i byte : ℕ) → 2 * i + 1 < length digits → i < length out → AreDigitsOf (get_or digits (2 * i) 0) (get_or digits (2 * i + 1) 0) byte → take (2 * i) digits ≡ encode_lower (take i out) → take (2 * (i + 1)) digits ≡ encode_lower (take (i + 1) (slice_set out i byte))
digits_read digits out i byte fits room are so_far =
    let h : ℕ = slice_index lower_digits (byte / 16) in
    let l : ℕ = slice_index lower_digits (byte % 16) in
    let two : 2 * (i + 1) ≡ 2 * i + 1 + 1 = omega arith in
    let first : take (2 * i + 1) digits ≡ encode_lower (take i out) ++ h ∷ [] = take_more digits (2 * i) 0 (omega arith) ∙ ap (λ (x : List ℕ). x ++ get_or digits (2 * i) 0 ∷ []) so_far ∙ ap (λ (x : ℕ). encode_lower (take i out) ++ x ∷ []) are.0 in
    let second : take (2 * i + 1 + 1) digits ≡ encode_lower (take i out) ++ h ∷ l ∷ [] = take_more digits (2 * i + 1) 0 fits ∙ ap (λ (x : List ℕ). x ++ get_or digits (2 * i + 1) 0 ∷ []) first ∙ ap (λ (x : ℕ). (encode_lower (take i out) ++ h ∷ []) ++ x ∷ []) are.1 ∙ append_assoc (encode_lower (take i out)) (h ∷ []) (l ∷ []) in
    ap (λ (k : ℕ). take k digits) two ∙ second ∙ sym (ap encode_lower (take_more_set out i byte room) ∙ digits_last (take i out) byte)

digits_at : (xs : List ℕ) (i : ℕ) → i < length xs → AreDigitsOf (get_or (encode_lower xs) (2 * i) 0) (get_or (encode_lower xs) (2 * i + 1) 0) (get_or xs i 0)
unfolding encode_with
digits_at [] i lt = absurd (omega arith)
digits_at (b ∷ xs) zero lt = (refl, refl)
digits_at (b ∷ xs) (suc i) lt =
    let h = digits_at xs i (omega arith) in
    let first : 2 * suc i ≡ suc (suc (2 * i)) = omega arith in
    let second : 2 * suc i + 1 ≡ suc (suc (2 * i + 1)) = omega arith in
    (ap (λ (k : ℕ). get_or (encode_lower (b ∷ xs)) k 0) first ∙ h.0, ap (λ (k : ℕ). get_or (encode_lower (b ∷ xs)) k 0) second ∙ h.1)

-- two that are the digits of no byte
pub digits_of_none : (digits : List ℕ) (i : ℕ) → 2 * i + 1 < length digits → ((byte : ℕ) → byte < 256 → ¬ AreDigitsOf (get_or digits (2 * i) 0) (get_or digits (2 * i + 1) 0) byte) → (bytes : List ℕ) → IsBytes bytes → ¬ (digits ≡ encode_lower bytes)
digits_of_none digits i fits none bytes small is =
    let long : length digits ≡ 2 * length bytes = ap length is ∙ length-encode_with lower_digits bytes in
    none (get_or bytes i 0) (small i) (subst (λ (x : List ℕ). AreDigitsOf (get_or x (2 * i) 0) (get_or x (2 * i + 1) 0) (get_or bytes i 0)) (sym is) (digits_at bytes i (omega arith)))
