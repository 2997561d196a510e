-- The head that is read is the head that stands there, and each head is read.
use Rattle.std.proofs.Common.{◌≡◌, ℕ, ◌+◌, ◌*◌, ◌/◌, ◌%◌, ◌<◌, false, ltb, List, ◌∷◌, ◌++◌, length, Some, None, refl, ◌∙◌, arith}
use Rattle.std.specs.Int.{Width, w16, w32, w64, byte_len, from_be_bytes, to_be_bytes}
use Rattle.std.proofs.lemmas.Bool.{le-ltb, lt-ltb, ne_eqb}
use Rattle.std.proofs.lemmas.List.{take_at, drop_at, length-append}
use Rattle.std.proofs.lemmas.Nat.{from_be_bytes-to_be_bytes_2, from_be_bytes-to_be_bytes_4, from_be_bytes-to_be_bytes_8}
use Rattle.grasp_cbor.specs.Head.{HeadSize, direct, one_byte, two_bytes, four_bytes, eight_bytes, argument_limit, sized_head}
use Rattle.grasp_cbor.specs.declared.heads.Argument.{Argument}
use Rattle.grasp_cbor.specs.declared.heads.Argument.TheVariants.{Direct, One, Two, Four, Eight}
use Rattle.grasp_cbor.specs.declared.heads.Head.{Head}
use Rattle.grasp_cbor.specs.declared.heads.Major.{Major}
use Rattle.grasp_cbor.specs.Major.{major_number}
use Rattle.grasp_cbor.proofs.Majors.{major_of-major_number}
use Rattle.grasp_cbor.specs.Build.{◌>>=◌, Found, number_at, value_of, argument_at, head_at, opened_by, open_at}

pub number_again : (w : Width) (n : ℕ) (rest : List ℕ) → length (to_be_bytes w n) ≡ byte_len w → from_be_bytes w (to_be_bytes w n) ≡ n → number_at w (to_be_bytes w n ++ rest) ≡ Some (n, rest)
number_again w n rest len again =
    let long : ltb (length (to_be_bytes w n ++ rest)) (byte_len w) ≡ false = le-ltb _ _ (omega (arith, length-append (to_be_bytes w n) rest)) in
    rw (long, take_at (to_be_bytes w n) rest (byte_len w) len, drop_at (to_be_bytes w n) rest (byte_len w) len, again) refl

-- an argument of this size
abbrev pub argument_of : HeadSize → ℕ → Argument
argument_of direct n = Direct n
argument_of one_byte n = One n
argument_of two_bytes n = Two n
argument_of four_bytes n = Four n
argument_of eight_bytes n = Eight n

pub value_of-argument_of : (size : HeadSize) (n : ℕ) → value_of (argument_of size n) ≡ n
value_of-argument_of direct n = refl
value_of-argument_of _ n = refl

abbrev head_with : Major → Found Argument → Found Head
head_with major found = found >>= λ a. Some (record { major = major; argument = a.0 }, a.1)

-- an initial byte in its two parts
split_byte : (major : Major) (i : ℕ) (rest : List ℕ) → i < 32 → head_at ((32 * major_number major + i) ∷ rest) ≡ head_with major (argument_at i rest)
unfolding head_at
split_byte major i rest lt =
    let high : (32 * major_number major + i) / 32 ≡ major_number major = omega arith in
    let low : (32 * major_number major + i) % 32 ≡ i = omega arith in
    rw (high, low, major_of-major_number major) refl

pub head_again : (size : HeadSize) (major : Major) (n : ℕ) (rest : List ℕ) → n < argument_limit size → head_at (sized_head size (major_number major) n ++ rest) ≡ Some (record { major = major; argument = argument_of size n }, rest)
unfolding argument_at
head_again direct major n rest lt = split_byte major n rest (omega arith) ∙ rw (lt-ltb n 24 lt) refl
head_again one_byte major n rest lt = split_byte major 24 (n ∷ rest) (omega arith)
head_again two_bytes major n rest lt = split_byte major 25 (to_be_bytes w16 n ++ rest) (omega arith) ∙ rw (number_again w16 n rest refl (from_be_bytes-to_be_bytes_2 n lt)) refl
head_again four_bytes major n rest lt = split_byte major 26 (to_be_bytes w32 n ++ rest) (omega arith) ∙ rw (number_again w32 n rest refl (from_be_bytes-to_be_bytes_4 n lt)) refl
head_again eight_bytes major n rest lt = split_byte major 27 (to_be_bytes w64 n ++ rest) (omega arith) ∙ rw (number_again w64 n rest refl (from_be_bytes-to_be_bytes_8 n lt)) refl

closed_byte : (m i : ℕ) → i < 28 → opened_by (32 * m + i) ≡ None
unfolding opened_by
closed_byte m i h =
    rw (
      ne_eqb (32 * m + i) 95 (λ e. omega arith),
      ne_eqb (32 * m + i) 127 (λ e. omega arith),
      ne_eqb (32 * m + i) 159 (λ e. omega arith),
      ne_eqb
          (32 * m + i) 191 (λ e. omega arith),
    ) refl

closed_front : (m i : ℕ) (rest : List ℕ) → i < 28 → open_at ((32 * m + i) ∷ rest) ≡ None
closed_front m i rest h = rw (closed_byte m i h) refl

-- a head of definite length opens nothing of indefinite length
pub head_closed : (size : HeadSize) (m n : ℕ) (rest : List ℕ) → n < argument_limit size → open_at (sized_head size m n ++ rest) ≡ None
head_closed direct m n rest lt = closed_front m n rest (omega arith)
head_closed one_byte m n rest lt = closed_front m 24 (n ∷ rest) (omega arith)
head_closed two_bytes m n rest lt = closed_front m 25 (to_be_bytes w16 n ++ rest) (omega arith)
head_closed four_bytes m n rest lt = closed_front m 26 (to_be_bytes w32 n ++ rest) (omega arith)
head_closed eight_bytes m n rest lt = closed_front m 27 (to_be_bytes w64 n ++ rest) (omega arith)
