-- Numbers as hexadecimal words.
use Rattle.std.proofs.Common.{◌≡◌, ℕ, zero, suc, ◌*◌, ◌^◌, ◌<◌, Bool, true, false, cond, List, [], ◌∷◌, ◌++◌, length, Some, None, Result, Ok, Err, refl, sym, ap, subst, ◌∙◌, append_assoc, arith}
use Rattle.std.specs.Int.{Width, w32, w128, byte_len, bytes_high_first, from_be_bytes, to_be_bytes}
use Rattle.std.specs.Str.{bytes_eq}
use Rattle.std.proofs.lemmas.List.{append-nil}
use Rattle.std.proofs.lemmas.Nat.{be_bytes_4, from_be_bytes-to_be_bytes_4}
use Rattle.std.proofs.lemmas.Slice.Eq.{bytes_eq-Decides}
use Rattle.grasp_cbor.proofs.Facts.Numbers.{byte_below, back_16}
use Rattle.hex.specs.Hex.{IsBytes, decode_of, decode_sized, encode_lower, lower_digits}
use Rattle.hex.specs.declared.error.FromHexError.{FromHexError}
use Rattle.hex.proofs.HexLemmas.{decode_of-encode_lower, decode_of-ok, decode_sized-ok, decode_sized-twice, length-encode_with}
use Rattle.grasp_types.proofs.BigEndian.{be_bytes_16}
use Rattle.grasp_text.specs.Line.{v4_word, v6_word}
use Rattle.grasp_text.specs.Reading.{number_of_hex, v4_of, v6_of}
use Rattle.grasp_text.proofs.Lawful.{Exact}
use Rattle.grasp_text.proofs.NumberWords.{some, some_is, is_none}

-- ---- a width's numbers and their bytes

pub record IsWide (w : Width) (limit : ℕ) : Type 0 where
  pub len : (n : ℕ) → length (to_be_bytes w n) ≡ byte_len w
  pub small : (n : ℕ) → IsBytes (to_be_bytes w n)
  pub back : (bytes : List ℕ) → length bytes ≡ byte_len w → IsBytes bytes → to_be_bytes w (from_be_bytes w bytes) ≡ bytes
  pub again : (n : ℕ) → n < limit → from_be_bytes w (to_be_bytes w n) ≡ n
  pub below : (bytes : List ℕ) → IsBytes bytes → from_be_bytes w bytes < limit

bytes_small : (k n : ℕ) → IsBytes (bytes_high_first k n)
bytes_small zero n i = omega arith
bytes_small (suc k) n zero = byte_below k n
bytes_small (suc k) n (suc i) = bytes_small k n i

pub wide32 : IsWide w32 (2 ^ 32)
wide32 = record {
  len = λ n. refl;
  small = λ n. bytes_small 4 n;
  back = λ bytes len fits. be_bytes_4 bytes _ len fits refl;
  again = λ n lt. from_be_bytes-to_be_bytes_4 n lt;
  below = λ bytes fits. omega (arith, fits 0, fits 1, fits 2, fits 3);
}

pub wide128 : IsWide w128 (2 ^ 128)
wide128 = record {
  len = λ n. refl;
  small = λ n. bytes_small 16 n;
  back = λ bytes len fits. be_bytes_16 bytes _ len fits refl;
  again = back_16;
  below = λ bytes fits. omega (arith, fits 0, fits 1, fits 2, fits 3, fits 4, fits 5, fits 6, fits 7, fits 8, fits 9, fits 10, fits 11, fits 12, fits 13, fits 14, fits 15);
}

-- ---- exactly the numbers' words

module _ (w : Width) (limit : ℕ) (wide : IsWide w limit) where
  abbrev word_of : ℕ → List ℕ
  word_of n = encode_lower (to_be_bytes w n)

  pub hex_found : (n : ℕ) (word : List ℕ) → n < limit → word ≡ word_of n → number_of_hex w word (decode_sized word (byte_len w)) ≡ Some n
  hex_found n word lt e =
      let xs : List ℕ = to_be_bytes w n in
      let len : length word ≡ 2 * byte_len w = ap length e ∙ length-encode_with lower_digits xs ∙ ap (λ (k : ℕ). 2 * k) (wide.len n) in
      let d : decode_sized word (byte_len w) ≡ Ok xs = decode_sized-twice word (byte_len w) len ∙ ap decode_of e ∙ decode_of-encode_lower xs (wide.small n) in
      let same : bytes_eq (encode_lower xs) word ≡ true = (bytes_eq-Decides (encode_lower xs) word).1 (sym e) in
      ap (number_of_hex w word) d ∙ ap (λ (b : Bool). cond b (some (from_be_bytes w xs)) None) same ∙ ap some (wide.again n lt)

  hex_only_at : (word : List ℕ) (r : Result (List ℕ) FromHexError) (n : ℕ) → decode_sized word (byte_len w) ≡ r → number_of_hex w word r ≡ Some n → (n < limit) × (word ≡ word_of n)
  hex_only_at word (Err x) n d e = absurd cc
  hex_only_at word (Ok bytes) n d e = by_test (bytes_eq (encode_lower bytes) word) refl e
    where
      by_test : (b : Bool) → bytes_eq (encode_lower bytes) word ≡ b → cond b (some (from_be_bytes w bytes)) None ≡ Some n → (n < limit) × (word ≡ word_of n)
      by_test false t f = absurd cc
      by_test true t f =
          let len = decode_sized-ok word (byte_len w) bytes d in
          let g = decode_of-ok word bytes (sym (decode_sized-twice word (byte_len w) len) ∙ d) in
          let same : encode_lower bytes ≡ word = (bytes_eq-Decides (encode_lower bytes) word).0 t in
          let is : from_be_bytes w bytes ≡ n = some_is (from_be_bytes w bytes) n f in
          let long : length bytes ≡ byte_len w = omega (arith, len, g.2) in
          (subst (λ (x : ℕ). x < limit) is (wide.below bytes g.3), sym same ∙ ap encode_lower (sym (wide.back bytes long g.3)) ∙ ap word_of is)

  pub hex_only : (word : List ℕ) (n : ℕ) → number_of_hex w word (decode_sized word (byte_len w)) ≡ Some n → (n < limit) × (word ≡ word_of n)
  hex_only word n e = hex_only_at word (decode_sized word (byte_len w)) n refl e

  -- a word that no number has
  pub hex_none : (word : List ℕ) → ((n : ℕ) → ¬ (word ≡ word_of n)) → number_of_hex w word (decode_sized word (byte_len w)) ≡ None
  hex_none word h = is_none (number_of_hex w word (decode_sized word (byte_len w))) (λ n e. h n (hex_only word n e).1)

  -- one that isn't as long
  pub hex_other_length : (word : List ℕ) → ¬ (length word ≡ 2 * byte_len w) → number_of_hex w word (decode_sized word (byte_len w)) ≡ None
  hex_other_length word h = hex_none word (λ n e. h (ap length e ∙ length-encode_with lower_digits (to_be_bytes w n) ∙ ap (λ (k : ℕ). 2 * k) (wide.len n)))

  -- one that is the digits of no bytes
  pub hex_no_bytes : (word : List ℕ) → ((bytes : List ℕ) → IsBytes bytes → ¬ (word ≡ encode_lower bytes)) → number_of_hex w word (decode_sized word (byte_len w)) ≡ None
  hex_no_bytes word h = hex_none word (λ n e. h (to_be_bytes w n) (wide.small n) e)

-- the digits of bytes
pub hex_of_bytes : (w : Width) (word bytes : List ℕ) → length bytes ≡ byte_len w → IsBytes bytes → word ≡ encode_lower bytes → number_of_hex w word (decode_sized word (byte_len w)) ≡ Some (from_be_bytes w bytes)
hex_of_bytes w word bytes long fits e =
    let len : length word ≡ 2 * byte_len w = ap length e ∙ length-encode_with lower_digits bytes ∙ ap (λ (k : ℕ). 2 * k) long in
    let d : decode_sized word (byte_len w) ≡ Ok bytes = decode_sized-twice word (byte_len w) len ∙ ap decode_of e ∙ decode_of-encode_lower bytes fits in
    let same : bytes_eq (encode_lower bytes) word ≡ true = (bytes_eq-Decides (encode_lower bytes) word).1 (sym e) in
    ap (number_of_hex w word) d ∙ ap (λ (b : Bool). cond b (some (from_be_bytes w bytes)) None) same

-- a word of this number, which is below the limit
pub record IsHex (limit : ℕ) (word_of : ℕ → List ℕ) (n : ℕ) (word : List ℕ) : Type 0 where
  pub within : n < limit
  pub digits : word ≡ word_of n

pub v4_exact : Exact (IsHex (2 ^ 32) v4_word) v4_of
unfolding v4_of
v4_exact = record {
  value = 0;
  word = v4_word 0;
  some = record { within = omega arith; digits = refl };
  found = λ n word is. hex_found w32 (2 ^ 32) wide32 n word is.within is.digits;
  only = λ word n e. let h = hex_only w32 (2 ^ 32) wide32 word n e in record { within = h.0; digits = h.1 };
}

pub v6_exact : Exact (IsHex (2 ^ 128) v6_word) v6_of
unfolding v6_of
v6_exact = record {
  value = 0;
  word = v6_word 0;
  some = record { within = omega arith; digits = refl };
  found = λ n word is. hex_found w128 (2 ^ 128) wide128 n word is.within is.digits;
  only = λ word n e. let h = hex_only w128 (2 ^ 128) wide128 word n e in record { within = h.0; digits = h.1 };
}

-- a blank and a word behind a text
pub word_pushed : (old middle new digits word : List ℕ) → middle ≡ old ++ 32 ∷ [] → new ≡ middle ++ digits → digits ≡ word → new ≡ old ++ 32 ∷ (word ++ [])
word_pushed old middle new digits word a b c = b ∙ ap (λ (x : List ℕ). x ++ digits) a ∙ append_assoc old (32 ∷ []) digits ∙ ap (λ (x : List ℕ). old ++ 32 ∷ x) (c ∙ sym (append-nil word))
