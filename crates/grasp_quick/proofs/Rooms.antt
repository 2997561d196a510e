-- Bytes of a room.
use Rattle.std.proofs.Common.{◌≡◌, ℕ, ◌+◌, ◌*◌, ◌<◌, ◌≤◌, ◌^◌, Bool, true, cond, ltb, List, [], ◌∷◌, ◌++◌, length, take, drop, take-append-drop}
use Rattle.std.proofs.Common.{length-append, append_assoc, sym, ap, ◌∙◌, add-one, arith, rules, tests}
use Rattle.std.specs.Prelude.{slice_set}
use Rattle.std.proofs.lemmas.List.{set_split, take_at, length-take-le}
use Rattle.std.proofs.Math.Seq.{take-set-lt}
use Rattle.hex.specs.Hex.{IsBytes, encode_lower}
use Rattle.grasp_cbor.specs.Head.{direct, one_byte, two_bytes, four_bytes, eight_bytes, sized_head, shortest_size, shortest_head}
use Rattle.grasp_text.proofs.DigitWords.{bytes_taken}
use Rattle.grasp_quick.specs.Packed.{Unhexes}

in_place : (n : ℕ) → ltb n 24 ≡ true → shortest_size n ≡ direct
unfolding shortest_size
in_place n e =
    ap (λ (p : Bool). cond p direct (cond (ltb n (2 ^ 8)) one_byte (cond (ltb n (2 ^ 16)) two_bytes (cond (ltb n (2 ^ 32)) four_bytes eight_bytes))))
    e

-- a head below 24 is one byte
pub short_head : (n : ℕ) → n < 24 → shortest_head 4 n ≡ (128 + n) ∷ []
unfolding shortest_head
short_head n lt = ap (λ s. sized_head s 4 n) (in_place n (search (rules, tests)))

-- a byte is set to a head
pub head_set : (xs : List ℕ) (len at count : ℕ) → at < len → len ≤ length xs → count < 24
    → take len (slice_set xs at (128 + count)) ≡ take at (take len xs) ++ (shortest_head 4 count ++ drop (at + 1) (take len xs))
head_set xs len at count lt inside few =
    let old : List ℕ = take len xs in
    let long : at < length old = omega (arith, lt, length-take-le len xs inside) in
    take-set-lt len xs at (128 + count) lt ∙ set_split old at (128 + count) long
    ∙ ap (λ (i : ℕ). take at old ++ (128 + count) ∷ drop i old) (sym (add-one at))
    ∙ ap (λ (h : List ℕ). take at old ++ (h ++ drop (at + 1) old)) (sym (short_head count few))

-- what is put behind a front, of which the first so many count
appended : (len count : ℕ) (front out behind : List ℕ) → length front ≡ len → count ≤ length out
    → take (len + count) (front ++ (out ++ behind)) ≡ front ++ take count out
appended len count front out behind long room =
    let some : List ℕ = take count out in
    let others : List ℕ = drop count out ++ behind in
    let whole : front ++ (out ++ behind) ≡ (front ++ some) ++ others = ap (λ (x : List ℕ). front ++ (x ++ behind)) (sym (take-append-drop count out))
    ∙ ap (λ (x : List ℕ). front ++ x) (append_assoc some (drop count out) behind)
    ∙ sym (append_assoc front some others) in
    ap (take (len + count)) whole
    ∙ take_at (front ++ some) others (len + count) (omega (arith, long, length-append front some, length-take-le count out room))

-- the bytes of digits are appended
pub unhexed : (digits out xs behind : List ℕ) (len count : ℕ) → len ≤ length xs → count ≤ length out → 2 * count ≤ length digits
    → take (2 * count) digits ≡ encode_lower (take count out) → IsBytes out
    → Unhexes digits count (take len xs) (take (len + count) (take len xs ++ (out ++ behind)))
unhexed digits out xs behind len count long room inside e fits = record {
  bytes = take count out;
  fits = bytes_taken count out fits;
  counted = length-take-le count out room;
  inside = inside;
  digits_are = e;
  appended = appended len count (take len xs) out behind (length-take-le len xs long) room;
}
