-- What fewer than 2 ^ 64 bytes encode has its numbers in range.
use Rattle.std.proofs.Common.{◌≡◌, ℕ, ◌+◌, ◌*◌, ◌^◌, ◌<◌, ◌≤◌, List, [], ◌∷◌, ◌++◌, length, refl, sym, ap, subst, inl, inr, arith}
use Rattle.std.specs.Str.{IsUtf8}
use Rattle.std.proofs.lemmas.Str.{IsUtf8-append, IsUtf8-nil}
use Rattle.std.proofs.lemmas.List.{length-append}
use Rattle.grasp_cbor.specs.Bytes.{AllBytes, joined}
use Rattle.grasp_cbor.specs.DataItem.{DataItem, DataItems, DataPairs, unsigned, negative, byte_string, text_string, array, mapping, tagged, simple_value, no_items, item_and, no_pairs, pair_and, item_count, pair_count}
use Rattle.grasp_cbor.specs.Encodable.{IsEncodable, AreEncodable, ArePairsEncodable}
use Rattle.grasp_cbor.specs.Encodes.{IsDefiniteString, IsIndefiniteString, AreChunks, IsEncoding, AreEncodings, ArePairEncodings, Encodes, string_major}
use Rattle.grasp_cbor.specs.declared.heads.StringKind.{StringKind}
use Rattle.grasp_cbor.specs.declared.heads.StringKind.TheVariants.{Bytes, Text}
use Rattle.grasp_cbor.specs.Head.{IsHead}
use Rattle.grasp_cbor.proofs.Facts.Numbers.{below_64}
use Rattle.grasp_cbor.proofs.HeadBytes.{AllBytes-front, AllBytes-back, AllBytes-append}
use Rattle.grasp_cbor.proofs.Starts.{Starts, encoding_starts}

pub head_below : (major n : ℕ) (s : List ℕ) → IsHead major n s → n < 2 ^ 64
head_below major n s h = below_64 h.0 n h.1

-- fewer than 2 ^ 64 bytes
pub record IsShort (s : List ℕ) : Type 0 where
  pub bytes : AllBytes s
  pub few : length s < 2 ^ 64

behind : (s head rest : List ℕ) → IsShort s → s ≡ head ++ rest → IsShort rest
behind s head rest b e =
    let l = ap length e in
    record { bytes = AllBytes-back head rest (subst AllBytes e b.bytes); few = (let f = b.few in omega (arith, length-append head rest)) }

front : (s head rest : List ℕ) → IsShort s → s ≡ head ++ rest → IsShort head
front s head rest b e =
    let l = ap length e in
    record { bytes = AllBytes-front head rest (subst AllBytes e b.bytes); few = (let f = b.few in omega (arith, length-append head rest)) }

-- between an initial byte and a break
within : (s : List ℕ) (b : ℕ) (body : List ℕ) → IsShort s → s ≡ b ∷ (body ++ 255 ∷ []) → IsShort body
within s b body h e = front (body ++ 255 ∷ []) body (255 ∷ []) (behind s (b ∷ []) (body ++ 255 ∷ []) h e) refl

one_at_least : (s : List ℕ) → Starts s → 1 ≤ length s
one_at_least s h = let l = ap length h.form in omega arith

-- each takes a byte at least
counted : (ts : DataItems) (s : List ℕ) → AreEncodings ts s → item_count ts ≤ length s
counted no_items s h = omega arith
counted (item_and t ts) s h =
    let l = ap length h.4 in
    let one = one_at_least h.0 (encoding_starts t h.0 h.2) in
    omega (arith, one, counted ts h.1 h.3, length-append h.0 h.1)

pairs_counted : (es : DataPairs) (s : List ℕ) → ArePairEncodings es s → pair_count es ≤ length s
pairs_counted no_pairs s h = omega arith
pairs_counted (pair_and k v es) s h =
    let l = ap length h.6 in
    let one = one_at_least h.0 (encoding_starts k h.0 h.3) in
    omega (arith, one, pairs_counted es h.2 h.5, length-append (h.0 ++ h.1) h.2, length-append h.0 h.1)

-- what chunks hold
chunks_bytes : (kind : StringKind) (cs : List (List ℕ)) (s : List ℕ) → IsShort s → AreChunks kind cs s → AllBytes (joined cs) × (length (joined cs) ≤ length s)
chunks_bytes kind [] s b h = (tt, omega arith)
chunks_bytes kind (c ∷ cs) s b h =
    let d = h.2 in
    let one = behind h.0 d.head c (front s h.0 h.1 b h.4) d.form in
    let rest = chunks_bytes kind cs h.1 (behind s h.0 h.1 b h.4) h.3 in
    let l = ap length h.4 in
    let m = ap length d.form in
    (AllBytes-append c (joined cs) one.bytes rest.0, omega (arith, rest.1, length-append h.0 h.1, length-append d.head c, length-append c (joined cs)))

chunks_text : (cs : List (List ℕ)) (s : List ℕ) → AreChunks Text cs s → IsUtf8 (joined cs)
chunks_text [] s h = IsUtf8-nil
chunks_text (c ∷ cs) s h = IsUtf8-append c (joined cs) h.2.fine (chunks_text cs h.1 h.3)

definite_below : (kind : StringKind) (bs s : List ℕ) → IsDefiniteString kind bs s → length bs < 2 ^ 64
definite_below kind bs s h = head_below (string_major kind) _ _ h.opens

indefinite_holds : (kind : StringKind) (bs s : List ℕ) → IsShort s → IsIndefiniteString kind bs s → (length bs < 2 ^ 64) × AllBytes bs
indefinite_holds kind bs s b h =
    let body = within s (32 * string_major kind + 31) h.body b h.form in
    let c = chunks_bytes kind h.chunks h.body body h.each in
    let l = ap length h.joins in
    let f = body.few in
    (omega (arith, c.1), subst AllBytes (sym h.joins) c.0)

mutual
  pub IsEncodable-encoding : (t : DataItem) (s : List ℕ) → IsShort s → IsEncoding t s → IsEncodable t
  IsEncodable-encoding (unsigned n) s b h = head_below 0 n s h
  IsEncodable-encoding (negative n) s b h = head_below 1 n s h
  IsEncodable-encoding (byte_string bs) s b (inl h) = (definite_below Bytes bs s h, (behind s h.head bs b h.form).bytes)
  IsEncodable-encoding (byte_string bs) s b (inr h) = indefinite_holds Bytes bs s b h
  IsEncodable-encoding (text_string bs) s b (inl h) = (definite_below Text bs s h, h.fine)
  IsEncodable-encoding (text_string bs) s b (inr h) = ((indefinite_holds Text bs s b h).0, subst IsUtf8 (sym h.joins) (chunks_text h.chunks h.body h.each))
  IsEncodable-encoding (array ts) s b (inl h) = (head_below 4 _ _ h.2, AreEncodable-encodings ts h.1 (behind s h.0 h.1 b h.4) h.3)
  IsEncodable-encoding (array ts) s b (inr h) =
      let body = within s 159 h.0 b h.2 in
      ((let f = body.few in omega (arith, counted ts h.0 h.1)), AreEncodable-encodings ts h.0 body h.1)
  IsEncodable-encoding (mapping es) s b (inl h) = (head_below 5 _ _ h.2, ArePairsEncodable-encodings es h.1 (behind s h.0 h.1 b h.4) h.3)
  IsEncodable-encoding (mapping es) s b (inr h) =
      let body = within s 191 h.0 b h.2 in
      ((let f = body.few in omega (arith, pairs_counted es h.0 h.1)), ArePairsEncodable-encodings es h.0 body h.1)
  IsEncodable-encoding (tagged n t) s b h = (head_below 6 _ _ h.2, IsEncodable-encoding t h.1 (behind s h.0 h.1 b h.4) h.3)
  IsEncodable-encoding (simple_value n) s b h = (h.0, h.1)
  IsEncodable-encoding _ s b h = h.0

  AreEncodable-encodings : (ts : DataItems) (s : List ℕ) → IsShort s → AreEncodings ts s → AreEncodable ts
  AreEncodable-encodings no_items s b h = tt
  AreEncodable-encodings (item_and t ts) s b h = (IsEncodable-encoding t h.0 (front s h.0 h.1 b h.4) h.2, AreEncodable-encodings ts h.1 (behind s h.0 h.1 b h.4) h.3)

  ArePairsEncodable-encodings : (es : DataPairs) (s : List ℕ) → IsShort s → ArePairEncodings es s → ArePairsEncodable es
  ArePairsEncodable-encodings no_pairs s b h = tt
  ArePairsEncodable-encodings (pair_and k v es) s b h =
      let both = front s (h.0 ++ h.1) h.2 b h.6 in (
        IsEncodable-encoding k h.0 (front (h.0 ++ h.1) h.0 h.1 both refl) h.3,
        IsEncodable-encoding v h.1 (behind (h.0 ++ h.1) h.0 h.1 both refl) h.4,
        ArePairsEncodable-encodings es h.2 (behind s (h.0 ++ h.1) h.2 b h.6) h.5,
      )

pub encoded : (item : DataItem) (bytes : List ℕ) → AllBytes bytes → length bytes < 2 ^ 64 → Encodes item bytes → IsEncodable item
encoded item bytes b l h = IsEncodable-encoding item bytes (record { bytes = b; few = l }) h.encoding
