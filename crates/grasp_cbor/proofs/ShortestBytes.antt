-- A shortest encoding is bytes.
use Rattle.std.proofs.Common.{◌≡◌, ℕ, ◌+◌, ◌*◌, ◌<◌, ◌^◌, [], ◌∷◌, ◌++◌, length, Bool, true, false, if◌then◌else◌, nat_lt, sym, subst, ◌∙◌, refl, arith}
use Rattle.std.proofs.lemmas.Bool.{ltb-true}
use Rattle.grasp_cbor.specs.Bytes.{AllBytes}
use Rattle.grasp_cbor.specs.DataItem.{DataItem, DataItems, DataPairs, unsigned, negative, byte_string, text_string, array, mapping, tagged, simple_value, half_float, single_float, double_float, no_items, item_and, no_pairs, pair_and, item_count, pair_count}
use Rattle.grasp_cbor.specs.Encodable.{IsEncodable, AreEncodable, ArePairsEncodable}
use Rattle.grasp_cbor.specs.Head.{two_bytes, four_bytes, eight_bytes, shortest_head}
use Rattle.grasp_cbor.specs.Shortest.{shortest, shortest_items, shortest_pairs}
use Rattle.grasp_cbor.specs.Stands.{info_of}
use Rattle.grasp_cbor.proofs.HeadBytes.{tail_of, head_is, tail_bytes, AllBytes-append}
use Rattle.grasp_cbor.proofs.Openings.{info_below}
use Rattle.grasp_cbor.proofs.Shortest.{IsHead-shortest_head}
use Rattle.grasp_cbor.proofs.Text.{utf8_bytes}

head_bytes : (major n : ℕ) → major < 8 → n < 2 ^ 64 → AllBytes (shortest_head major n)
head_bytes major n l h =
    let k = IsHead-shortest_head major n h in
    let i = info_below k.0 n k.1 in
    let first : 32 * major + info_of k.0 n < 256 = omega arith in
    let both : AllBytes ((32 * major + info_of k.0 n) ∷ tail_of k.0 n) = (first, tail_bytes k.0 n k.1) in
    subst AllBytes (sym (k.2 ∙ head_is k.0 major n)) both

simple_bytes : (b : Bool) (n : ℕ) → nat_lt n 24 ≡ b → n < 2 ^ 8 → AllBytes (if b then (224 + n) ∷ [] else 248 ∷ n ∷ [])
simple_bytes true n e h = (let l = ltb-true n 24 e in omega arith, tt)
simple_bytes false n e h = (omega arith, (omega arith, tt))

mutual
  pub shortest_bytes : (t : DataItem) → IsEncodable t → AllBytes (shortest t)
  shortest_bytes (unsigned n) h = head_bytes 0 n (omega arith) h
  shortest_bytes (negative n) h = head_bytes 1 n (omega arith) h
  shortest_bytes (byte_string bs) h = AllBytes-append (shortest_head 2 (length bs)) bs (head_bytes 2 (length bs) (omega arith) h.0) h.1
  shortest_bytes (text_string bs) h = AllBytes-append (shortest_head 3 (length bs)) bs (head_bytes 3 (length bs) (omega arith) h.0) (utf8_bytes bs h.1)
  shortest_bytes (array ts) h = AllBytes-append (shortest_head 4 (item_count ts)) (shortest_items ts) (head_bytes 4 (item_count ts) (omega arith) h.0) (items_bytes ts h.1)
  shortest_bytes (mapping es) h = AllBytes-append (shortest_head 5 (pair_count es)) (shortest_pairs es) (head_bytes 5 (pair_count es) (omega arith) h.0) (pairs_bytes es h.1)
  shortest_bytes (tagged n t) h = AllBytes-append (shortest_head 6 n) (shortest t) (head_bytes 6 n (omega arith) h.0) (shortest_bytes t h.1)
  shortest_bytes (simple_value n) h = simple_bytes (nat_lt n 24) n refl h.1
  shortest_bytes (half_float n) h = (omega arith, tail_bytes two_bytes n h)
  shortest_bytes (single_float n) h = (omega arith, tail_bytes four_bytes n h)
  shortest_bytes (double_float n) h = (omega arith, tail_bytes eight_bytes n h)

  items_bytes : (ts : DataItems) → AreEncodable ts → AllBytes (shortest_items ts)
  items_bytes no_items h = tt
  items_bytes (item_and t ts) h = AllBytes-append (shortest t) (shortest_items ts) (shortest_bytes t h.0) (items_bytes ts h.1)

  pairs_bytes : (es : DataPairs) → ArePairsEncodable es → AllBytes (shortest_pairs es)
  pairs_bytes no_pairs h = tt
  pairs_bytes (pair_and k v es) h = AllBytes-append (shortest k ++ shortest v) (shortest_pairs es) (AllBytes-append (shortest k) (shortest v) (shortest_bytes k h.0) (shortest_bytes v h.1)) (pairs_bytes es h.2)
