-- The shortest encoding is an encoding.
use Rattle.std.proofs.Common.{◌≡◌, ℕ, ◌^◌, ◌<◌, ◌≤◌, Bool, true, false, cond, ltb, length, refl, inl}
use Rattle.std.proofs.lemmas.Bool.{ltb-true, ltb-false}
use Rattle.grasp_cbor.specs.DataItem.{DataItem, DataItems, DataPairs, unsigned, negative, byte_string, text_string, array, mapping, tagged, simple_value, no_items, item_and, no_pairs, pair_and, depth_of}
use Rattle.grasp_cbor.specs.Encodable.{IsEncodable, AreEncodable, ArePairsEncodable}
use Rattle.grasp_cbor.specs.Encodes.{IsEncoding, AreEncodings, ArePairEncodings, Encodes}
use Rattle.grasp_cbor.specs.Head.{HeadSize, argument_limit, IsHead, shortest_size, shortest_head}
use Rattle.grasp_cbor.specs.Shortest.{shortest, shortest_items, shortest_pairs}

by_test : (b : Bool) (n k : ℕ) (x y : HeadSize) → ltb n k ≡ b → (n < k → n < argument_limit x) → (k ≤ n → n < argument_limit y) → n < argument_limit (cond b x y)
by_test true n k x y e p q = p (ltb-true n k e)
by_test false n k x y e p q = q (ltb-false n k e)

chosen : (n k : ℕ) (x y : HeadSize) → (n < k → n < argument_limit x) → (k ≤ n → n < argument_limit y) → n < argument_limit (cond (ltb n k) x y)
chosen n k x y = by_test (ltb n k) n k x y refl

below_limit : (n : ℕ) → n < 2 ^ 64 → n < argument_limit (shortest_size n)
unfolding shortest_size
below_limit n h = chosen n 24 _ _ (λ p. p) (λ _. chosen n (2 ^ 8) _ _ (λ p. p) (λ _. chosen n (2 ^ 16) _ _ (λ p. p) (λ _. chosen n (2 ^ 32) _ _ (λ p. p) (λ _. h))))

pub IsHead-shortest_head : (major n : ℕ) → n < 2 ^ 64 → IsHead major n (shortest_head major n)
unfolding shortest_head
IsHead-shortest_head major n h = (shortest_size n, below_limit n h, refl)

mutual
  pub IsEncoding-shortest : (t : DataItem) → IsEncodable t → IsEncoding t (shortest t)
  IsEncoding-shortest (unsigned n) h = IsHead-shortest_head 0 n h
  IsEncoding-shortest (negative n) h = IsHead-shortest_head 1 n h
  IsEncoding-shortest (byte_string bs) h = inl (record {
    head = shortest_head 2 (length bs);
    opens = IsHead-shortest_head 2 (length bs) h.0;
    fine = tt;
    form
        = refl;
  })
  IsEncoding-shortest (text_string bs) h = inl (record {
    head = shortest_head 3 (length bs);
    opens = IsHead-shortest_head 3 (length bs) h.0;
    fine = h.1;
    form = refl;
  })
  IsEncoding-shortest (array ts) h = inl (shortest_head 4 _, shortest_items ts, IsHead-shortest_head 4 _ h.0, AreEncodings-shortest ts h.1, refl)
  IsEncoding-shortest (mapping es) h = inl (shortest_head 5 _, shortest_pairs es, IsHead-shortest_head 5 _ h.0, ArePairEncodings-shortest es h.1, refl)
  IsEncoding-shortest (tagged n t) h = (shortest_head 6 n, shortest t, IsHead-shortest_head 6 n h.0, IsEncoding-shortest t h.1, refl)
  IsEncoding-shortest (simple_value n) h = (h.0, h.1, refl)
  IsEncoding-shortest _ h = (h, refl)

  AreEncodings-shortest : (ts : DataItems) → AreEncodable ts → AreEncodings ts (shortest_items ts)
  AreEncodings-shortest no_items h = refl
  AreEncodings-shortest (item_and t ts) h = (shortest t, shortest_items ts, IsEncoding-shortest t h.0, AreEncodings-shortest ts h.1, refl)

  ArePairEncodings-shortest : (es : DataPairs) → ArePairsEncodable es → ArePairEncodings es (shortest_pairs es)
  ArePairEncodings-shortest no_pairs h = refl
  ArePairEncodings-shortest (pair_and k v es) h = (shortest k, shortest v, shortest_pairs es, IsEncoding-shortest k h.0, IsEncoding-shortest v h.1, ArePairEncodings-shortest es h.2, refl)

pub Encodes-shortest : (t : DataItem) → IsEncodable t → depth_of t ≤ 16 → Encodes t (shortest t)
Encodes-shortest t h d = record { encoding = IsEncoding-shortest t h; within = d }

pub ruleset encoding = (Encodes-shortest)
