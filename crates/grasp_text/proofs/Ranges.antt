-- An item that its own shortest form encodes has its numbers in range.
use Rattle.std.proofs.Common.{◌≡◌, ◌<◌, ◌+◌, ◌*◌, ◌^◌, ℕ, Bool, true, false, cond, ltb, List, [], ◌∷◌, ◌++◌, length, refl, sym, ap, ◌∙◌, subst, append_assoc, inl, inr, arith}
use Rattle.std.proofs.lemmas.Bool.{ltb-true}
use Rattle.std.proofs.lemmas.List.{append_cancel_left}
use Rattle.grasp_cbor.specs.Bytes.{AllBytes}
use Rattle.grasp_cbor.specs.DataItem.{DataItem, DataItems, DataPairs, unsigned, negative, byte_string, text_string, array, mapping, tagged, simple_value, no_items, item_and, no_pairs, pair_and, item_count, pair_count}
use Rattle.grasp_cbor.specs.Encodable.{IsEncodable, AreEncodable, ArePairsEncodable}
use Rattle.grasp_cbor.specs.Encodes.{IsEncoding, AreEncodings, ArePairEncodings}
use Rattle.grasp_cbor.specs.Front.{IsHeadOf}
use Rattle.grasp_cbor.specs.Head.{HeadSize, direct, one_byte, two_bytes, four_bytes, eight_bytes, shortest_size, shortest_head}
use Rattle.grasp_cbor.specs.Shortest.{shortest, shortest_items, shortest_pairs}
use Rattle.grasp_cbor.specs.Stands.{info_of}
use Rattle.grasp_cbor.specs.declared.heads.Major.{Major}
use Rattle.grasp_cbor.specs.declared.heads.Major.TheVariants as major
use Rattle.grasp_cbor.proofs.Facts.Lists.{same_first}
use Rattle.grasp_cbor.proofs.Facts.Numbers.{below_64}
use Rattle.grasp_cbor.proofs.HeadBytes.{head_is, tail_of, AllBytes-front, AllBytes-back}
use Rattle.grasp_cbor.proofs.Openings.{same_heads}
use Rattle.grasp_cbor.proofs.Shortest.{IsHead-shortest_head, IsEncoding-shortest}
use Rattle.grasp_cbor.proofs.Whole.{one_encoded}

-- a head isn't the initial byte of indefinite length
small : (b : Bool) (n : ℕ) (y : HeadSize) → ltb n 24 ≡ b → info_of y n < 28 → info_of (cond b direct y) n < 28
small true n y e h = let l = ltb-true n 24 e in omega arith
small false n y e h = h

later : (b c d : Bool) (n : ℕ) → info_of (cond b one_byte (cond c two_bytes (cond d four_bytes eight_bytes))) n < 28
later true c d n = omega arith
later false true d n = omega arith
later false false true n = omega arith
later false false false n = omega arith

low_info : (n : ℕ) → info_of (shortest_size n) n < 28
unfolding shortest_size
low_info n = small (ltb n 24) n _ refl (later (ltb n (2 ^ 8)) (ltb n (2 ^ 16)) (ltb n (2 ^ 32)) n)

not_endless : (m n : ℕ) (x y : List ℕ) → (32 * m + 31) ∷ x ≡ shortest_head m n ++ y → ⊥
unfolding shortest_head
not_endless m n x y e =
    let same = same_first (32 * m + 31) (32 * m + info_of (shortest_size n) n) x (tail_of (shortest_size n) n ++ y) (e ∙ ap (λ s. s ++ y) (head_is (shortest_size n) m n)) in
    omega (arith, low_info n, same)

-- behind two heads of one major type and argument
behind : (m : Major) (k n : ℕ) (s x y : List ℕ) → IsHeadOf m n s → IsHeadOf m n (shortest_head k n) → s ++ x ≡ shortest_head k n ++ y → x ≡ y
behind m k n s x y a b e = (same_heads m m n n s (shortest_head k n) x y a b e).rest

mutual
  pub only : (t : DataItem) (s x y : List ℕ) → AllBytes s → IsEncoding t s → s ++ x ≡ shortest t ++ y → IsEncodable t
  only (unsigned n) s x y b h e = below_64 h.0 n h.1
  only (negative n) s x y b h e = below_64 h.0 n h.1
  only (byte_string bs) s x y b (inl h) e = (below_64 h.opens.0 _ h.opens.1, AllBytes-back h.head bs (subst AllBytes h.form b))
  only (byte_string bs) s x y b (inr h) e = absurd (not_endless 2 (length bs) _ _ (ap (λ z. z ++ x) (sym h.form) ∙ e ∙ append_assoc (shortest_head 2 (length bs)) bs y))
  only (text_string bs) s x y b (inl h) e = (below_64 h.opens.0 _ h.opens.1, h.fine)
  only (text_string bs) s x y b (inr h) e = absurd (not_endless 3 (length bs) _ _ (ap (λ z. z ++ x) (sym h.form) ∙ e ∙ append_assoc (shortest_head 3 (length bs)) bs y))
  only (array ts) s x y b (inl h) e =
      let n = item_count ts in
      let few = below_64 h.2.0 n h.2.1 in
      let shead = IsHead-shortest_head 4 n few in
      let tail : h.1 ++ x ≡ shortest_items ts ++ y =
      behind major.Array 4 n h.0 (h.1 ++ x) (shortest_items ts ++ y) (record { size = h.2.0; fits = h.2.1; fine = tt; form = h.2.2 }) (record { size = shead.0; fits = shead.1; fine = tt; form = shead.2 })
      (sym (append_assoc h.0 h.1 x) ∙ ap (λ z. z ++ x) (sym h.4) ∙ e ∙ append_assoc (shortest_head 4 n) (shortest_items ts) y) in
      (few, only_items ts h.1 x y (AllBytes-back h.0 h.1 (subst AllBytes h.4 b)) h.3 tail)
  only (array ts) s x y b (inr h) e = absurd (not_endless 4 (item_count ts) _ _ (ap (λ z. z ++ x) (sym h.2) ∙ e ∙ append_assoc (shortest_head 4 (item_count ts)) (shortest_items ts) y))
  only (mapping es) s x y b (inl h) e =
      let n = pair_count es in
      let few = below_64 h.2.0 n h.2.1 in
      let shead = IsHead-shortest_head 5 n few in
      let tail : h.1 ++ x ≡ shortest_pairs es ++ y =
      behind major.Map 5 n h.0 (h.1 ++ x) (shortest_pairs es ++ y) (record { size = h.2.0; fits = h.2.1; fine = tt; form = h.2.2 }) (record { size = shead.0; fits = shead.1; fine = tt; form = shead.2 })
      (sym (append_assoc h.0 h.1 x) ∙ ap (λ z. z ++ x) (sym h.4) ∙ e ∙ append_assoc (shortest_head 5 n) (shortest_pairs es) y) in
      (few, only_pairs es h.1 x y (AllBytes-back h.0 h.1 (subst AllBytes h.4 b)) h.3 tail)
  only (mapping es) s x y b (inr h) e = absurd (not_endless 5 (pair_count es) _ _ (ap (λ z. z ++ x) (sym h.2) ∙ e ∙ append_assoc (shortest_head 5 (pair_count es)) (shortest_pairs es) y))
  only (tagged n t) s x y b h e =
      let few = below_64 h.2.0 n h.2.1 in
      let shead = IsHead-shortest_head 6 n few in
      let tail : h.1 ++ x ≡ shortest t ++ y =
      behind major.Tag 6 n h.0 (h.1 ++ x) (shortest t ++ y) (record { size = h.2.0; fits = h.2.1; fine = tt; form = h.2.2 }) (record { size = shead.0; fits = shead.1; fine = tt; form = shead.2 })
      (sym (append_assoc h.0 h.1 x) ∙ ap (λ z. z ++ x) (sym h.4) ∙ e ∙ append_assoc (shortest_head 6 n) (shortest t) y) in
      (few, only t h.1 x y (AllBytes-back h.0 h.1 (subst AllBytes h.4 b)) h.3 tail)
  only (simple_value n) s x y b h e = (h.0, h.1)
  only _ s x y b h e = h.0

  only_items : (ts : DataItems) (s x y : List ℕ) → AllBytes s → AreEncodings ts s → s ++ x ≡ shortest_items ts ++ y → AreEncodable ts
  only_items no_items s x y b h e = tt
  only_items (item_and t ts) s x y b h e =
      let bytes : AllBytes (h.0 ++ h.1) = subst AllBytes h.4 b in
      let e1 : h.0 ++ (h.1 ++ x) ≡ shortest t ++ (shortest_items ts ++ y) = sym (append_assoc h.0 h.1 x) ∙ ap (λ z. z ++ x) (sym h.4) ∙ e ∙ append_assoc (shortest t) (shortest_items ts) y in
      let p = only t h.0 (h.1 ++ x) (shortest_items ts ++ y) (AllBytes-front h.0 h.1 bytes) h.2 e1 in
      let same : h.0 ≡ shortest t = (one_encoded t t h.0 (shortest t) (h.1 ++ x) (shortest_items ts ++ y) h.2 (IsEncoding-shortest t p) e1).1 in
      let e2 : h.1 ++ x ≡ shortest_items ts ++ y = append_cancel_left h.0 (h.1 ++ x) (shortest_items ts ++ y) (e1 ∙ ap (λ z. z ++ (shortest_items ts ++ y)) (sym same)) in
      (p, only_items ts h.1 x y (AllBytes-back h.0 h.1 bytes) h.3 e2)

  only_pairs : (es : DataPairs) (s x y : List ℕ) → AllBytes s → ArePairEncodings es s → s ++ x ≡ shortest_pairs es ++ y → ArePairsEncodable es
  only_pairs no_pairs s x y b h e = tt
  only_pairs (pair_and k v es) s x y b h e =
      let bytes : AllBytes ((h.0 ++ h.1) ++ h.2) = subst AllBytes h.6 b in
      let both : AllBytes (h.0 ++ h.1) = AllBytes-front (h.0 ++ h.1) h.2 bytes in
      let e0 : (h.0 ++ h.1) ++ (h.2 ++ x) ≡ (shortest k ++ shortest v) ++ (shortest_pairs es ++ y) =
      sym (append_assoc (h.0 ++ h.1) h.2 x) ∙ ap (λ z. z ++ x) (sym h.6) ∙ e ∙ append_assoc (shortest k ++ shortest v) (shortest_pairs es) y in
      let e1 : h.0 ++ (h.1 ++ (h.2 ++ x)) ≡ shortest k ++ (shortest v ++ (shortest_pairs es ++ y)) =
      sym (append_assoc h.0 h.1 (h.2 ++ x)) ∙ e0 ∙ append_assoc (shortest k) (shortest v) (shortest_pairs es ++ y) in
      let p = only k h.0 (h.1 ++ (h.2 ++ x)) (shortest v ++ (shortest_pairs es ++ y)) (AllBytes-front h.0 h.1 both) h.3 e1 in
      let key : h.0 ≡ shortest k = (one_encoded k k h.0 (shortest k) (h.1 ++ (h.2 ++ x)) (shortest v ++ (shortest_pairs es ++ y)) h.3 (IsEncoding-shortest k p) e1).1 in
      let e2 : h.1 ++ (h.2 ++ x) ≡ shortest v ++ (shortest_pairs es ++ y) =
      append_cancel_left h.0 (h.1 ++ (h.2 ++ x)) (shortest v ++ (shortest_pairs es ++ y)) (e1 ∙ ap (λ z. z ++ (shortest v ++ (shortest_pairs es ++ y))) (sym key)) in
      let q = only v h.1 (h.2 ++ x) (shortest_pairs es ++ y) (AllBytes-back h.0 h.1 both) h.4 e2 in
      let value : h.1 ≡ shortest v = (one_encoded v v h.1 (shortest v) (h.2 ++ x) (shortest_pairs es ++ y) h.4 (IsEncoding-shortest v q) e2).1 in
      let e3 : h.2 ++ x ≡ shortest_pairs es ++ y =
      append_cancel_left h.1 (h.2 ++ x) (shortest_pairs es ++ y) (e2 ∙ ap (λ z. z ++ (shortest_pairs es ++ y)) (sym value)) in
      (p, q, only_pairs es h.2 x y (AllBytes-back (h.0 ++ h.1) h.2 bytes) h.5 e3)

-- what encodes an item as its shortest form has its numbers in range
pub in_range : (t : DataItem) → AllBytes (shortest t) → IsEncoding t (shortest t) → IsEncodable t
in_range t b h = only t (shortest t) [] [] b h refl
