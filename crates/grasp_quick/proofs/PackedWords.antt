-- Words that are packed.
use Rattle.std.proofs.Common.{◌≡◌, ℕ, ◌+◌, ◌-◌, ◌*◌, ◌/◌, ◌%◌, ◌<◌, ◌≤◌, ◌^◌, Bool, true, false, cond, List, [], ◌∷◌, ◌++◌, length}
use Rattle.std.proofs.Common.{length-append, take, drop, codes, decimal, refl, sym, ap, subst, ◌∙◌, append_assoc, append-nil, arith}
use Rattle.std.specs.Prelude.{Some, None, slice_index, slice_index_or}
use Rattle.std.specs.Str.{IsUtf8}
use Rattle.std.proofs.lemmas.List.{drop_at, take_all, take-append-drop, length-drop}
use Rattle.hex.specs.Hex.{encode_lower, encode_with, lower_digits}
use Rattle.grasp_cbor.specs.DataItem.{unsigned, text_string}
use Rattle.grasp_cbor.specs.Head.{shortest_head}
use Rattle.grasp_cbor.specs.Minimal.{LeadsShortest}
use Rattle.grasp_cbor.specs.Shortest.{shortest}
use Rattle.grasp_types.specs.Objective.{optional, objective_item, IsObjective}
use Rattle.grasp_types.specs.declared.objective.Objective.{Objective}
use Rattle.grasp_text.specs.Line.{or_dash, escaped, all_escaped, text_word, value_word, objective_words}
use Rattle.grasp_text.specs.Reading.{ArePlain, is_plain}
use Rattle.grasp_text.proofs.Fronts.{plain_utf8}
use Rattle.grasp_text.proofs.TextWords.{all_escaped-append, escaped_plain, plain_escaped}
use Rattle.grasp_quick.specs.Packed.{Packs, PacksValue, PacksObjective, PacksText, PacksDigits, Unescapes, Unhexes}
use Rattle.grasp_quick.proofs.Packing.{alone_read, alone_packed, word_read, both, late_packed}

-- what stands behind a front
pub front_split : (s front : List ℕ) (k : ℕ) → take k s ≡ front → s ≡ front ++ drop k s
front_split s front k e = sym (take-append-drop k s) ∙ ap (λ (x : List ℕ). x ++ drop k s) e

pub last_part : (s : List ℕ) (k : ℕ) → take (length s - k) (drop k s) ≡ drop k s
last_part s k = take_all (length s - k) (drop k s) (omega (arith, length-drop k s))

-- ---- numbers

pub number_packs : (most n : ℕ) (line word rest old new : List ℕ) → line ≡ 32 ∷ word → word ≡ decimal n ++ rest → n ≤ most
    → new ≡ old ++ shortest_head 0 n
    → Packs (λ n. unsigned n ∷ []) (λ n. n ≤ most) (λ n. decimal n ∷ []) line rest old new
number_packs most n line word rest old new p q few packed = record {
  value = n;
  is_one = few;
  read = alone_read (decimal n) line rest (p ∙ ap (λ (x : List ℕ). 32 ∷ x) q);
  packed = alone_packed (unsigned n) old new packed;
}

-- ---- texts

pub text_packs : (line escaped rest old new : List ℕ) → line ≡ 32 ∷ 39 ∷ escaped → PacksText escaped rest old new
    → Packs (λ t. text_string t ∷ []) IsUtf8 (λ t. text_word t ∷ []) line rest old new
text_packs line escaped rest old new p h = record {
  value = h.text;
  is_one = h.is_text;
  read = alone_read (text_word h.text) line rest (p ∙ ap (λ (x : List ℕ). 32 ∷ 39 ∷ x) h.read);
  packed = alone_packed (text_string h.text) old new h.packed;
}

pub plain_packs : (escaped old new : List ℕ) (k : ℕ) → ArePlain (take k escaped)
    → new ≡ old ++ (shortest_head 3 (length (take k escaped)) ++ take k escaped) → PacksText escaped (drop k escaped) old new
plain_packs escaped old new k plain packed = record {
  text = take k escaped;
  is_text = plain_utf8 (take k escaped) plain;
  read = front_split escaped (all_escaped (take k escaped)) k (sym (plain_escaped (take k escaped) plain));
  packed = packed;
}

pub unescaped_packs : (escaped rest old middle new : List ℕ) (count start : ℕ) → middle ≡ old ++ shortest_head 3 count → start ≡ length middle
    → Unescapes count escaped rest middle new → IsUtf8 (drop start new)
    → PacksText escaped rest old new
unescaped_packs escaped rest old middle new count start p place h utf8 =
    let behind : drop start new ≡ h.text = ap (drop start) h.appended ∙ drop_at middle h.text start (sym place) in
    let head : middle ≡ old ++ shortest_head 3 (length h.text) = p ∙ ap (λ (n : ℕ). old ++ shortest_head 3 n) (sym h.counted) in
    record {
      text = h.text;
      is_text = subst IsUtf8 behind utf8;
      read = h.read;
      packed = h.appended ∙ ap (λ (x : List ℕ). x ++ h.text) head ∙ append_assoc old (shortest_head 3 (length h.text)) h.text;
    }

pub unescaped_found : (escaped_bytes rest old middle new shown : List ℕ) (count start : ℕ) → middle ≡ old ++ shortest_head 3 count
    → start ≡ length middle → Unescapes count escaped_bytes rest middle new → shown ≡ new
    → IsUtf8 (take (length shown - start) (drop start shown)) → PacksText escaped_bytes rest old new
unescaped_found escaped_bytes rest old middle new shown count start p place h same utf8 =
    unescaped_packs escaped_bytes rest old middle new count start p place h (subst IsUtf8 (last_part shown start ∙ ap (drop start) same) utf8)

pub plain_found : (escaped_bytes old new : List ℕ) (k : ℕ) → ArePlain (take k escaped_bytes)
    → new ≡ old ++ (shortest_head 3 (length (take k escaped_bytes)) ++ take k escaped_bytes)
    → PacksText escaped_bytes (take (length escaped_bytes - k) (drop k escaped_bytes)) old new
plain_found escaped_bytes old new k plain packed =
    subst (λ (r : List ℕ). PacksText escaped_bytes r old new) (sym (last_part escaped_bytes k)) (plain_packs escaped_bytes old new k plain packed)

pub none_unescaped : (escaped old : List ℕ) → Unescapes 0 escaped escaped old old
none_unescaped escaped old = record { text = []; counted = refl; read = refl; appended = sym (append-nil old) }

pub more_unescaped : (count byte : ℕ) (escaped_bytes middle rest old between new : List ℕ) → Unescapes count escaped_bytes middle old between
    → middle ≡ escaped byte ++ rest → new ≡ between ++ byte ∷ []
    → Unescapes (count + 1) escaped_bytes rest old new
more_unescaped count byte escaped_bytes middle rest old between new h p q =
    let t = h.text in
    let one : all_escaped (t ++ byte ∷ []) ≡ all_escaped t ++ escaped byte = all_escaped-append t (byte ∷ [])
    ∙ ap (λ (x : List ℕ). all_escaped t ++ x) (append-nil (escaped byte)) in
    record {
      text = t ++ byte ∷ [];
      counted = omega (arith, h.counted, length-append t (byte ∷ []));
      read = h.read ∙ ap (λ (x : List ℕ). all_escaped t ++ x) p ∙ sym (append_assoc (all_escaped t) (escaped byte) rest)
          ∙ ap (λ (x : List ℕ). x ++ rest) (sym one);
      appended = q ∙ ap (λ (x : List ℕ). x ++ byte ∷ []) h.appended ∙ append_assoc old t (byte ∷ []);
    }

pub plain_first : (byte : ℕ) (rest : List ℕ) → is_plain byte ≡ true → byte ∷ rest ≡ escaped byte ++ rest
plain_first byte rest e = ap (λ (x : List ℕ). x ++ rest) (sym (escaped_plain byte e))

pub percent_first : (byte : ℕ) (digits : List ℕ) → is_plain byte ≡ false → take 2 digits ≡ encode_lower (byte ∷ [])
    → 37 ∷ digits ≡ escaped byte ++ drop 2 digits
unfolding encode_with
percent_first byte digits other e =
    let high = slice_index lower_digits (byte / 16) in
    let low = slice_index lower_digits (byte % 16) in
    let whole : escaped byte ≡ 37 ∷ high ∷ low ∷ [] = ap (λ (p : Bool). cond p (byte ∷ []) (37 ∷ high ∷ low ∷ [])) other in
    ap (λ (x : List ℕ). 37 ∷ x) (front_split digits (high ∷ low ∷ []) 2 e) ∙ ap (λ (x : List ℕ). x ++ drop 2 digits) (sym whole)

pub percent_found : (digits out : List ℕ) (count : ℕ) → length out ≡ 1 → 0 < count → count ≤ length out
    → take (2 * count) digits ≡ encode_lower (take count out) → is_plain (slice_index_or out 0 0) ≡ false
    → 37 ∷ digits ≡ escaped (slice_index_or out 0 0) ++ take (length digits - 2) (drop 2 digits)
percent_found digits [] count one some few e other = absurd (omega (arith, one))
percent_found digits (b ∷ []) count one some few e other =
    let n : count ≡ 1 = omega (arith, some, few) in
    percent_first b digits other (subst (λ (k : ℕ). take (2 * k) digits ≡ encode_lower (take k (b ∷ []))) n e)
    ∙ ap (λ (x : List ℕ). escaped b ++ x) (sym (last_part digits 2))
percent_found digits (b ∷ c ∷ out) count one some few e other = absurd (omega (arith, one))

-- ---- values

pub digits_pack : (digits old new behind : List ℕ) (count start : ℕ) → Unhexes digits count old new → start ≡ length old
    → LeadsShortest 13 (drop start new) behind → length behind ≡ 0
    → PacksDigits digits (drop (2 * count) digits) old new
digits_pack digits old new behind count start h place leads none =
    let nothing : behind ≡ [] = sym (take_all 0 behind (omega (arith, none))) in
    let bytes : h.bytes ≡ shortest leads.item = sym (ap (drop start) h.appended ∙ drop_at old h.bytes start (sym place)) ∙ leads.parts
    ∙ ap (λ (x : List ℕ). shortest leads.item ++ x) nothing ∙ append-nil (shortest leads.item) in
    record {
      value = leads.item;
      is_value = record { within = leads.shallow; encodable = leads.encodable };
      read = front_split digits (encode_lower (shortest leads.item)) (2 * count) (h.digits_are ∙ ap encode_lower bytes);
      packed = h.appended ∙ ap (λ (x : List ℕ). old ++ x) bytes;
    }

pub value_found : (digits old new shown behind : List ℕ) (count start : ℕ) → Unhexes digits count old new → start ≡ length old → shown ≡ new
    → LeadsShortest 13 (take (length shown - start) (drop start shown)) behind → length behind ≡ 0
    → PacksDigits digits (take (length digits - 2 * count) (drop (2 * count) digits)) old new
value_found digits old new shown behind count start h place same leads none =
    let part : take (length shown - start) (drop start shown) ≡ drop start new = last_part shown start ∙ ap (drop start) same in
    subst (λ (r : List ℕ). PacksDigits digits r old new) (sym (last_part digits (2 * count)))
    (digits_pack digits old new behind count start h place (subst (λ (x : List ℕ). LeadsShortest 13 x behind) part leads) none)

pub value_packs : (line digits rest old new : List ℕ) → line ≡ 32 ∷ 120 ∷ digits → PacksDigits digits rest old new → PacksValue 1 line rest old new
value_packs line digits rest old new p h = record {
  value = Some h.value;
  is_one = (h.is_value, refl);
  read = alone_read (value_word h.value) line rest (p ∙ ap (λ (x : List ℕ). 32 ∷ 120 ∷ x) h.read);
  packed = alone_packed h.value old new h.packed;
}

pub no_value_packs : (line rest old new : List ℕ) → line ≡ 32 ∷ 45 ∷ rest → new ≡ old → PacksValue 0 line rest old new
no_value_packs line rest old new p same = record { value = None; is_one = (tt, refl); read = p; packed = same ∙ sym (append-nil old) }

-- ---- objectives

byte_small : (n : ℕ) → n ≤ 255 → n < 2 ^ 8
byte_small n h = omega (arith, h)

pub objective_packs : (line r0 r1 r2 r3 rest old l0 l1 l2 l3 l4 new : List ℕ) (at more count byte : ℕ) → line ≡ 32 ∷ (codes "obj" ++ r0)
    → at ≡ length old → l0 ≡ old ++ byte ∷ []
    → Packs (λ t. text_string t ∷ []) IsUtf8 (λ t. text_word t ∷ []) r0 r1 l0 l1
    → Packs (λ n. unsigned n ∷ []) (λ n. n ≤ 15) (λ n. decimal n ∷ []) r1 r2 l1 l2
    → Packs (λ n. unsigned n ∷ []) (λ n. n ≤ 255) (λ n. decimal n ∷ []) r2 r3 l2 l3 → PacksValue more r3 rest l3 l4 → count ≡ 3 + more
    → new ≡ take at l4 ++ (shortest_head 4 count ++ drop (at + 1) l4)
    → Packs (λ o. objective_item o ∷ []) IsObjective objective_words line rest old new
objective_packs line r0 r1 r2 r3 rest old l0 l1 l2 l3 l4 new at more count byte opens place put name flags loops value counts set =
    let all = both _ _ _ _ _ _ r0 r1 rest l0 l1 l4 name
    (both _ _ _ _ _ _ r1 r2 rest l1 l2 l4 flags (both _ _ _ _ _ _ r2 r3 rest l2 l3 l4 loops value)) in
    let o : Objective = record { name = name.value; flags = flags.value; loops = loops.value; value = value.value } in
    record {
      value = o;
      is_one = record { name = name.is_one; flags = flags.is_one; loops = byte_small loops.value loops.is_one; value = value.is_one.0 };
      read = word_read (codes "obj") line r0 rest (text_word o.name ∷ decimal o.flags ∷ decimal o.loops ∷ or_dash value_word o.value ∷ []) opens
          all.read;
      packed = late_packed (text_string o.name ∷ unsigned o.flags ∷ unsigned o.loops ∷ optional o.value) count at byte old l0 l4 new
          (omega (arith, counts, value.is_one.1)) place put all.packed set;
    }

pub last_objective_packs : (line rest old new : List ℕ) → Packs (λ o. objective_item o ∷ []) IsObjective objective_words line rest old new
    → PacksObjective 1 line rest old new
last_objective_packs line rest old new h = record { value = Some h.value; is_one = (h.is_one, refl); read = h.read; packed = h.packed }

pub no_objective_packs : (line old new : List ℕ) → new ≡ old → PacksObjective 0 line line old new
no_objective_packs line old new same = record { value = None; is_one = (tt, refl); read = refl; packed = same ∙ sym (append-nil old) }
