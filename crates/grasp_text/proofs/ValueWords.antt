-- Values as words.
use Rattle.std.proofs.Common.{◌≡◌, ℕ, ◌<◌, ◌≤◌, inl, Bool, true, false, cond, List, [], ◌∷◌, ◌++◌, length, length-append, Option, Some, None, Result, Ok, Err, refl, sym, ap, subst, ◌∙◌, arith}
use Rattle.std.specs.Prelude.{IfOk, IfSome, IfNone, option_map}
use Rattle.std.specs.Str.{bytes_eq}
use Rattle.std.proofs.lemmas.List.{append-nil}
use Rattle.std.proofs.lemmas.Slice.Eq.{bytes_eq-Decides}
use Rattle.hex.specs.Hex.{IsBytes, decode_of, encode_lower}
use Rattle.hex.specs.declared.error.FromHexError.{FromHexError}
use Rattle.hex.proofs.HexLemmas.{decode_of-encode_lower, decode_of-ok}
use Rattle.grasp_cbor.specs.Build.{item_at}
use Rattle.grasp_cbor.specs.DataItem.{DataItem, simple_value, depth_of}
use Rattle.grasp_cbor.specs.Encodes.{IsEncoding, Encodes}
use Rattle.grasp_cbor.specs.Leading.{Leads}
use Rattle.grasp_cbor.specs.Shortest.{shortest}
use Rattle.grasp_cbor.proofs.Again.{item_again}
use Rattle.grasp_cbor.proofs.Found.{item_found}
use Rattle.grasp_cbor.proofs.HeadBytes.{AllBytes-at, AllBytes-from}
use Rattle.grasp_cbor.proofs.Shortest.{Encodes-shortest}
use Rattle.grasp_types.specs.Objective.{IsValue}
use Rattle.grasp_text.specs.Line.{value_word}
use Rattle.grasp_text.proofs.Ranges.{in_range}
use Rattle.grasp_text.specs.Reading.{decoded, bytes_of, whole_value, as_value, item_of_bytes, value_behind, value_of, behind_byte}
use Rattle.grasp_text.proofs.Lawful.{Exact}
use Rattle.grasp_text.proofs.NumberWords.{some, some_is, is_none}
use Rattle.grasp_cbor.proofs.ShortestBytes.{shortest_bytes}
use Rattle.grasp_text.proofs.Leaves.{behind_only}

-- ---- lower-case digits

pub bytes_again : (bytes : List ℕ) → IsBytes bytes → bytes_of (encode_lower bytes) ≡ Some bytes
unfolding bytes_of
bytes_again bytes fits =
    ap (λ (r : Result (List ℕ) FromHexError). decoded r (encode_lower bytes)) (decode_of-encode_lower bytes fits)
    ∙ ap (λ (b : Bool). cond b (some bytes) None) ((bytes_eq-Decides (encode_lower bytes) (encode_lower bytes)).1 refl)

-- the word is the lower-case hexadecimal digits of these bytes
pub record AreDigits (word bytes : List ℕ) : Type 0 where
  pub spelled : word ≡ encode_lower bytes
  pub fits : IsBytes bytes

bytes_only_at : (word bytes : List ℕ) (r : Result (List ℕ) FromHexError) → decode_of word ≡ r → decoded r word ≡ Some bytes → AreDigits word bytes
bytes_only_at word bytes (Err x) d e = absurd (let z : None ≡ some bytes = e in cc)
bytes_only_at word bytes (Ok found) d e = by_test (bytes_eq (encode_lower found) word) refl e
  where
    by_test : (b : Bool) → bytes_eq (encode_lower found) word ≡ b → cond b (some found) None ≡ Some bytes → AreDigits word bytes
    by_test false t f = absurd (let z : None ≡ some bytes = f in cc)
    by_test true t f =
        let is : found ≡ bytes = some_is found bytes f in
        let ok = decode_of-ok word found d in
        record { spelled = sym ((bytes_eq-Decides (encode_lower found) word).0 t) ∙ ap encode_lower is; fits = subst IsBytes is ok.3 }

pub bytes_only : (word bytes : List ℕ) → bytes_of word ≡ Some bytes → AreDigits word bytes
unfolding bytes_of
bytes_only word bytes e = bytes_only_at word bytes (decode_of word) refl e

-- the bytes of their digits
pub bytes_of_spelled : (word bytes : List ℕ) → IsBytes bytes → word ≡ encode_lower bytes → bytes_of word ≡ Some bytes
bytes_of_spelled word bytes fits e = ap bytes_of e ∙ bytes_again bytes fits

-- the digits of no bytes
pub bytes_of_none : (word : List ℕ) → ((bytes : List ℕ) → IsBytes bytes → ¬ (word ≡ encode_lower bytes)) → bytes_of word ≡ None
bytes_of_none word h = is_none (bytes_of word) (λ bytes e. let d = bytes_only word bytes e in h bytes d.fits d.spelled)

-- ---- values

-- a value's shortest encoding is one
value_encodes : (item : DataItem) → IsValue item → Encodes item (shortest item)
value_encodes item v = let d = v.within in Encodes-shortest item v.encodable (omega arith)

-- a value's shortest encoding is made of bytes
value_bytes : (item : DataItem) → IsValue item → IsBytes (shortest item)
value_bytes item v = AllBytes-at (shortest item) (shortest_bytes item v.encodable)

-- a word of this value
pub record IsValueWord (item : DataItem) (word : List ℕ) : Type 0 where
  pub value : IsValue item
  pub spelled : word ≡ value_word item

value_again : (item : DataItem) (bytes : List ℕ) → Encodes item (shortest item) → depth_of item ≤ 13 → shortest item ≡ bytes → as_value bytes (item_at 13 bytes) ≡ Some item
value_again item bytes enc shallow e =
    let found : item_at 13 (shortest item) ≡ Some (item, []) = ap (item_at 13) (sym (append-nil (shortest item))) ∙ item_again item 13 (shortest item) [] enc.encoding shallow in
    ap (as_value bytes) (ap (item_at 13) (sym e) ∙ found)
    ∙ ap (λ (b : Bool). cond b (some item) None) ((bytes_eq-Decides (shortest item) bytes).1 e)

record IsValueOf (bytes : List ℕ) (item : DataItem) : Type 0 where
  value : IsValue item
  spelled : bytes ≡ shortest item

whole_only : (bytes : List ℕ) (found : DataItem) (rest : List ℕ) (item : DataItem) → IsBytes bytes → item_at 13 bytes ≡ Some (found, rest) → whole_value bytes found rest ≡ Some item → IsValueOf bytes item
whole_only bytes found (b ∷ rest) item fits is e = absurd (let z : None ≡ some item = e in cc)
whole_only bytes found [] item fits is e = by_test (bytes_eq (shortest found) bytes) refl e
  where
    by_test : (b : Bool) → bytes_eq (shortest found) bytes ≡ b → cond b (some found) None ≡ Some item → IsValueOf bytes item
    by_test false t f = absurd (let z : None ≡ some item = f in cc)
    by_test true t f =
        let built = item_found 13 bytes (found, []) fits is in
        let same : shortest found ≡ bytes = (bytes_eq-Decides (shortest found) bytes).0 t in
        let front : built.front ≡ shortest found = sym (built.parts ∙ append-nil built.front) ∙ sym same in
        let enc : IsEncoding found (shortest found) = subst (λ (x : List ℕ). IsEncoding found x) front built.encoding in
        subst (λ (x : DataItem). IsValueOf bytes x) (some_is found item f) (record { value = record { within = built.within; encodable = in_range found (AllBytes-from (shortest found) (subst IsBytes (sym same) fits)) enc }; spelled = sym same })

value_only_at : (bytes : List ℕ) (o : Option (DataItem × List ℕ)) (item : DataItem) → IsBytes bytes → item_at 13 bytes ≡ o → as_value bytes o ≡ Some item → IsValueOf bytes item
value_only_at bytes None item fits is e = absurd (let z : None ≡ some item = e in cc)
value_only_at bytes (Some x) item fits is e = whole_only bytes x.0 x.1 item fits is e

value_found : (item : DataItem) (word : List ℕ) → IsValueWord item word → value_of word ≡ Some item
unfolding value_of
value_found item word is =
    ap (λ (x : List ℕ). value_behind (behind_byte 120 x)) is.spelled
    ∙ ap item_of_bytes (bytes_again (shortest item) (value_bytes item is.value))
    ∙ value_again item (shortest item) (value_encodes item is.value) is.value.within refl

value_word_at : (word digits : List ℕ) (item : DataItem) (o : Option (List ℕ)) → word ≡ 120 ∷ digits → bytes_of digits ≡ o → item_of_bytes o ≡ Some item → IsValueWord item word
value_word_at word digits item None w b e = absurd (let z : None ≡ some item = e in cc)
value_word_at word digits item (Some bytes) w b e =
    let d = bytes_only digits bytes b in
    let v = value_only_at bytes (item_at 13 bytes) item d.fits refl e in
    record { value = v.value; spelled = w ∙ ap (λ (x : List ℕ). 120 ∷ x) (d.spelled ∙ ap encode_lower v.spelled) }

value_only_behind : (word : List ℕ) (item : DataItem) (o : Option (List ℕ)) → behind_byte 120 word ≡ o → value_behind o ≡ Some item → IsValueWord item word
value_only_behind word item None b e = absurd (let z : None ≡ some item = e in cc)
value_only_behind word item (Some digits) b e = value_word_at word digits item (bytes_of digits) (behind_only 120 word digits b) refl e

value_only : (word : List ℕ) (item : DataItem) → value_of word ≡ Some item → IsValueWord item word
unfolding value_of
value_only word item e = value_only_behind word item (behind_byte 120 word) refl e

-- `x` and the digits of bytes in which a value is found
pub value_of_digits : (bytes : List ℕ) (item : DataItem) → IsBytes bytes → Some item ≡ as_value bytes (item_at 13 bytes) → IsValueWord item (120 ∷ encode_lower bytes)
value_of_digits bytes item fits e = let v = value_only_at bytes (item_at 13 bytes) item fits refl (sym e) in record { value = v.value; spelled = ap (λ (x : List ℕ). 120 ∷ encode_lower x) v.spelled }

-- null is a value
null_value : IsValue (simple_value 22)
null_value = record { within = omega arith; encodable = (inl (omega arith), omega arith) }

pub value_exact : Exact IsValueWord value_of
value_exact = record {
  value = simple_value 22;
  word = value_word (simple_value 22);
  some = record { value = null_value; spelled = refl };
  found = value_found;
  only = value_only;
}

-- ---- what `read_first_item` says

first_some : (bytes rest : List ℕ) (item : DataItem) → Leads item bytes rest → depth_of item ≤ 13 → Some (item, rest) ≡ item_at 13 bytes
first_some bytes rest item l shallow = sym (ap (item_at 13) l.parts ∙ item_again item 13 l.front rest l.encoding shallow)

first_none : (bytes : List ℕ) → IsBytes bytes → ((item : DataItem) (rest : List ℕ) → depth_of item ≤ 13 → ¬ (Leads item bytes rest)) → None ≡ item_at 13 bytes
first_none bytes fits h = sym (is_none (item_at 13 bytes) (λ x e.
    let found = item_found 13 bytes x fits e in
    h x.0 x.1 found.within (record { front = found.front; encoding = found.encoding; parts = found.parts })))

-- the item that leads the bytes is the one that is found
pub first_is : {X E : Type 0} (item : X → DataItem) (rest : X → List ℕ) (bytes : List ℕ) (r : Result (Option X) E) → IsBytes bytes
    → IfOk r (λ found. IfSome found (λ x. Leads (item x) bytes (rest x) × (depth_of (item x) ≤ 13)))
    → IfOk r (λ found. IfNone found ((t : DataItem) (others : List ℕ) → depth_of t ≤ 13 → ¬ (Leads t bytes others)))
    → IfOk r (λ found. option_map (λ x. (item x, rest x)) found ≡ item_at 13 bytes)
first_is item rest bytes (Err e) fits led none = tt
first_is item rest bytes (Ok None) fits led none = first_none bytes fits none
first_is item rest bytes (Ok (Some x)) fits led none = first_some bytes (rest x) (item x) led.0 led.1

-- ---- the value of bytes that begin with an item

-- bytes that don't begin with the item's shortest encoding are no value's
pub whole_apart : (bytes : List ℕ) (item : DataItem) (rest : List ℕ) → ((r : List ℕ) → ¬ (bytes ≡ shortest item ++ r)) → whole_value bytes item rest ≡ None
whole_apart bytes item (b ∷ rest) apart = refl
whole_apart bytes item [] apart = by_test (bytes_eq (shortest item) bytes) refl where
  by_test : (t : Bool) → bytes_eq (shortest item) bytes ≡ t → cond t (some item) None ≡ None
  by_test true e = absurd (apart [] (sym ((bytes_eq-Decides (shortest item) bytes).0 e) ∙ sym (append-nil (shortest item))))
  by_test false e = refl

-- bytes that go on behind the item's shortest encoding are no value's
pub whole_longer : (bytes : List ℕ) (item : DataItem) (rest behind : List ℕ) → bytes ≡ shortest item ++ behind → 0 < length behind → whole_value bytes item rest ≡ None
whole_longer bytes item (b ∷ rest) behind e more = refl
whole_longer bytes item [] behind e more = by_test (bytes_eq (shortest item) bytes) refl where
  by_test : (t : Bool) → bytes_eq (shortest item) bytes ≡ t → cond t (some item) None ≡ None
  by_test true f = absurd (let same = ap length ((bytes_eq-Decides (shortest item) bytes).0 f) in omega (arith, same, ap length e, length-append (shortest item) behind, more))
  by_test false f = refl

-- bytes that are exactly the item's shortest encoding have the item as their value
pub whole_same : (bytes : List ℕ) (item : DataItem) (rest behind : List ℕ) → bytes ≡ shortest item ++ behind → length rest ≡ 0 → length behind ≡ 0 → whole_value bytes item rest ≡ Some item
whole_same bytes item (x ∷ rest) behind e r b = absurd (omega (arith, r))
whole_same bytes item [] (x ∷ behind) e r b = absurd (omega (arith, b))
whole_same bytes item [] [] e r b = ap (λ (t : Bool). cond t (some item) None) ((bytes_eq-Decides (shortest item) bytes).1 (sym (e ∙ append-nil (shortest item))))

pub ruleset whole = (whole_apart, whole_longer, whole_same)
