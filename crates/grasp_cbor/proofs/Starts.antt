-- An encoding has a first byte, which is no break.
use Rattle.std.proofs.Common.{◌≡◌, ℕ, ◌+◌, ◌*◌, ◌<◌, Bool, true, false, cond, ltb, List, [], ◌∷◌, ◌++◌, None, refl, ap, ◌∙◌, inl, inr, arith}
use Rattle.std.specs.Int.{w16, w32, w64, to_be_bytes}
use Rattle.std.proofs.lemmas.Bool.{ltb-true, ne_eqb}
use Rattle.grasp_cbor.specs.DataItem.{DataItem, unsigned, negative, byte_string, text_string, array, mapping, tagged, simple_value, half_float, single_float, double_float}
use Rattle.grasp_cbor.specs.Head.{HeadSize, direct, one_byte, two_bytes, four_bytes, eight_bytes, argument_limit, sized_head, IsHead}
use Rattle.grasp_cbor.specs.Encodes.{IsEncoding, IsString, IsDefiniteString, string_major}
use Rattle.grasp_cbor.specs.Build.{break_at}
use Rattle.grasp_cbor.specs.declared.heads.StringKind.{StringKind}
use Rattle.grasp_cbor.specs.declared.heads.StringKind.TheVariants.{Bytes, Text}

pub record Starts (s : List ℕ) : Type 0 where
  pub first : ℕ
  pub more : List ℕ
  pub form : s ≡ first ∷ more
  pub low : first < 255

low_head : (size : HeadSize) (major n : ℕ) → major < 8 → n < argument_limit size → Starts (sized_head size major n)
low_head direct major n m h = record { first = 32 * major + n; more = []; form = refl; low = omega arith }
low_head one_byte major n m h = record { first = 32 * major + 24; more = n ∷ []; form = refl; low = omega arith }
low_head two_bytes major n m h = record { first = 32 * major + 25; more = to_be_bytes w16 n; form = refl; low = omega arith }
low_head four_bytes major n m h = record { first = 32 * major + 26; more = to_be_bytes w32 n; form = refl; low = omega arith }
low_head eight_bytes major n m h = record { first = 32 * major + 27; more = to_be_bytes w64 n; form = refl; low = omega arith }

pub before : (s head rest : List ℕ) → Starts head → s ≡ head ++ rest → Starts s
before s head rest h e = record { first = h.first; more = h.more ++ rest; form = e ∙ ap (λ x. x ++ rest) h.form; low = h.low }

-- what begins with a head
pub head_starts : (major n : ℕ) (s : List ℕ) → major < 8 → IsHead major n s → Starts s
head_starts major n s m h =
    let k = low_head h.0 major n m h.1 in
    record { first = k.first; more = k.more; form = h.2 ∙ k.form; low = k.low }

behind_head : (major n : ℕ) (s head rest : List ℕ) → major < 8 → IsHead major n head → s ≡ head ++ rest → Starts s
behind_head major n s head rest m h e = before s head rest (head_starts major n head m h) e

low_major : (kind : StringKind) → string_major kind < 7
low_major Bytes = omega arith
low_major Text = omega arith

pub definite_starts : (kind : StringKind) (bs s : List ℕ) → IsDefiniteString kind bs s → Starts s
definite_starts kind bs s h = let m = low_major kind in behind_head (string_major kind) _ s h.head bs (omega arith) h.opens h.form

string_starts : (kind : StringKind) (bs s : List ℕ) → IsString kind bs s → Starts s
string_starts kind bs s (inl h) = definite_starts kind bs s h
string_starts kind bs s (inr h) = let m = low_major kind in record {
  first = 32 * string_major kind + 31;
  more = h.body ++ 255 ∷ [];
  form = h.form;
  low
      = omega arith;
}

simple_starts : (b : Bool) (n : ℕ) (s : List ℕ) → ltb n 24 ≡ b → s ≡ cond b ((224 + n) ∷ []) (248 ∷ n ∷ []) → Starts s
simple_starts true n s t e = let l = ltb-true n 24 t in record { first = 224 + n; more = []; form = e; low = omega arith }
simple_starts false n s t e = record { first = 248; more = n ∷ []; form = e; low = omega arith }

pub encoding_starts : (t : DataItem) (s : List ℕ) → IsEncoding t s → Starts s
encoding_starts (unsigned n) s h = head_starts 0 n s (omega arith) h
encoding_starts (negative n) s h = head_starts 1 n s (omega arith) h
encoding_starts (byte_string bs) s h = string_starts Bytes bs s h
encoding_starts (text_string bs) s h = string_starts Text bs s h
encoding_starts (array ts) s (inl h) = behind_head 4 _ s h.0 h.1 (omega arith) h.2 h.4
encoding_starts (array ts) s (inr h) = record { first = 159; more = h.0 ++ 255 ∷ []; form = h.2; low = omega arith }
encoding_starts (mapping es) s (inl h) = behind_head 5 _ s h.0 h.1 (omega arith) h.2 h.4
encoding_starts (mapping es) s (inr h) = record { first = 191; more = h.0 ++ 255 ∷ []; form = h.2; low = omega arith }
encoding_starts (tagged n t) s h = behind_head 6 n s h.0 h.1 (omega arith) h.2 h.4
encoding_starts (simple_value n) s h = simple_starts (ltb n 24) n s refl h.2
encoding_starts (half_float n) s h = record { first = 249; more = to_be_bytes w16 n; form = h.1; low = omega arith }
encoding_starts (single_float n) s h = record { first = 250; more = to_be_bytes w32 n; form = h.1; low = omega arith }
encoding_starts (double_float n) s h = record { first = 251; more = to_be_bytes w64 n; form = h.1; low = omega arith }

-- so no break stands where it begins
pub no_break : (s rest : List ℕ) → Starts s → break_at (s ++ rest) ≡ None
no_break s rest h =
    let e : s ++ rest ≡ h.first ∷ (h.more ++ rest) = ap (λ x. x ++ rest) h.form in
    let l = h.low in
    ap break_at e ∙ rw (ne_eqb h.first 255 (λ q. omega arith)) refl
