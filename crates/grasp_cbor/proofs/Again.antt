-- What is encoded so is made.
use Rattle.std.proofs.Common.{◌≡◌, ℕ, zero, suc, ◌+◌, ◌*◌, ◌^◌, ◌<◌, ◌≤◌, false, ltb, List, [], ◌∷◌, ◌++◌, length, Some, refl, sym, ap, ◌∙◌, append_assoc, append-nil, add-one, inl, inr, arith}
use Rattle.std.specs.Int.{w16, w32, w64, to_be_bytes}
use Rattle.std.specs.Str.{IsUtf8}
use Rattle.std.proofs.lemmas.Str.{is_utf8-from_IsUtf8}
use Rattle.std.proofs.lemmas.Bool.{le-ltb, lt-ltb}
use Rattle.std.proofs.lemmas.List.{take_at, drop_at, length-append}
use Rattle.grasp_cbor.specs.Simple.{IsSimple}
use Rattle.grasp_cbor.specs.DataItem as item
use Rattle.grasp_cbor.specs.DataItem.{DataItem, DataItems, DataPairs, no_items, item_and, no_pairs, pair_and, data_items, data_pairs, items_in, pairs_in, item_count, pair_count, depth_of, items_depth, pairs_depth}
use Rattle.grasp_cbor.specs.Head.{HeadSize, direct, one_byte, two_bytes, four_bytes, eight_bytes, argument_limit, sized_head, IsHead, simple_head}
use Rattle.grasp_cbor.specs.Bytes.{joined}
use Rattle.grasp_cbor.specs.Encodes.{IsContent, IsDefiniteString, IsIndefiniteString, IsString, AreChunks, IsEncoding, AreEncodings, ArePairEncodings, string_major}
use Rattle.grasp_cbor.specs.Major.{major_number}
use Rattle.grasp_cbor.specs.declared.heads.Major.{Major}
use Rattle.grasp_cbor.specs.declared.heads.Major.TheVariants.{Unsigned, Negative, ByteString, TextString, Array, Map, Tag, Simple}
use Rattle.grasp_cbor.specs.declared.heads.Open.{Open}
use Rattle.grasp_cbor.specs.declared.heads.Open.TheVariants as form
use Rattle.grasp_cbor.specs.declared.heads.StringKind.{StringKind}
use Rattle.grasp_cbor.specs.declared.heads.StringKind.TheVariants as kinds
use Rattle.grasp_cbor.specs.declared.build.Parts.{Parts}
use Rattle.grasp_cbor.specs.Build.{Found, bytes_at, text_at, content_at, chunk_at, string_of, opened_by, until_break, open_with, alone, many_with, pair_with, nested_with, content_with, opened_with, item_with, nested_in, item_at}
use Rattle.grasp_cbor.proofs.HeadsRead.{argument_of, value_of-argument_of, head_again, head_closed}
use Rattle.grasp_cbor.proofs.Starts.{Starts, before, definite_starts, encoding_starts, no_break}

pub data_items-items_in : (ts : DataItems) → data_items (items_in ts) ≡ ts
data_items-items_in no_items = refl
data_items-items_in (item_and t ts) = ap (item_and t) (data_items-items_in ts)

pub items_in-data_items : (ts : List DataItem) → items_in (data_items ts) ≡ ts
items_in-data_items [] = refl
items_in-data_items (t ∷ ts) = ap (λ us. t ∷ us) (items_in-data_items ts)

pub data_pairs-pairs_in : (es : DataPairs) → data_pairs (pairs_in es) ≡ es
data_pairs-pairs_in no_pairs = refl
data_pairs-pairs_in (pair_and k v es) = ap (pair_and k v) (data_pairs-pairs_in es)

bytes_again : (bs rest : List ℕ) → bytes_at (length bs) (bs ++ rest) ≡ Some (bs, rest)
unfolding bytes_at
bytes_again bs rest =
    let long : ltb (length (bs ++ rest)) (length bs) ≡ false = le-ltb _ _ (omega (arith, length-append bs rest)) in
    rw (long, take_at bs rest (length bs) refl, drop_at bs rest (length bs) refl) refl

text_again : (bs rest : List ℕ) → IsUtf8 bs → text_at (length bs) (bs ++ rest) ≡ Some (bs, rest)
unfolding text_at
text_again bs rest h = rw (bytes_again bs rest, is_utf8-from_IsUtf8 bs h) refl

-- ---- what comes up to a break

module _ {X : Type 0} (one : List ℕ → Found (List X)) where
  break_here : (n : ℕ) (s rest : List ℕ) → s ≡ [] → length s < n → until_break one n (s ++ 255 ∷ rest) ≡ Some ([], rest)
  unfolding until_break
  break_here zero s rest e h = absurd (omega arith)
  break_here (suc n) s rest e h = rw e refl

  before_break : (n : ℕ) (x xs : List X) (first others s rest : List ℕ) → s ≡ first ++ others → Starts first → length s < n
      → one (first ++ (others ++ 255 ∷ rest)) ≡ Some (x, others ++ 255 ∷ rest)
      → ((m : ℕ) → length others < m → until_break one m (others ++ 255 ∷ rest) ≡ Some (xs, rest)) → until_break one n (s ++ 255 ∷ rest) ≡ Some (x ++ xs, rest)
  unfolding until_break
  before_break zero x xs first others s rest e st h p q = absurd (omega arith)
  before_break (suc n) x xs first others s rest e st h p q =
      let a : s ++ 255 ∷ rest ≡ first ++ (others ++ 255 ∷ rest) = ap (λ y. y ++ 255 ∷ rest) e ∙ append_assoc first others (255 ∷ rest) in
      let len : length s ≡ length first + length others = ap length e ∙ length-append first others in
      let some = ap length st.form in
      ap (until_break one (suc n)) a ∙ rw (no_break first (others ++ 255 ∷ rest) st, p, q n (omega arith)) refl

  -- from the first byte on
  opened : (xs : List X) (body rest : List ℕ) → ((n : ℕ) → length body < n → until_break one n (body ++ 255 ∷ rest) ≡ Some (xs, rest))
      → open_with one ((body ++ 255 ∷ []) ++ rest) ≡ Some (xs, rest)
  opened xs body rest f =
      ap (open_with one) (append_assoc body (255 ∷ []) rest) ∙ f (length (body ++ 255 ∷ rest)) (omega (arith, length-append body (255 ∷ rest)))

alone_again : {X : Type 0} (one : List ℕ → Found X) (s : List ℕ) (x : X) (rest : List ℕ) → one s ≡ Some (x, rest) → alone one s ≡ Some (x ∷ [], rest)
alone_again one s x rest e = rw e refl

-- ---- strings

abbrev major_of_kind : StringKind → Major
major_of_kind kinds.Bytes = ByteString
major_of_kind kinds.Text = TextString

pub content_again : (kind : StringKind) (bs rest : List ℕ) → IsContent kind bs → content_at kind (length bs) (bs ++ rest) ≡ Some (bs, rest)
content_again kinds.Bytes bs rest h = bytes_again bs rest
content_again kinds.Text bs rest h = text_again bs rest h

chunk_as : (kind : StringKind) (size : HeadSize) (bs rest : List ℕ) → length bs < argument_limit size → IsContent kind bs
    → chunk_at kind (sized_head size (string_major kind) (length bs) ++ (bs ++ rest)) ≡ Some (bs, rest)
unfolding chunk_at
chunk_as kinds.Bytes size bs rest lt h = rw (head_again size ByteString (length bs) (bs ++ rest) lt, value_of-argument_of size (length bs))
    (content_again kinds.Bytes bs rest h)
chunk_as kinds.Text size bs rest lt h = rw (head_again size TextString (length bs) (bs ++ rest) lt, value_of-argument_of size (length bs))
    (content_again kinds.Text bs rest h)

definite_form : (kind : StringKind) (bs s rest : List ℕ) → (h : IsDefiniteString kind bs s)
    → s ++ rest ≡ sized_head h.opens.0 (string_major kind) (length bs) ++ (bs ++ rest)
definite_form kind bs s rest h = ap (λ x. x ++ rest) h.form ∙ append_assoc h.head bs rest ∙ ap (λ x. x ++ (bs ++ rest)) h.opens.2

chunk_again : (kind : StringKind) (bs s rest : List ℕ) → IsDefiniteString kind bs s → chunk_at kind (s ++ rest) ≡ Some (bs, rest)
chunk_again kind bs s rest h = ap (chunk_at kind) (definite_form kind bs s rest h) ∙ chunk_as kind h.opens.0 bs rest h.opens.1 h.fine

chunks_again : (kind : StringKind) (cs : List (List ℕ)) (s rest : List ℕ) → AreChunks kind cs s → (n : ℕ) → length s < n
    → until_break (chunk_at kind) n (s ++ 255 ∷ rest) ≡ Some (joined cs, rest)
chunks_again kind [] s rest p n h = break_here (chunk_at kind) n s rest p h
chunks_again kind (c ∷ cs) s rest p n h =
    before_break (chunk_at kind) n c (joined cs) p.0 p.1 s rest p.4 (definite_starts kind c p.0 p.2) h (chunk_again kind c p.0 (p.1 ++ 255 ∷ rest) p.2)
    (chunks_again kind cs p.1 rest p.3)

-- ---- items

module _ (nested : Parts → List ℕ → Found DataItem) where
  -- a head, and what it leads to
  led : (major : Major) (n : ℕ) (head body s rest : List ℕ) (r : Found DataItem) → (h : IsHead (major_number major) n head) → s ≡ head ++ body → content_with nested major (argument_of h.0 n) (body ++ rest) ≡ r → item_with nested (s ++ rest) ≡ r
  unfolding item_with
  led major n head body s rest r h e c =
      ap (λ x. item_with nested (x ++ rest)) e ∙ ap (item_with nested) (append_assoc head body rest)
      ∙ ap (λ x. item_with nested (x ++ (body ++ rest))) h.2 ∙ rw (
        head_closed h.0 (major_number major) n (body ++ rest) h.1,
        head_again h.0 major n
            (body ++ rest) h.1,
      ) c

  -- a first byte of indefinite length, and what it leads to
  open_led : (o : Open) (b : ℕ) (body s rest : List ℕ) (r : Found DataItem) → opened_by b ≡ Some o → s ≡ b ∷ body → opened_with nested o (body ++ rest) ≡ r
      → item_with nested (s ++ rest) ≡ r
  unfolding item_with
  open_led o b body s rest r p e c = ap (λ x. item_with nested (x ++ rest)) e ∙ rw p c

  bare : (major : Major) (n : ℕ) (s rest : List ℕ) (r : Found DataItem) → (h : IsHead (major_number major) n s) → content_with nested major (argument_of h.0 n) rest ≡ r → item_with nested (s ++ rest) ≡ r
  bare major n s rest r h c = led major n s [] s rest r h (sym (append-nil s)) c

  unsigned_led : (n : ℕ) (s rest : List ℕ) → IsHead 0 n s → item_with nested (s ++ rest) ≡ Some (item.unsigned n, rest)
  unfolding content_with
  unsigned_led n s rest h = bare Unsigned n s rest _ h (ap (λ x. Some (item.unsigned x, rest)) (value_of-argument_of h.0 n))

  negative_led : (n : ℕ) (s rest : List ℕ) → IsHead 1 n s → item_with nested (s ++ rest) ≡ Some (item.negative n, rest)
  unfolding content_with
  negative_led n s rest h = bare Negative n s rest _ h (ap (λ x. Some (item.negative x, rest)) (value_of-argument_of h.0 n))

  bytes_led : (bs s rest : List ℕ) → IsDefiniteString kinds.Bytes bs s → item_with nested (s ++ rest) ≡ Some (item.byte_string bs, rest)
  unfolding content_with
  bytes_led bs s rest h = led ByteString (length bs) h.head bs s rest _ h.opens h.form
      (rw (value_of-argument_of h.opens.0 (length bs), bytes_again bs rest) refl)

  text_led : (bs s rest : List ℕ) → IsDefiniteString kinds.Text bs s → item_with nested (s ++ rest) ≡ Some (item.text_string bs, rest)
  unfolding content_with
  text_led bs s rest h = led TextString (length bs) h.head bs s rest _ h.opens h.form
      (rw (value_of-argument_of h.opens.0 (length bs), text_again bs rest h.fine) refl)

  opens_string : (kind : StringKind) → opened_by (32 * string_major kind + 31) ≡ Some (form.String kind)
  unfolding opened_by
  opens_string kinds.Bytes = refl
  opens_string kinds.Text = refl

  indefinite_led : (kind : StringKind) (bs s rest : List ℕ) → IsIndefiniteString kind bs s → item_with nested (s ++ rest) ≡ Some (string_of kind bs, rest)
  unfolding opened_with
  indefinite_led kind bs s rest h =
      let q : open_with (chunk_at kind) ((h.body ++ 255 ∷ []) ++ rest) ≡ Some (bs, rest) =
      opened (chunk_at kind) (joined h.chunks) h.body rest (chunks_again kind h.chunks h.body rest h.each)
      ∙ ap (λ (x : List ℕ). Some (x, rest)) (sym h.joins) in
      open_led (form.String kind) (32 * string_major kind + 31) (h.body ++ 255 ∷ []) s rest _ (opens_string kind) h.form (rw q refl)

  byte_string_led : (bs s rest : List ℕ) → IsString kinds.Bytes bs s → item_with nested (s ++ rest) ≡ Some (item.byte_string bs, rest)
  byte_string_led bs s rest (inl h) = bytes_led bs s rest h
  byte_string_led bs s rest (inr h) = indefinite_led kinds.Bytes bs s rest h

  text_string_led : (bs s rest : List ℕ) → IsString kinds.Text bs s → item_with nested (s ++ rest) ≡ Some (item.text_string bs, rest)
  text_string_led bs s rest (inl h) = text_led bs s rest h
  text_string_led bs s rest (inr h) = indefinite_led kinds.Text bs s rest h

  simple_led : (n : ℕ) (s rest : List ℕ) → IsSimple n → n < 2 ^ 8 → s ≡ simple_head n → item_with nested (s ++ rest) ≡ Some (item.simple_value n, rest)
  unfolding content_with
  simple_led n s rest (inl h) lt e = bare Simple n s rest _ (direct, h, e ∙ rw (lt-ltb n 24 h) refl) (rw (lt-ltb n 24 h) refl)
  simple_led n s rest (inr h) lt e =
      let e24 : ltb n 24 ≡ false = le-ltb n 24 (omega arith) in
      let e32 : ltb n 32 ≡ false = le-ltb n 32 h in
      bare Simple n s rest _ (one_byte, lt, e ∙ rw e24 refl) (rw (e32, e24) refl)

  half_led : (n : ℕ) (s rest : List ℕ) → n < 2 ^ 16 → s ≡ 249 ∷ to_be_bytes w16 n → item_with nested (s ++ rest) ≡ Some (item.half_float n, rest)
  unfolding content_with
  half_led n s rest lt e = bare Simple n s rest _ (two_bytes, lt, e) refl

  single_led : (n : ℕ) (s rest : List ℕ) → n < 2 ^ 32 → s ≡ 250 ∷ to_be_bytes w32 n → item_with nested (s ++ rest) ≡ Some (item.single_float n, rest)
  unfolding content_with
  single_led n s rest lt e = bare Simple n s rest _ (four_bytes, lt, e) refl

  double_led : (n : ℕ) (s rest : List ℕ) → n < 2 ^ 64 → s ≡ 251 ∷ to_be_bytes w64 n → item_with nested (s ++ rest) ≡ Some (item.double_float n, rest)
  unfolding content_with
  double_led n s rest lt e = bare Simple n s rest _ (eight_bytes, lt, e) refl

-- the parts are read by part
module _ (part : List ℕ → Found DataItem) where
  array_led : (ts : DataItems) (head body s rest : List ℕ) → IsHead 4 (item_count ts) head → s ≡ head ++ body → many_with part (item_count ts) (body ++ rest) ≡ Some (items_in ts, rest) → item_with (nested_with part) (s ++ rest) ≡ Some (item.array ts, rest)
  unfolding content_with nested_with
  array_led ts head body s rest h e q = led (nested_with part) Array (item_count ts) head body s rest _ h e (rw (value_of-argument_of h.0 (item_count ts), q, data_items-items_in ts) refl)

  mapping_led : (es : DataPairs) (head body s rest : List ℕ) → IsHead 5 (pair_count es) head → s ≡ head ++ body → many_with (pair_with part) (pair_count es) (body ++ rest) ≡ Some (pairs_in es, rest) → item_with (nested_with part) (s ++ rest) ≡ Some (item.mapping es, rest)
  unfolding content_with nested_with
  mapping_led es head body s rest h e q = led (nested_with part) Map (pair_count es) head body s rest _ h e (rw (value_of-argument_of h.0 (pair_count es), q, data_pairs-pairs_in es) refl)

  tag_led : (n : ℕ) (t : DataItem) (head body s rest : List ℕ) → IsHead 6 n head → s ≡ head ++ body → part (body ++ rest) ≡ Some (t, rest) → item_with (nested_with part) (s ++ rest) ≡ Some (item.tagged n t, rest)
  unfolding content_with nested_with
  tag_led n t head body s rest h e q = led (nested_with part) Tag n head body s rest _ h e (rw (value_of-argument_of h.0 n, q) refl)

  open_array_led : (ts : DataItems) (body s rest : List ℕ) → s ≡ 159 ∷ (body ++ 255 ∷ [])
      → ((n : ℕ) → length body < n → until_break (alone part) n (body ++ 255 ∷ rest) ≡ Some (items_in ts, rest))
      → item_with (nested_with part) (s ++ rest) ≡ Some (item.array ts, rest)
  unfolding opened_with nested_with opened_by
  open_array_led ts body s rest e f =
      open_led (nested_with part) form.Items 159 (body ++ 255 ∷ []) s rest _ refl e
      (rw (opened (alone part) (items_in ts) body rest f, data_items-items_in ts) refl)

  open_mapping_led : (es : DataPairs) (body s rest : List ℕ) → s ≡ 191 ∷ (body ++ 255 ∷ [])
      → ((n : ℕ) → length body < n → until_break (alone (pair_with part)) n (body ++ 255 ∷ rest) ≡ Some (pairs_in es, rest))
      → item_with (nested_with part) (s ++ rest) ≡ Some (item.mapping es, rest)
  unfolding opened_with nested_with opened_by
  open_mapping_led es body s rest e f =
      open_led (nested_with part) form.Pairs 191 (body ++ 255 ∷ []) s rest _ refl e
      (rw (opened (alone (pair_with part)) (pairs_in es) body rest f, data_pairs-pairs_in es) refl)

module _ {X : Type 0} (one : List ℕ → Found X) where
  many_none : (s rest : List ℕ) → s ≡ [] → many_with one 0 (s ++ rest) ≡ Some ([], rest)
  unfolding many_with
  many_none s rest e = rw e refl

  many_more : (n : ℕ) (x : X) (xs : List X) (first others s rest : List ℕ) → s ≡ first ++ others → one (first ++ (others ++ rest)) ≡ Some (x, others ++ rest) → many_with one n (others ++ rest) ≡ Some (xs, rest) → many_with one (n + 1) (s ++ rest) ≡ Some (x ∷ xs, rest)
  unfolding many_with
  many_more n x xs first others s rest e p q =
      ap (λ y. many_with one (n + 1) (y ++ rest)) e ∙ ap (many_with one (n + 1)) (append_assoc first others rest) ∙ rw (add-one, p, q) refl

pair_again : (part : List ℕ → Found DataItem) (k v : DataItem) (key value rest : List ℕ) → part (key ++ (value ++ rest)) ≡ Some (k, value ++ rest) → part (value ++ rest) ≡ Some (v, rest) → pair_with part ((key ++ value) ++ rest) ≡ Some ((k, v), rest)
unfolding pair_with
pair_again part k v key value rest p q = ap (pair_with part) (append_assoc key value rest) ∙ rw (p, q) refl

pair_starts : (k : DataItem) (key value : List ℕ) → IsEncoding k key → Starts (key ++ value)
pair_starts k key value h = before (key ++ value) key value (encoding_starts k key h) refl

-- an item with parts is one deeper at least
at_room : (d k : ℕ) (s : List ℕ) (r : Found DataItem) → k + 1 ≤ d → ((e : ℕ) → k ≤ e → item_with (nested_with (item_at e)) s ≡ r) → item_at d s ≡ r
unfolding item_at nested_in
at_room zero k s r h f = absurd (omega arith)
at_room (suc d) k s r h f = f d (omega arith)

at_any : (d : ℕ) (s : List ℕ) (r : Found DataItem) → item_with (nested_in d) s ≡ r → item_at d s ≡ r
unfolding item_at
at_any d s r e = e

mutual
  pub item_again : (t : DataItem) (d : ℕ) (s rest : List ℕ) → IsEncoding t s → depth_of t ≤ d → item_at d (s ++ rest) ≡ Some (t, rest)
  item_again (item.unsigned n) d s rest p h = at_any d (s ++ rest) _ (unsigned_led (nested_in d) n s rest p)
  item_again (item.negative n) d s rest p h = at_any d (s ++ rest) _ (negative_led (nested_in d) n s rest p)
  item_again (item.byte_string bs) d s rest p h = at_any d (s ++ rest) _ (byte_string_led (nested_in d) bs s rest p)
  item_again (item.text_string bs) d s rest p h = at_any d (s ++ rest) _ (text_string_led (nested_in d) bs s rest p)
  item_again (item.array ts) d s rest (inl p) h = at_room d (items_depth ts) (s ++ rest) _ h
      (λ e le. array_led (item_at e) ts p.0 p.1 s rest p.2 p.4 (items_again ts e p.1 rest p.3 le))
  item_again (item.array ts) d s rest (inr p) h = at_room d (items_depth ts) (s ++ rest) _ h
      (λ e le. open_array_led (item_at e) ts p.0 s rest p.2 (open_items_again ts e p.0 rest p.1 le))
  item_again (item.mapping es) d s rest (inl p) h = at_room d (pairs_depth es) (s ++ rest) _ h
      (λ e le. mapping_led (item_at e) es p.0 p.1 s rest p.2 p.4 (pairs_again es e p.1 rest p.3 le))
  item_again (item.mapping es) d s rest (inr p) h = at_room d (pairs_depth es) (s ++ rest) _ h
      (λ e le. open_mapping_led (item_at e) es p.0 s rest p.2 (open_pairs_again es e p.0 rest p.1 le))
  item_again (item.tagged n t) d s rest p h = at_room d (depth_of t) (s ++ rest) _ h (λ e le. tag_led (item_at e) n t p.0 p.1 s rest p.2 p.4 (item_again t e p.1 rest p.3 le))
  item_again (item.simple_value n) d s rest p h = at_any d (s ++ rest) _ (simple_led (nested_in d) n s rest p.0 p.1 p.2)
  item_again (item.half_float n) d s rest p h = at_any d (s ++ rest) _ (half_led (nested_in d) n s rest p.0 p.1)
  item_again (item.single_float n) d s rest p h = at_any d (s ++ rest) _ (single_led (nested_in d) n s rest p.0 p.1)
  item_again (item.double_float n) d s rest p h = at_any d (s ++ rest) _ (double_led (nested_in d) n s rest p.0 p.1)

  items_again : (ts : DataItems) (d : ℕ) (s rest : List ℕ) → AreEncodings ts s → items_depth ts ≤ d → many_with (item_at d) (item_count ts) (s ++ rest) ≡ Some (items_in ts, rest)
  items_again no_items d s rest p h = many_none (item_at d) s rest p
  items_again (item_and t ts) d s rest p h =
      many_more (item_at d) (item_count ts) t (items_in ts) p.0 p.1 s rest p.4
      (item_again t d p.0 (p.1 ++ rest) p.2 (omega arith))
      (items_again ts d p.1 rest p.3 (omega arith))

  pairs_again : (es : DataPairs) (d : ℕ) (s rest : List ℕ) → ArePairEncodings es s → pairs_depth es ≤ d → many_with (pair_with (item_at d)) (pair_count es) (s ++ rest) ≡ Some (pairs_in es, rest)
  pairs_again no_pairs d s rest p h = many_none (pair_with (item_at d)) s rest p
  pairs_again (pair_and k v es) d s rest p h =
      many_more (pair_with (item_at d)) (pair_count es) (k, v) (pairs_in es) (p.0 ++ p.1) p.2 s rest p.6
      (pair_again (item_at d) k v p.0 p.1 (p.2 ++ rest)
      (item_again k d p.0 (p.1 ++ (p.2 ++ rest)) p.3 (omega arith))
      (item_again v d p.1 (p.2 ++ rest) p.4 (omega arith)))
      (pairs_again es d p.2 rest p.5 (omega arith))

  open_items_again : (ts : DataItems) (d : ℕ) (s rest : List ℕ) → AreEncodings ts s → items_depth ts ≤ d → (n : ℕ) → length s < n
      → until_break (alone (item_at d)) n (s ++ 255 ∷ rest) ≡ Some (items_in ts, rest)
  open_items_again no_items d s rest p h n l = break_here (alone (item_at d)) n s rest p l
  open_items_again (item_and t ts) d s rest p h n l =
      before_break (alone (item_at d)) n (t ∷ []) (items_in ts) p.0 p.1 s rest p.4 (encoding_starts t p.0 p.2) l
      (alone_again (item_at d) (p.0 ++ (p.1 ++ 255 ∷ rest)) t (p.1 ++ 255 ∷ rest) (item_again t d p.0 (p.1 ++ 255 ∷ rest) p.2 (omega arith)))
      (open_items_again ts d p.1 rest p.3 (omega arith))

  open_pairs_again : (es : DataPairs) (d : ℕ) (s rest : List ℕ) → ArePairEncodings es s → pairs_depth es ≤ d → (n : ℕ) → length s < n
      → until_break (alone (pair_with (item_at d))) n (s ++ 255 ∷ rest) ≡ Some (pairs_in es, rest)
  open_pairs_again no_pairs d s rest p h n l = break_here (alone (pair_with (item_at d))) n s rest p l
  open_pairs_again (pair_and k v es) d s rest p h n l =
      before_break (alone (pair_with (item_at d))) n ((k, v) ∷ []) (pairs_in es) (p.0 ++ p.1) p.2 s rest p.6 (pair_starts k p.0 p.1 p.3) l
      (alone_again (pair_with (item_at d)) ((p.0 ++ p.1) ++ (p.2 ++ 255 ∷ rest)) (k, v) (p.2 ++ 255 ∷ rest)
      (pair_again (item_at d) k v p.0 p.1 (p.2 ++ 255 ∷ rest)
      (item_again k d p.0 (p.1 ++ (p.2 ++ 255 ∷ rest)) p.3 (omega arith))
      (item_again v d p.1 (p.2 ++ 255 ∷ rest) p.4 (omega arith))))
      (open_pairs_again es d p.2 rest p.5 (omega arith))
