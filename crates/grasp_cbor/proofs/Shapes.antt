-- An item is a head and what the head says, and that is an item.
use Rattle.std.proofs.Common.{◌≡◌, ◌⊎◌, ℕ, ◌+◌, ◌-◌, ◌*◌, ◌^◌, ◌<◌, ◌≤◌, false, ltb, List, [], ◌∷◌, ◌++◌, length, Option, Some, None, refl, sym, ap, subst, ◌∙◌, append_assoc, append-nil, inl, inr, arith}
use Rattle.std.specs.Str.{IsUtf8}
use Rattle.std.proofs.lemmas.Bool.{lt-ltb, le-ltb}
use Rattle.grasp_cbor.specs.Major.{major_number, major_of}
use Rattle.grasp_cbor.specs.Simple.{IsSimple}
use Rattle.grasp_cbor.specs.DataItem as item
use Rattle.grasp_cbor.specs.DataItem.{DataItem, DataItems, DataPairs, no_items, item_and, no_pairs, pair_and}
use Rattle.grasp_cbor.specs.Head.{HeadSize, direct, one_byte, two_bytes, four_bytes, eight_bytes, argument_limit, sized_head, IsHead, simple_head}
use Rattle.grasp_cbor.specs.DataItem.{item_count, pair_count, depth_of, items_depth, pairs_depth}
use Rattle.grasp_cbor.specs.Encodes.{IsEncoding, AreEncodings, ArePairEncodings, string_major, IsDefiniteString, AreChunks, IsIndefiniteString}
use Rattle.grasp_cbor.specs.Bytes.{joined}
use Rattle.grasp_cbor.specs.declared.heads.StringKind.{StringKind}
use Rattle.grasp_cbor.specs.declared.heads.StringKind.TheVariants.{Bytes, Text}
use Rattle.grasp_cbor.specs.declared.heads.Major.{Major}
use Rattle.grasp_cbor.specs.declared.heads.Major.TheVariants.{Unsigned, Negative, ByteString, TextString, Array, Map, Tag, Simple}
use Rattle.grasp_cbor.specs.CanGoOn.{IsItem, AreItems}
use Rattle.grasp_cbor.specs.Front.{Body, nothing, some_bytes, some_text, some_parts, body_of, IsSimpleHead, IsFine, IsHeadOf, OpensParts, MayBegin}
use Rattle.grasp_cbor.proofs.Majors.{major_of-major_number}

-- rows of parts: so many, or up to a break, or in pairs up to a break
pub data Sort : Type 0 where
  parts : ℕ → Sort
  items : Sort
  pairs : Sort

abbrev pub Counts : Sort → ℕ → Type 0
Counts (parts n) k = k ≡ n
Counts items k = Unit {0}
Counts pairs k = (half : ℕ) × (k ≡ 2 * half)

abbrev pub closing : Sort → List ℕ
closing (parts n) = []
closing items = 255 ∷ []
closing pairs = 255 ∷ []

abbrev pub OpensRow : Sort → List ℕ → Type 0
OpensRow (parts n) s = OpensParts n s
OpensRow items s = s ≡ 159 ∷ []
OpensRow pairs s = s ≡ 191 ∷ []

pub record IsRow (depth : ℕ) (sort : Sort) (s : List ℕ) : Type 0 where
  pub below : ℕ
  pub row : List (List ℕ)
  pub room : depth ≡ below + 1
  pub each : AreItems below row
  pub counts : Counts sort (length row)
  pub form : s ≡ joined row ++ closing sort

-- rows of chunks
abbrev pub IsChunk : StringKind → List ℕ → Type 0
IsChunk kind w = (content : List ℕ) × IsDefiniteString kind content w

abbrev pub ChunkRow : StringKind → List (List ℕ) → Type 0
ChunkRow kind [] = Unit {0}
ChunkRow kind (w ∷ ws) = IsChunk kind w × ChunkRow kind ws

pub record IsChunks (kind : StringKind) (s : List ℕ) : Type 0 where
  pub row : List (List ℕ)
  pub each : ChunkRow kind row
  pub form : s ≡ joined row ++ 255 ∷ []

-- what a head says
abbrev pub Fills : ℕ → Body → List ℕ → Type 0
Fills depth nothing s = s ≡ []
Fills depth (some_bytes n) s = length s ≡ n
Fills depth (some_text n) s = (length s ≡ n) × IsUtf8 s
Fills depth (some_parts n) s = IsRow depth (parts n) s

-- what has indefinite length
pub data Endless : Type 0 where
  chunks : StringKind → Endless
  item_row : Endless
  pair_row : Endless

abbrev pub endless_byte : Endless → ℕ
endless_byte (chunks kind) = 32 * string_major kind + 31
endless_byte item_row = 159
endless_byte pair_row = 191

-- what begins an item
pub data Opening : Type 0 where
  counted : Major → ℕ → Opening
  endless : Endless → Opening

abbrev pub IsOpening : Opening → List ℕ → Type 0
IsOpening (counted major n) s = IsHeadOf major n s
IsOpening (endless e) s = s ≡ endless_byte e ∷ []

abbrev pub Contents : ℕ → Opening → List ℕ → Type 0
Contents depth (counted major n) s = Fills depth (body_of major n) s
Contents depth (endless (chunks kind)) s = IsChunks kind s
Contents depth (endless item_row) s = IsRow depth items s
Contents depth (endless pair_row) s = IsRow depth pairs s

pub record IsHeaded (depth : ℕ) (s : List ℕ) : Type 0 where
  pub opening : Opening
  pub first : List ℕ
  pub rest : List ℕ
  pub opens : IsOpening opening first
  pub fills : Contents depth opening rest
  pub form : s ≡ first ++ rest

-- an item, or a chunk in a string of indefinite length
abbrev pub IsPiece : Option StringKind → ℕ → List ℕ → Type 0
IsPiece None depth w = IsItem depth w
IsPiece (Some kind) depth w = IsChunk kind w

-- ---- chunks

pub chunk_row : (kind : StringKind) (cs : List (List ℕ)) (s : List ℕ) → AreChunks kind cs s → (ws : List (List ℕ)) × ChunkRow kind ws × (s ≡ joined ws)
chunk_row kind [] s h = ([], tt, h)
chunk_row kind (c ∷ cs) s h =
    let r = chunk_row kind cs h.1 h.3 in
    (h.0 ∷ r.0, ((c, h.2), r.1), h.4 ∙ ap (λ y. h.0 ++ y) r.2)

pub chunk_list : (kind : StringKind) (ws : List (List ℕ)) → ChunkRow kind ws → (cs : List (List ℕ)) × AreChunks kind cs (joined ws)
chunk_list kind [] h = ([], refl)
chunk_list kind (w ∷ ws) h =
    let r = chunk_list kind ws h.1 in
    (h.0.0 ∷ r.0, (w, joined ws, h.0.1, r.1, refl))

pub ChunkRow-append : (kind : StringKind) (xs ys : List (List ℕ)) → ChunkRow kind xs → ChunkRow kind ys → ChunkRow kind (xs ++ ys)
ChunkRow-append kind [] ys h k = k
ChunkRow-append kind (x ∷ xs) ys h k = (h.0, ChunkRow-append kind xs ys h.1 k)

-- ---- from trees

abbrev Rows : ℕ → ℕ → List ℕ → Type 0
Rows d n s = (ws : List (List ℕ)) × AreItems d ws × (length ws ≡ n) × (s ≡ joined ws)

an_item : (t : DataItem) (d : ℕ) (s : List ℕ) → IsEncoding t s → depth_of t ≤ d → IsItem d s
an_item t d s p h = record { item = t; encoding = p; within = h }

row_of : (ts : DataItems) (d : ℕ) (s : List ℕ) → AreEncodings ts s → items_depth ts ≤ d → Rows d (item_count ts) s
row_of no_items d s p h = ([], tt, refl, p)
row_of (item_and t ts) d s p h =
    let r = row_of ts d p.1 p.3 (omega arith) in
    (p.0 ∷ r.0, (an_item t d p.0 p.2 (omega arith), r.1), omega (arith, r.2), p.4 ∙ ap (λ y. p.0 ++ y) r.3)

pairs_of : (es : DataPairs) (d : ℕ) (s : List ℕ) → ArePairEncodings es s → pairs_depth es ≤ d → Rows d (2 * pair_count es) s
pairs_of no_pairs d s p h = ([], tt, refl, p)
pairs_of (pair_and k v es) d s p h =
    let r = pairs_of es d p.2 p.5 (omega arith) in
    (p.0 ∷ p.1 ∷ r.0, (an_item k d p.0 p.3 (omega arith), (an_item v d p.1 p.4 (omega arith), r.1)), omega (arith, r.2), p.6 ∙ append_assoc p.0 p.1 p.2 ∙ ap (λ y. p.0 ++ (p.1 ++ y)) r.3)

row_is : (depth below n m : ℕ) (s : List ℕ) → depth ≡ below + 1 → m ≡ n → Rows below m s → IsRow depth (parts n) s
row_is depth below n m s e q r = record { below = below; row = r.0; room = e; each = r.1; counts = r.2 ∙ q; form = r.3 ∙ sym (append-nil (joined r.0)) }

endless_row : (depth below m : ℕ) (sort : Sort) (s t : List ℕ) → depth ≡ below + 1 → Counts sort m → Rows below m s → t ≡ s ++ closing sort → IsRow depth sort t
endless_row depth below m sort s t e c r f = record { below = below; row = r.0; room = e; each = r.1; counts = subst (Counts sort) (sym r.2) c; form = f ∙ ap (λ y. y ++ closing sort) r.3 }

by_head : (major : Major) (n depth : ℕ) (head rest s : List ℕ) → IsHead (major_number major) n head → ((size : HeadSize) → IsFine major size n) → Fills depth (body_of major n) rest → s ≡ head ++ rest → IsHeaded depth s
by_head major n depth head rest s h f fill e = record { opening = counted major n; first = head; rest = rest; opens = record { size = h.0; fits = h.1; fine = f h.0; form = h.2 }; fills = fill; form = e }

plain_by : (size : HeadSize) (n depth : ℕ) (s : List ℕ) → n < argument_limit size → IsSimpleHead size n → s ≡ sized_head size 7 n → IsHeaded depth s
plain_by size n depth s lt f e = record { opening = counted Simple n; first = s; rest = []; opens = record { size = size; fits = lt; fine = f; form = e }; fills = refl; form = sym (append-nil s) }

simple_headed : (n depth : ℕ) (s : List ℕ) → IsSimple n → n < 2 ^ 8 → s ≡ simple_head n → IsHeaded depth s
simple_headed n depth s (inl h) lt e = plain_by direct n depth s h tt (e ∙ rw (lt-ltb n 24 h) refl)
simple_headed n depth s (inr h) lt e =
    let big : ltb n 24 ≡ false = le-ltb n 24 (omega arith) in
    plain_by one_byte n depth s lt h (e ∙ rw big refl)

by_chunks : (kind : StringKind) (depth : ℕ) (content s : List ℕ) → IsIndefiniteString kind content s → IsHeaded depth s
by_chunks kind depth content s p =
    let r = chunk_row kind p.chunks p.body p.each in
    record { opening = endless (chunks kind); first = (32 * string_major kind + 31) ∷ []; rest = p.body ++ 255 ∷ []; opens = refl; fills = record { row = r.0; each = r.1; form = ap (λ y. y ++ 255 ∷ []) r.2 }; form = p.form }

headed_by : (t : DataItem) (depth : ℕ) (s : List ℕ) → IsEncoding t s → depth_of t ≤ depth → IsHeaded depth s
headed_by (item.unsigned n) depth s p h = by_head Unsigned n depth s [] s p (λ _. tt) refl (sym (append-nil s))
headed_by (item.negative n) depth s p h = by_head Negative n depth s [] s p (λ _. tt) refl (sym (append-nil s))
headed_by (item.byte_string bs) depth s (inl p) h = by_head ByteString (length bs) depth p.head bs s p.opens (λ _. tt) refl p.form
headed_by (item.byte_string bs) depth s (inr p) h = by_chunks Bytes depth bs s p
headed_by (item.text_string bs) depth s (inl p) h = by_head TextString (length bs) depth p.head bs s p.opens (λ _. tt) (refl, p.fine) p.form
headed_by (item.text_string bs) depth s (inr p) h = by_chunks Text depth bs s p
headed_by (item.array ts) depth s (inl p) h =
    by_head Array (item_count ts) depth p.0 p.1 s p.2 (λ _. tt) (row_is depth (depth - 1) (item_count ts) (item_count ts) p.1 (omega arith) refl (row_of ts (depth - 1) p.1 p.3 (omega arith))) p.4
headed_by (item.array ts) depth s (inr p) h =
    record { opening = endless item_row; first = 159 ∷ []; rest = p.0 ++ 255 ∷ []; opens = refl; fills = endless_row depth (depth - 1) (item_count ts) items p.0 _ (omega arith) tt (row_of ts (depth - 1) p.0 p.1 (omega arith)) refl; form = p.2 }
headed_by (item.mapping es) depth s (inl p) h =
    by_head Map (pair_count es) depth p.0 p.1 s p.2 (λ _. tt) (row_is depth (depth - 1) (2 * pair_count es) (2 * pair_count es) p.1 (omega arith) refl (pairs_of es (depth - 1) p.1 p.3 (omega arith))) p.4
headed_by (item.mapping es) depth s (inr p) h =
    record { opening = endless pair_row; first = 191 ∷ []; rest = p.0 ++ 255 ∷ []; opens = refl; fills = endless_row depth (depth - 1) (2 * pair_count es) pairs p.0 _ (omega arith) (pair_count es, refl) (pairs_of es (depth - 1) p.0 p.1 (omega arith)) refl; form = p.2 }
headed_by (item.tagged n t) depth s p h =
    by_head Tag n depth p.0 p.1 s p.2 (λ _. tt) (row_is depth (depth - 1) 1 1 p.1 (omega arith) refl (p.1 ∷ [], (an_item t (depth - 1) p.1 p.3 (omega arith), tt), refl, sym (append-nil p.1))) p.4
headed_by (item.simple_value n) depth s p h = simple_headed n depth s p.0 p.1 p.2
headed_by (item.half_float n) depth s p h = plain_by two_bytes n depth s p.0 tt p.1
headed_by (item.single_float n) depth s p h = plain_by four_bytes n depth s p.0 tt p.1
headed_by (item.double_float n) depth s p h = plain_by eight_bytes n depth s p.0 tt p.1

pub headed : (depth : ℕ) (s : List ℕ) → IsItem depth s → IsHeaded depth s
headed depth s i = headed_by i.item depth s i.encoding i.within

-- ---- to trees

unrow : (ws : List (List ℕ)) (d : ℕ) → AreItems d ws → (ts : DataItems) × AreEncodings ts (joined ws) × (items_depth ts ≤ d) × (item_count ts ≡ length ws)
unrow [] d h = (no_items, refl, omega arith, refl)
unrow (w ∷ ws) d h =
    let r = unrow ws d h.1 in
    let i = h.0 in
    let a : depth_of i.item ≤ d = i.within in
    let b : items_depth r.0 ≤ d = r.2 in
    (item_and i.item r.0, (w, joined ws, i.encoding, r.1, refl), omega arith, omega (arith, r.3))

unpairs : (ws : List (List ℕ)) (n d : ℕ) → AreItems d ws → length ws ≡ 2 * n → (es : DataPairs) × ArePairEncodings es (joined ws) × (pairs_depth es ≤ d) × (pair_count es ≡ n)
unpairs [] n d h e = (no_pairs, refl, omega arith, omega arith)
unpairs (v ∷ []) n d h e = absurd (omega arith)
unpairs (v ∷ w ∷ ws) n d h e =
    let r = unpairs ws (n - 1) d h.1.1 (omega arith) in
    let i = h.0 in
    let j = h.1.0 in
    let a : depth_of i.item ≤ d = i.within in
    let b : depth_of j.item ≤ d = j.within in
    let c : pairs_depth r.0 ≤ d = r.2 in
    (pair_and i.item j.item r.0, (v, w, joined ws, i.encoding, j.encoding, r.1, sym (append_assoc v w (joined ws))), omega arith, omega (arith, r.3))

-- a head of some kind
is_head : (major : Major) (n m : ℕ) (s : List ℕ) → IsHeadOf major n s → n ≡ m → IsHead (major_number major) m s
is_head major n m s h e = subst (λ k. IsHead (major_number major) k s) e (h.size, h.fits, h.form)

plain_item : (size : HeadSize) (n depth : ℕ) (s : List ℕ) → n < argument_limit size → IsSimpleHead size n → s ≡ sized_head size 7 n → IsItem depth s
plain_item direct n depth s lt f e = an_item (item.simple_value n) depth s (inl lt, omega arith, e ∙ rw (lt-ltb n 24 lt) refl) (omega arith)
plain_item one_byte n depth s lt f e =
    let big : ltb n 24 ≡ false = le-ltb n 24 (omega arith) in
    an_item (item.simple_value n) depth s (inr f, lt, e ∙ rw big refl) (omega arith)
plain_item two_bytes n depth s lt f e = an_item (item.half_float n) depth s (lt, e) (omega arith)
plain_item four_bytes n depth s lt f e = an_item (item.single_float n) depth s (lt, e) (omega arith)
plain_item eight_bytes n depth s lt f e = an_item (item.double_float n) depth s (lt, e) (omega arith)

tag_item : (ws : List (List ℕ)) (n depth below : ℕ) (head rest s : List ℕ) → IsHeadOf Tag n head → depth ≡ below + 1 → AreItems below ws → length ws ≡ 1 → rest ≡ joined ws → s ≡ head ++ rest → IsItem depth s
tag_item [] n depth below head rest s h q a c f e = absurd (omega arith)
tag_item (v ∷ w ∷ ws) n depth below head rest s h q a c f e = absurd (omega arith)
tag_item (w ∷ []) n depth below head rest s h q a c f e =
    let i = a.0 in
    let k : depth_of i.item ≤ below = i.within in
    an_item (item.tagged n i.item) depth s (head, w, is_head Tag n n head h refl, i.encoding, e ∙ ap (λ y. head ++ y) (f ∙ append-nil w)) (omega arith)

item_by : (major : Major) (n depth : ℕ) (head rest s : List ℕ) → IsHeadOf major n head → Fills depth (body_of major n) rest → s ≡ head ++ rest → IsItem depth s
item_by Unsigned n depth head rest s h f e = an_item (item.unsigned n) depth s (is_head Unsigned n n s (subst (λ y. IsHeadOf Unsigned n y) (sym (e ∙ ap (λ y. head ++ y) f ∙ append-nil head)) h) refl) (omega arith)
item_by Negative n depth head rest s h f e = an_item (item.negative n) depth s (is_head Negative n n s (subst (λ y. IsHeadOf Negative n y) (sym (e ∙ ap (λ y. head ++ y) f ∙ append-nil head)) h) refl) (omega arith)
item_by ByteString n depth head rest s h f e = an_item (item.byte_string rest) depth s (inl (record { head = head; opens = is_head ByteString n (length rest) head h (sym f); fine = tt; form = e })) (omega arith)
item_by TextString n depth head rest s h f e = an_item (item.text_string rest) depth s (inl (record { head = head; opens = is_head TextString n (length rest) head h (sym f.0); fine = f.1; form = e })) (omega arith)
item_by Array n depth head rest s h f e =
    let r = unrow f.row f.below f.each in
    let k : items_depth r.0 ≤ f.below = r.2 in
    let q : depth ≡ f.below + 1 = f.room in
    an_item (item.array r.0) depth s (inl (head, joined f.row, is_head Array n (item_count r.0) head h (sym (r.3 ∙ f.counts)), r.1, e ∙ ap (λ y. head ++ y) (f.form ∙ append-nil (joined f.row)))) (omega arith)
item_by Map n depth head rest s h f e =
    let r = unpairs f.row n f.below f.each f.counts in
    let k : pairs_depth r.0 ≤ f.below = r.2 in
    let q : depth ≡ f.below + 1 = f.room in
    an_item (item.mapping r.0) depth s (inl (head, joined f.row, is_head Map n (pair_count r.0) head h (sym r.3), r.1, e ∙ ap (λ y. head ++ y) (f.form ∙ append-nil (joined f.row)))) (omega arith)
item_by Tag n depth head rest s h f e = tag_item f.row n depth f.below head rest s h f.room f.each f.counts (f.form ∙ append-nil (joined f.row)) e
item_by Simple n depth head rest s h f e = plain_item h.size n depth s h.fits h.fine (e ∙ ap (λ y. head ++ y) f ∙ append-nil head ∙ h.form)

pub item_of : (major : Major) (n depth : ℕ) (head rest s : List ℕ) → IsHeadOf major n head → Fills depth (body_of major n) rest → s ≡ head ++ rest → IsItem depth s
item_of = item_by

-- a row and what opens it
pub row_item : (sort : Sort) (depth : ℕ) (first rest s : List ℕ) → OpensRow sort first → IsRow depth sort rest → s ≡ first ++ rest → IsItem depth s
row_item (parts n) depth first rest s o r e = item_by o.major o.n depth first rest s o.head (subst (λ b. Fills depth b rest) (sym o.counted) r) e
row_item items depth first rest s o f e =
    let r = unrow f.row f.below f.each in
    let k : items_depth r.0 ≤ f.below = r.2 in
    let q : depth ≡ f.below + 1 = f.room in
    an_item (item.array r.0) depth s (inr (joined f.row, r.1, e ∙ (λ i. o i ++ f.form i))) (omega arith)
row_item pairs depth first rest s o f e =
    let r = unpairs f.row f.counts.0 f.below f.each f.counts.1 in
    let k : pairs_depth r.0 ≤ f.below = r.2 in
    let q : depth ≡ f.below + 1 = f.room in
    an_item (item.mapping r.0) depth s (inr (joined f.row, r.1, e ∙ (λ i. o i ++ f.form i))) (omega arith)

-- ---- strings

string_item : (kind : StringKind) (depth : ℕ) (content s : List ℕ) → IsDefiniteString kind content s ⊎ IsIndefiniteString kind content s → IsItem depth s
string_item Bytes depth content s h = an_item (item.byte_string content) depth s h (omega arith)
string_item Text depth content s h = an_item (item.text_string content) depth s h (omega arith)

-- a string of indefinite length and its chunks
pub chunks_item : (kind : StringKind) (depth : ℕ) (rest s : List ℕ) → IsChunks kind rest → s ≡ (32 * string_major kind + 31) ∷ rest → IsItem depth s
chunks_item kind depth rest s c e =
    let l = chunk_list kind c.row c.each in
    string_item kind depth (joined l.0) s (inr (record { chunks = l.0; body = joined c.row; each = l.1; joins = refl; form = e ∙ ap (λ y. (32 * string_major kind + 31) ∷ y) c.form }))

pub chunk_item : (kind : StringKind) (depth : ℕ) (w : List ℕ) → IsChunk kind w → IsItem depth w
chunk_item kind depth w c = string_item kind depth c.0 w (inl c.1)

pub chunk_items : (kind : StringKind) (depth : ℕ) (ws : List (List ℕ)) → ChunkRow kind ws → AreItems depth ws
chunk_items kind depth [] h = tt
chunk_items kind depth (w ∷ ws) h = (chunk_item kind depth w h.0, chunk_items kind depth ws h.1)

pub piece_item : (string : Option StringKind) (depth : ℕ) (w : List ℕ) → IsPiece string depth w → IsItem depth w
piece_item None depth w p = p
piece_item (Some kind) depth w p = chunk_item kind depth w p

-- the major type of a kind of string
abbrev pub kind_major : StringKind → Major
kind_major Bytes = ByteString
kind_major Text = TextString

major_of_kind : (kind : StringKind) → major_of (string_major kind) ≡ kind_major kind
unfolding major_of
major_of_kind Bytes = refl
major_of_kind Text = refl

pub major_is : (major : Major) (kind : StringKind) → major_number major ≡ string_major kind → major ≡ kind_major kind
major_is major kind e = sym (major_of-major_number major) ∙ ap major_of e ∙ major_of_kind kind

a_chunk : (kind : StringKind) (n depth : ℕ) (head rest s : List ℕ) → IsHeadOf (kind_major kind) n head → Fills depth (body_of (kind_major kind) n) rest → s ≡ head ++ rest → IsChunk kind s
a_chunk Bytes n depth head rest s h f e = (rest, record { head = head; opens = is_head ByteString n (length rest) head h (sym f); fine = tt; form = e })
a_chunk Text n depth head rest s h f e = (rest, record { head = head; opens = is_head TextString n (length rest) head h (sym f.0); fine = f.1; form = e })

-- what a head and its content make, where it may begin
pub piece_of : (string : Option StringKind) (major : Major) (n depth : ℕ) (head rest s : List ℕ) → MayBegin string major → IsHeadOf major n head → Fills depth (body_of major n) rest → s ≡ head ++ rest → IsPiece string depth s
piece_of None major n depth head rest s may h f e = item_by major n depth head rest s h f e
piece_of (Some kind) major n depth head rest s may h f e =
    let q = major_is major kind may in
    a_chunk kind n depth head rest s (subst (λ m. IsHeadOf m n head) q h) (subst (λ m. Fills depth (body_of m n) rest) q f) e

-- a chunk begins with a head of its kind
pub record IsHeadedChunk (kind : StringKind) (depth : ℕ) (s : List ℕ) : Type 0 where
  pub n : ℕ
  pub first : List ℕ
  pub rest : List ℕ
  pub opens : IsHeadOf (kind_major kind) n first
  pub fills : Fills depth (body_of (kind_major kind) n) rest
  pub form : s ≡ first ++ rest

pub headed_chunk : (kind : StringKind) (depth : ℕ) (s : List ℕ) → IsChunk kind s → IsHeadedChunk kind depth s
headed_chunk Bytes depth s c =
    let o = c.1.opens in
    record { n = length c.0; first = c.1.head; rest = c.0; opens = record { size = o.0; fits = o.1; fine = tt; form = o.2 }; fills = refl; form = c.1.form }
headed_chunk Text depth s c =
    let o = c.1.opens in
    record { n = length c.0; first = c.1.head; rest = c.0; opens = record { size = o.0; fits = o.1; fine = tt; form = o.2 }; fills = (refl, c.1.fine); form = c.1.form }
