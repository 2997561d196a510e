-- A byte with which a front goes on has no fault.
use Rattle.std.proofs.Common.{◌≡◌, ℕ, ◌+◌, ◌-◌, ◌*◌, ◌/◌, ◌%◌, ◌<◌, ◌≤◌, Bool, true, false, ltb, eqb, List, [], ◌∷◌, ◌++◌, length, Option, Some, None, refl, sym, ap, subst, ◌∙◌, ◌⊎◌, inl, inr, append_assoc, append-nil, arith}
use Rattle.std.specs.Str.{IsUtf8}
use Rattle.std.proofs.lemmas.Bool.{cases_lt, le-ltb, lt-ltb, lt-leb, ne_eqb, eq-eqb}
use Rattle.std.proofs.lemmas.List.{length-append}
use Rattle.grasp_cbor.specs.Major.{major_number}
use Rattle.grasp_cbor.specs.Encodes.{string_major}
use Rattle.grasp_cbor.specs.Step.{name_of, first_name}
use Rattle.grasp_cbor.specs.Head.{HeadSize, direct, one_byte, two_bytes, four_bytes, eight_bytes, argument_limit}
use Rattle.grasp_cbor.specs.declared.heads.StringKind.{StringKind}
use Rattle.grasp_cbor.specs.declared.heads.StringKind.TheVariants.{Bytes, Text}
use Rattle.grasp_cbor.specs.declared.heads.Major.{Major}
use Rattle.grasp_cbor.specs.declared.heads.Major.TheVariants.{Unsigned, TextString, Array, Map, Tag, Simple}
use Rattle.grasp_cbor.specs.declared.walker.Level.{Level}
use Rattle.grasp_cbor.specs.CanGoOn.{IsItem, CanGoOnWithin}
use Rattle.grasp_cbor.specs.Utf8.{CanEnd}
use Rattle.grasp_cbor.specs.Front.{some_text, body_of, IsSimpleHead, IsFine, IsHeadOf, HasRoom, MayBegin, can_break, Spot, first_spot, IsCut, at_start, at_simple, at_head, at_bytes, at_text, Front, start_name, chunk_name}
use Rattle.grasp_cbor.specs.Stands.{info_of}
use Rattle.grasp_cbor.proofs.Facts.Lists.{same_first}
use Rattle.grasp_cbor.proofs.HeadBytes.{tail_of, head_is}
use Rattle.grasp_cbor.proofs.Shapes.{Fills, Endless, chunks, item_row, pair_row, endless_byte, Opening, counted, endless, IsOpening, Contents, headed, headed_chunk, piece_item, kind_major}
use Rattle.grasp_cbor.proofs.Openings.{head_byte, endless_is, same_openings, opening_not_break}
use Rattle.grasp_cbor.proofs.Text.{can_end-from}
use Rattle.grasp_cbor.proofs.Insides.{Comes, piece, break, comes, depths}
use Rattle.grasp_cbor.proofs.Fronts.{room_of, split_at, kind_may}

-- ---- a first byte

pub no_name : (inside : ℕ) (breaks : Bool) (major info : ℕ) → info < 28 → (3 < major → major < 7 → inside < 16) → start_name inside breaks major info ≡ None
unfolding start_name
no_name inside breaks major info l room =
    let a : ltb 27 info ≡ false = le-ltb 27 info (omega arith) in
    let b : eqb info 31 ≡ false = ne_eqb info 31 (λ e. omega arith) in
    elim (cases_lt 3 major) [
      | inr m ↦ rw (a, b, le-ltb 3 major m) refl
      | inl m ↦ elim (cases_lt major 7) [
        | inr k ↦ rw (a, b, lt-ltb 3 major m, le-ltb major 7 k) refl
        | inl k ↦ rw (a, b, lt-ltb 3 major m, lt-ltb major 7 k, lt-leb 16 inside (room m k)) refl
      ]
    ]

-- of indefinite length
pub endless_unnamed : (inside : ℕ) (breaks : Bool) (major : ℕ) → 1 < major → major < 6 → (3 < major → inside < 16) → start_name inside breaks major 31 ≡ None
unfolding start_name
endless_unnamed inside breaks major l h room =
    let a : ltb major 2 ≡ false = le-ltb major 2 (omega arith) in
    let b : eqb major 6 ≡ false = ne_eqb major 6 (λ e. omega arith) in
    let c : eqb major 7 ≡ false = ne_eqb major 7 (λ e. omega arith) in
    elim (cases_lt 3 major) [
      | inr m ↦ rw (a, b, c, le-ltb 3 major m) refl
      | inl m ↦ rw (a, b, c, lt-ltb 3 major m, lt-ltb major 7 (omega arith), lt-leb 16 inside (room m)) refl
    ]

-- a break where one may stand
pub break_unnamed : (inside : ℕ) (breaks : Bool) → breaks ≡ true → start_name inside breaks 7 31 ≡ None
unfolding start_name
break_unnamed inside breaks e = rw e refl

pub chunk_unnamed : (kind : StringKind) (major info : ℕ) → major ≡ string_major kind → info < 28 → chunk_name kind major info ≡ None
unfolding chunk_name
chunk_unnamed kind major info e l = rw (eq-eqb major (string_major kind) e, lt-ltb info 28 l) refl

pub chunk_break : (kind : StringKind) → chunk_name kind 7 31 ≡ None
unfolding chunk_name
chunk_break Bytes = refl
chunk_break Text = refl

pub room_at : (major : Major) (d n : ℕ) → HasRoom d (body_of major n) → 3 < major_number major → major_number major < 7 → 0 < d
room_at Array d n h p q = h
room_at Map d n h p q = h
room_at Tag d n h p q = h
room_at _ d n h p q = omega arith

endless_room : (e : Endless) (d : ℕ) (rest : List ℕ) → Contents d (endless e) rest → 3 < (endless_is e).major → 0 < d
endless_room (chunks Bytes) d rest f l = absurd (omega arith)
endless_room (chunks Text) d rest f l = absurd (omega arith)
endless_room item_row d rest f l = let k = f.room in omega arith
endless_room pair_row d rest f l = let k = f.room in omega arith

by_parts : (inside : ℕ) (breaks : Bool) (byte major info : ℕ) → byte ≡ 32 * major + info → info < 32 → start_name inside breaks major info ≡ None → start_name inside breaks (byte / 32) (byte % 32) ≡ None
by_parts inside breaks byte major info e l h =
    let hi : major ≡ byte / 32 = omega arith in
    let lo : info ≡ byte % 32 = omega arith in
    subst (λ k. start_name inside breaks k (byte % 32) ≡ None) hi (subst (λ k. start_name inside breaks major k ≡ None) lo h)

opening_byte : (inside d : ℕ) (breaks : Bool) (o : Opening) (byte : ℕ) (first rest x y : List ℕ) → d + inside ≡ 16 → IsOpening o first → Contents d o rest → byte ∷ x ≡ first ++ y → start_name inside breaks (byte / 32) (byte % 32) ≡ None
opening_byte inside d breaks (counted major n) byte first rest x y sum h f e =
    let k = head_byte major n byte first x y h e in
    let low = k.low in
    by_parts inside breaks byte (major_number major) k.info k.is (omega arith) (no_name inside breaks (major_number major) k.info k.low (λ p q. let z = room_at major d n (room_of d (body_of major n) rest f) p q in omega arith))
opening_byte inside d breaks (endless o) byte first rest x y sum h f e =
    let q : byte ∷ x ≡ endless_byte o ∷ y = e ∙ ap (λ z. z ++ y) h in
    let r : byte ≡ endless_byte o = cc in
    let b = endless_is o in
    by_parts inside breaks byte b.major 31 (r ∙ b.is) (omega arith) (endless_unnamed inside breaks b.major b.strings b.lists (λ p. let z = endless_room o d rest f p in omega arith))

first_byte : (levels : List Level) (d byte : ℕ) (x : List ℕ) → d + length levels ≡ 16 → Comes None levels d (byte ∷ x) → first_name levels None (byte / 32) (byte % 32) ≡ None
first_byte levels d byte x sum (piece w y i e) =
    let h = headed d w i in
    opening_byte (length levels) d (can_break levels) h.opening byte h.first h.rest x (h.rest ++ y) sum h.opens h.fills (e ∙ ap (λ z. z ++ y) h.form ∙ append_assoc h.first h.rest y)
first_byte levels d byte x sum (break y b e) =
    let q : byte ≡ 255 = cc in
    by_parts (length levels) (can_break levels) byte 7 31 (omega arith) (omega arith) (break_unnamed (length levels) (can_break levels) b)

first_of_chunk : (kind : StringKind) (levels : List Level) (d byte : ℕ) (x : List ℕ) → Comes (Some kind) levels d (byte ∷ x) → chunk_name kind (byte / 32) (byte % 32) ≡ None
first_of_chunk kind levels d byte x (piece w y c e) =
    let h = headed_chunk kind d w c in
    let k = head_byte (kind_major kind) h.n byte h.first x (h.rest ++ y) h.opens (e ∙ ap (λ z. z ++ y) h.form ∙ append_assoc h.first h.rest y) in
    let p = k.is in
    let l = k.low in
    let m : major_number (kind_major kind) ≡ string_major kind = kind_may kind in
    let hi : byte / 32 ≡ string_major kind = omega arith in
    let lo : byte % 32 < 28 = omega arith in
    chunk_unnamed kind (byte / 32) (byte % 32) hi lo
first_of_chunk kind levels d byte x (break y b e) =
    let q : byte ≡ 255 = cc in
    let hi : 7 ≡ byte / 32 = omega arith in
    let lo : 31 ≡ byte % 32 = omega arith in
    subst (λ k. chunk_name kind k (byte % 32) ≡ None) hi (subst (λ k. chunk_name kind 7 k ≡ None) lo (chunk_break kind))

starting_byte : (string : Option StringKind) (levels : List Level) (d byte : ℕ) (x : List ℕ) → d + length levels ≡ 16 → Comes string levels d (byte ∷ x) → name_of (first_spot string levels) byte ≡ None
starting_byte None levels d byte x sum c = first_byte levels d byte x sum c
starting_byte (Some kind) levels d byte x sum c = first_of_chunk kind levels d byte x c

-- ---- a byte after 248

fine_248 : (major : Major) (size : HeadSize) (n : ℕ) → n < argument_limit size → IsFine major size n → 32 * major_number major + info_of size n ≡ 248 → IsSimpleHead size n × (0 < length (tail_of size n))
fine_248 Unsigned direct n h f e = absurd (omega arith)
fine_248 _ direct n h f e = absurd (omega arith)
fine_248 Simple one_byte n h f e = (f, omega arith)
fine_248 major two_bytes n h f e = (tt, omega arith)
fine_248 major four_bytes n h f e = (tt, omega arith)
fine_248 major eight_bytes n h f e = (tt, omega arith)
fine_248 _ one_byte n h f e = absurd (omega arith)

is_one : (major : Major) (size : HeadSize) (n : ℕ) → n < argument_limit size → 32 * major_number major + info_of size n ≡ 248 → size ≡ one_byte
is_one major one_byte n h e = refl
is_one major _ n h e = absurd (omega arith)

second_is : (size : HeadSize) (n byte : ℕ) (x y : List ℕ) → size ≡ one_byte → IsSimpleHead size n → byte ∷ x ≡ tail_of size n ++ y → 32 ≤ byte
second_is one_byte n byte x y s f e = let q : byte ≡ n = cc in omega arith
second_is _ n byte x y s f e = absurd cc

second_byte : (major : Major) (n byte : ℕ) (head x y : List ℕ) → IsHeadOf major n head → 248 ∷ byte ∷ x ≡ head ++ y → 32 ≤ byte
second_byte major n byte head x y h e =
    let f : 248 ∷ byte ∷ x ≡ ((32 * major_number major + info_of h.size n) ∷ tail_of h.size n) ++ y = e ∙ ap (λ z. z ++ y) (h.form ∙ head_is h.size (major_number major) n) in
    let g : 32 * major_number major + info_of h.size n ≡ 248 = cc in
    let r : byte ∷ x ≡ tail_of h.size n ++ y = cc in
    second_is h.size n byte x y (is_one major h.size n h.fits g) (fine_248 major h.size n h.fits h.fine g).0 r

after_248 : (d : ℕ) (o : Opening) (byte : ℕ) (first x y : List ℕ) → IsOpening o first → 248 ∷ byte ∷ x ≡ first ++ y → 32 ≤ byte
after_248 d (counted major n) byte first x y h e = second_byte major n byte first x y h e
after_248 d (endless o) byte first x y h e =
    let q : 248 ∷ byte ∷ x ≡ endless_byte o ∷ y = e ∙ ap (λ z. z ++ y) h in
    let r = same_first 248 (endless_byte o) (byte ∷ x) y q in
    let b = endless_is o in
    let p = b.is in
    absurd (omega arith)

simple_byte : (string : Option StringKind) (levels : List Level) (d byte : ℕ) (x : List ℕ) → MayBegin string Simple → Comes string levels d (248 ∷ byte ∷ x) → 32 ≤ byte
simple_byte None levels d byte x m (piece w y i e) =
    let h = headed d w i in
    after_248 d h.opening byte h.first x (h.rest ++ y) h.opens (e ∙ ap (λ z. z ++ y) h.form ∙ append_assoc h.first h.rest y)
simple_byte None levels d byte x m (break y b e) = absurd (let q = same_first 248 255 (byte ∷ x) y e in omega arith)
simple_byte (Some Bytes) levels d byte x m c = absurd (omega arith)
simple_byte (Some Text) levels d byte x m c = absurd (omega arith)

-- ---- a byte of a text

-- the front of what is long enough
goes_on : (content text : List ℕ) (byte : ℕ) (x y : List ℕ) → length content < length text → content ++ byte ∷ x ≡ text ++ y → (m : List ℕ) × (text ≡ content ++ byte ∷ m)
goes_on content text byte x y l e =
    elim (split_at content text byte x y e) [
      | inl m ↦ m
      | inr r ↦ absurd (let k = ap length r.1 in omega (arith, length-append text r.0))
    ]

text_byte : (d : ℕ) (content opening w y x : List ℕ) (left byte : ℕ) → 0 < left → IsHeadOf TextString (length content + left) opening → IsItem d w → opening ++ (content ++ byte ∷ x) ≡ w ++ y → CanEnd (content ++ byte ∷ []) (left - 1)
text_byte d content opening w y x left byte some o i e =
    let h = headed d w i in
    let q = same_openings (counted TextString (length content + left)) h.opening opening h.first (content ++ byte ∷ x) (h.rest ++ y) o h.opens (e ∙ ap (λ z. z ++ y) h.form ∙ append_assoc h.first h.rest y) in
    let g : Fills d (some_text (length content + left)) h.rest = subst (λ z. Contents d z h.rest) (sym q.opening) h.fills in
    let len = g.0 in
    let m = goes_on content h.rest byte x y (omega arith) q.rest in
    let whole : h.rest ≡ (content ++ byte ∷ []) ++ m.0 = m.1 ∙ sym (append_assoc content (byte ∷ []) m.0) in
    (m.0, (let k = ap length m.1 in omega (arith, length-append content (byte ∷ m.0))), subst IsUtf8 whole g.1)

chars_byte : (string : Option StringKind) (levels : List Level) (d : ℕ) (content opening cut x : List ℕ) (left byte : ℕ) → 0 < left → IsHeadOf TextString (length content + left) opening → cut ≡ opening ++ content → Comes string levels d (cut ++ byte ∷ x) → CanEnd (content ++ byte ∷ []) (left - 1)
chars_byte string levels d content opening cut x left byte some o f (piece w y p e) =
    text_byte d content opening w y x left byte some o (piece_item string d w p) (sym (append_assoc opening content (byte ∷ x)) ∙ ap (λ z. z ++ byte ∷ x) (sym f) ∙ e)
chars_byte string levels d content opening cut x left byte some o f (break y b e) =
    absurd (opening_not_break (counted TextString (length content + left)) opening y (content ++ byte ∷ x) o (sym (sym (append_assoc opening content (byte ∷ x)) ∙ ap (λ z. z ++ byte ∷ x) (sym f) ∙ e)))

-- ---- together

by_spot : (string : Option StringKind) (levels : List Level) (d : ℕ) (cut x : List ℕ) (byte : ℕ) (spot : Spot) → d + length levels ≡ 16 → IsCut string levels d cut spot → Comes string levels d (cut ++ byte ∷ x) → name_of spot byte ≡ None
by_spot string levels d cut x byte _ sum (at_start e) c = starting_byte string levels d byte x sum (subst (λ z. Comes string levels d (z ++ byte ∷ x)) e c)
by_spot string levels d cut x byte _ sum (at_simple e m) c =
    let l : 32 ≤ byte = simple_byte string levels d byte x m (subst (λ z. Comes string levels d (z ++ byte ∷ x)) e c) in
    rw (le-ltb byte 32 l) refl
by_spot string levels d cut x byte _ sum (at_head h ne) c = refl
by_spot string levels d cut x byte _ sum (at_bytes content left h) c = refl
by_spot string levels d cut x byte _ sum (at_text content left h e) c =
    rw (can_end-from (content ++ byte ∷ []) (left - 1) (chars_byte string levels d content h.opening cut x left byte h.some h.head h.form c)) refl

pub unnamed : (s : List ℕ) (spot : Spot) (byte : ℕ) (more : List ℕ) → Front s spot → IsItem 16 ((s ++ byte ∷ []) ++ more) → name_of spot byte ≡ None
unnamed s spot byte more f h =
    let form : (s ++ byte ∷ []) ++ more ≡ f.outer ++ (f.opened ++ (f.cut ++ byte ∷ more)) =
    append_assoc s (byte ∷ []) more ∙ ap (λ z. z ++ byte ∷ more) f.form ∙ append_assoc f.outer (f.opened ++ f.cut) (byte ∷ more) ∙ ap (λ z. f.outer ++ z) (append_assoc f.opened f.cut (byte ∷ more)) in
    by_spot f.string f.levels f.depth f.cut more byte spot (depths f.levels f.depth f.outer f.inside) f.begun
    (comes f.string f.levels f.depth f.outer f.opened (f.cut ++ byte ∷ more) ((s ++ byte ∷ []) ++ more) f.inside f.between h form)

pub unnamed_after : (s : List ℕ) (spot : Spot) (byte : ℕ) → Front s spot → CanGoOnWithin 16 (s ++ byte ∷ []) ⊎ IsItem 16 (s ++ byte ∷ []) → name_of spot byte ≡ None
unnamed_after s spot byte f (inl o) = unnamed s spot byte (o.0 ∷ o.1) f o.2
unnamed_after s spot byte f (inr i) = unnamed s spot byte [] f (subst (λ x. IsItem 16 x) (sym (append-nil (s ++ byte ∷ []))) i)
