-- What is open is a front, and a front is open.
use Rattle.std.proofs.Common.{◌≡◌, ◌≢◌, ℕ, zero, suc, ◌+◌, ◌-◌, ◌*◌, ◌<◌, true, List, [], ◌∷◌, ◌++◌, length, replicate, Option, Some, None, refl, sym, ap, subst, ◌∙◌, ◌⊎◌, inl, inr, append_assoc, append-nil, arith}
use Rattle.std.specs.Str.{IsUtf8}
use Rattle.std.proofs.lemmas.Bool.{cases_eq, le-leb}
use Rattle.std.proofs.lemmas.List.{length-append, length-replicate}
use Rattle.grasp_cbor.specs.Major.{major_number}
use Rattle.grasp_cbor.specs.Encodes.{string_major}
use Rattle.grasp_cbor.specs.Head.{argument_limit, HeadSize, direct, one_byte, sized_head}
use Rattle.grasp_cbor.specs.declared.heads.StringKind.{StringKind}
use Rattle.grasp_cbor.specs.declared.heads.StringKind.TheVariants.{Bytes, Text}
use Rattle.grasp_cbor.specs.declared.heads.Major.{Major}
use Rattle.grasp_cbor.specs.declared.heads.Major.TheVariants.{ByteString, TextString, Array, Map, Tag, Simple}
use Rattle.grasp_cbor.specs.declared.walker.Level.{Level}
use Rattle.grasp_cbor.specs.declared.walker.Level.TheVariants.{Parts, Items, Keys, Values}
use Rattle.grasp_cbor.specs.Stands.{info_of}
use Rattle.grasp_cbor.proofs.Majors.{major_number-below}
use Rattle.grasp_cbor.proofs.HeadBytes.{head_is, tail_bytes, AllBytes-append, AllBytes-back, zeros}
use Rattle.grasp_cbor.specs.Bytes.{AllBytes, joined}
use Rattle.grasp_cbor.specs.CanGoOn.{IsItem, CanGoOnWithin, AreItems}
use Rattle.grasp_cbor.specs.Utf8.{can_end, CanEnd}
use Rattle.grasp_cbor.specs.Front.{Body, nothing, some_bytes, some_text, some_parts, body_of, IsSimpleHead, IsFine, IsHeadOf, Opens, HasParts, Inside, InString, MayBegin, HasRoom, Spot, first_spot, after_simple, in_text, elsewhere, IsCutHead, IsCutString, IsCut, at_start, at_simple, at_head, at_bytes, at_text, Front}
use Rattle.grasp_cbor.proofs.Shapes.{Sort, parts, items, pairs, Counts, closing, OpensRow, Fills, IsRow, IsChunk, ChunkRow, IsChunks, Endless, chunks, item_row, pair_row, endless_byte, Opening, counted, endless, IsOpening, Contents, IsPiece, chunk_list, headed, headed_chunk, item_of, piece_of, kind_major}
use Rattle.grasp_cbor.proofs.Openings.{head_byte}
use Rattle.grasp_cbor.proofs.Text.{can_end-means, utf8_bytes, utf8_ends}
use Rattle.grasp_cbor.proofs.Insides.{zero_bytes, zero_item, zero_items, Each, each_item, item_each, each_chunk, chunk_each, closes, string_closes}

-- ---- a cut item has an end

ends_nothing : (n : ℕ) → can_end [] n ≡ true
unfolding can_end
ends_nothing n = le-leb 0 n (omega arith)

pub text_of_zeros : (n : ℕ) → CanEnd [] n
text_of_zeros n = can_end-means [] n (ends_nothing n)

abbrev pub Filling : ℕ → Body → Type 0
Filling d b = (rest : List ℕ) × Fills d b rest × AllBytes rest

pub filled : (d : ℕ) (b : Body) → HasRoom d b → Filling d b
filled d nothing h = ([], refl, tt)
filled d (some_bytes n) h = (replicate n 0, length-replicate {A = ℕ} n 0, zeros n)
filled d (some_text n) h = let z = text_of_zeros n in (z.0, (z.1, z.2), utf8_bytes z.0 z.2)
filled d (some_parts n) h =
    (joined (replicate n (0 ∷ [])), record { below = d - 1; row = replicate n (0 ∷ []); room = omega arith; each = zero_items (d - 1) n; counts = length-replicate {A = List ℕ} n (0 ∷ []); form = sym (append-nil (joined (replicate n (0 ∷ [])))) }, zero_bytes n)

-- only a second byte after 248 can be too small
short_plain : (n first next : ℕ) (got more : List ℕ) → 248 ∷ n ∷ [] ≡ (first ∷ got) ++ next ∷ more → first ∷ got ≡ 248 ∷ []
short_plain n first next [] more e = let q : 248 ≡ first = cc in ap (λ x. x ∷ []) (sym q)
short_plain n first next (g ∷ got) more e = absurd (let k = ap length e in omega (arith, length-append got (next ∷ more)))

fine_size : (size : HeadSize) (n first next : ℕ) (got more s : List ℕ) → s ≡ first ∷ got → s ≢ 248 ∷ [] → sized_head size 7 n ≡ (first ∷ got) ++ next ∷ more → IsSimpleHead size n
fine_size one_byte n first next got more s f ne e = absurd (ne (f ∙ short_plain n first next got more e))
fine_size _ n first next got more s f ne e = tt

fine_cut : (major : Major) (size : HeadSize) (n first next : ℕ) (got more s : List ℕ) → s ≡ first ∷ got → s ≢ 248 ∷ [] → sized_head size (major_number major) n ≡ (first ∷ got) ++ next ∷ more → IsFine major size n
fine_cut Simple size n first next got more s f ne e = fine_size size n first next got more s f ne e
fine_cut _ size n first next got more s f ne e = tt

first_bytes : (size : HeadSize) (major : Major) (n : ℕ) → n < argument_limit size → 32 * major_number major + info_of size n < 256
first_bytes direct major n h = let k = major_number-below major in omega arith
first_bytes _ major n h = let k = major_number-below major in omega arith

head_bytes : (size : HeadSize) (major : Major) (n : ℕ) → n < argument_limit size → AllBytes (sized_head size (major_number major) n)
head_bytes size major n h = subst AllBytes (sym (head_is size (major_number major) n)) (first_bytes size major n h, tail_bytes size n h)

-- bytes that complete a piece
abbrev pub Completes : Option StringKind → ℕ → List ℕ → Type 0
Completes string d s = (next : ℕ) × (more : List ℕ) × IsPiece string d (s ++ next ∷ more) × AllBytes (next ∷ more)

open_head : (string : Option StringKind) (d : ℕ) (s : List ℕ) → IsCutHead string d s → s ≢ 248 ∷ [] → Completes string d s
open_head string d s c ne =
    let f = filled d (body_of c.major c.n) c.room in
    let whole : sized_head c.size (major_number c.major) c.n ≡ s ++ c.next ∷ c.more = c.whole ∙ ap (λ x. x ++ c.next ∷ c.more) (sym c.form) in
    (c.next, c.more ++ f.0, piece_of string c.major c.n d (s ++ c.next ∷ c.more) f.0 _ c.may (record { size = c.size; fits = c.fits; fine = fine_cut c.major c.size c.n c.first c.next c.got c.more s c.form ne c.whole; form = sym whole }) f.1 (sym (append_assoc s (c.next ∷ c.more) f.0)), AllBytes-append (c.next ∷ c.more) f.0 (AllBytes-back s (c.next ∷ c.more) (subst AllBytes whole (head_bytes c.size c.major c.n c.fits))) f.2)

open_bytes : (string : Option StringKind) (d : ℕ) (content : List ℕ) (left : ℕ) (s : List ℕ) → IsCutString string ByteString content left s → Completes string d s
open_bytes string d content left s c =
    let some = c.some in
    let pad : List ℕ = 0 ∷ replicate (left - 1) 0 in
    let len : length (content ++ pad) ≡ length content + left = omega (arith, length-append content pad, length-replicate {A = ℕ} (left - 1) 0) in
    (0, replicate (left - 1) 0, piece_of string ByteString (length content + left) d c.opening (content ++ pad) _ c.may c.head len (ap (λ x. x ++ pad) c.form ∙ append_assoc c.opening content pad), (omega arith, zeros (left - 1)))

open_text : (string : Option StringKind) (d : ℕ) (content more : List ℕ) (left : ℕ) (s : List ℕ) → IsCutString string TextString content left s → length more ≡ left → IsUtf8 (content ++ more) → Completes string d s
open_text string d content [] left s c l u = absurd (let k = c.some in omega arith)
open_text string d content (next ∷ more) left s c l u =
    (next, more, piece_of string TextString (length content + left) d c.opening (content ++ next ∷ more) _ c.may c.head (omega (arith, length-append content (next ∷ more)), u) (ap (λ x. x ++ next ∷ more) c.form ∙ append_assoc c.opening content (next ∷ more)), AllBytes-back content (next ∷ more) (utf8_bytes (content ++ next ∷ more) u))

thirty_two : (d : ℕ) → IsItem d (248 ∷ 32 ∷ [])
thirty_two d = item_of Simple 32 d (248 ∷ 32 ∷ []) [] _ (record { size = one_byte; fits = omega arith; fine = omega arith; form = refl }) refl refl

-- the shortest piece
open_start : (string : Option StringKind) (d : ℕ) (s : List ℕ) → s ≡ [] → Completes string d s
open_start None d s e = (0, [], subst (λ x. IsItem d (x ++ 0 ∷ [])) (sym e) (zero_item d), (omega arith, tt))
open_start (Some Bytes) d s e = (64, [], subst (λ x. IsChunk Bytes (x ++ 64 ∷ [])) (sym e) ([], record { head = 64 ∷ []; opens = (direct, omega arith, refl); fine = tt; form = refl }), (omega arith, tt))
open_start (Some Text) d s e = (96, [], subst (λ x. IsChunk Text (x ++ 96 ∷ [])) (sym e) ([], record { head = 96 ∷ []; opens = (direct, omega arith, refl); fine = utf8_ends [] refl; form = refl }), (omega arith, tt))

open_simple : (string : Option StringKind) (d : ℕ) (s : List ℕ) → s ≡ 248 ∷ [] → MayBegin string Simple → Completes string d s
open_simple None d s e m = (32, [], subst (λ x. IsItem d (x ++ 32 ∷ [])) (sym e) (thirty_two d), (omega arith, tt))
open_simple (Some Bytes) d s e m = absurd (omega arith)
open_simple (Some Text) d s e m = absurd (omega arith)

pub cut_open : (string : Option StringKind) (levels : List Level) (d : ℕ) (s : List ℕ) (spot : Spot) → IsCut string levels d s spot → Completes string d s
cut_open string levels d s _ (at_start e) = open_start string d s e
cut_open string levels d s _ (at_simple e m) = open_simple string d s e m
cut_open string levels d s _ (at_head c ne) = open_head string d s c ne
cut_open string levels d s _ (at_bytes content left c) = open_bytes string d content left s c
cut_open string levels d s _ (at_text content left c e) = open_text string d content e.0 left s c e.1 e.2

pub regrouped : (o c m y : List ℕ) (n : ℕ) → o ++ ((c ++ n ∷ m) ++ y) ≡ (o ++ c) ++ n ∷ (m ++ y)
regrouped o c m y n = simp append_assoc refl

reopen : (o c m y : List ℕ) (n : ℕ) → (o ++ (c ++ n ∷ m)) ++ y ≡ (o ++ c) ++ n ∷ (m ++ y)
reopen o c m y n = simp append_assoc refl

-- an item that has begun, with the string that is open in it
pub begun_open : (string : Option StringKind) (levels : List Level) (d : ℕ) (opened s : List ℕ) (spot : Spot) → InString string opened → IsCut string levels d s spot → CanGoOnWithin d (opened ++ s)
begun_open string levels d opened s spot b c =
    let w = cut_open string levels d s spot c in
    let z = string_closes string d opened (s ++ w.0 ∷ w.1) b w.2 in
    (w.0, w.1 ++ z.more, subst (λ x. IsItem d x) (regrouped opened s w.1 z.more w.0) z.item, AllBytes-append (w.0 ∷ w.1) z.more w.3 z.bytes)

pub front-open : (s : List ℕ) (spot : Spot) → Front s spot → CanGoOnWithin 16 s
front-open s spot f =
    let w = begun_open f.string f.levels f.depth f.opened f.cut spot f.between f.begun in
    let c = closes f.levels f.depth f.outer ((f.opened ++ f.cut) ++ w.0 ∷ w.1) f.inside w.2 in
    (w.0, w.1 ++ c.more, subst (λ x. IsItem 16 x) (reopen f.outer (f.opened ++ f.cut) w.1 c.more w.0 ∙ ap (λ x. x ++ w.0 ∷ (w.1 ++ c.more)) (sym f.form)) c.item, AllBytes-append (w.0 ∷ w.1) c.more w.3 c.bytes)

-- ---- what is open is a front

pub split_at : (a b : List ℕ) (n : ℕ) (x y : List ℕ) → a ++ n ∷ x ≡ b ++ y → ((m : List ℕ) × (b ≡ a ++ n ∷ m)) ⊎ ((c : List ℕ) × (a ≡ b ++ c) × (c ++ n ∷ x ≡ y))
split_at a [] n x y e = inr (a, refl, e)
split_at [] (b ∷ bs) n x y e = let q : n ≡ b = cc in inl (bs, ap (λ z. z ∷ bs) (sym q))
split_at (a ∷ t) (b ∷ bs) n x y e =
    let q : a ≡ b = cc in
    elim (split_at t bs n x y (cc)) [
      | inl l ↦ inl (l.0, λ i. sym q i ∷ l.1 i)
      | inr r ↦ inr (r.0, (λ i. q i ∷ r.1 i), r.2)
    ]

-- a row is cut within one of its pieces
record IsCutRow (P : List ℕ → Type 0) (total : ℕ) (s : List ℕ) (n : ℕ) : Type 0 where
  before : List (List ℕ)
  item : List ℕ
  cut : List ℕ
  more : List ℕ
  each : Each P before
  is : P item
  item_form : item ≡ cut ++ n ∷ more
  form : s ≡ joined before ++ cut
  less : length before < total

module _ (P : List ℕ → Type 0) where
  cut_row : (ws : List (List ℕ)) (s : List ℕ) (n : ℕ) (x : List ℕ) → Each P ws → s ++ n ∷ x ≡ joined ws → IsCutRow P (length ws) s n
  cut_row [] s n x h e = absurd (let k = ap length e in omega (arith, length-append s (n ∷ x)))
  cut_row (w ∷ ws) s n x h e =
      elim (split_at s w n x (joined ws) e) [
        | inl l ↦ record { before = []; item = w; cut = s; more = l.0; each = tt; is = h.0; item_form = l.1; form = refl; less = omega arith }
        | inr r ↦ let c = cut_row ws r.0 n x h.1 r.2 in
            record {
              before = w ∷ c.before;
              item = c.item;
              cut = c.cut;
              more = c.more;
              each = (h.0, c.each);
              is = c.is;
              item_form = c.item_form;
              form = r.1 ∙ ap (λ y. w ++ y) c.form ∙ sym (append_assoc w (joined c.before) c.cut);
              less = let k = c.less in omega arith;
            }
      ]

abbrev pub Fronts : List ℕ → Type 0
Fronts s = (spot : Spot) × Front s spot

pub front_of : (d : ℕ) (levels : List Level) (string : Option StringKind) (outer opened cut : List ℕ) (spot : Spot) → Inside d levels outer → InString string opened → IsCut string levels d cut spot → Fronts (outer ++ (opened ++ cut))
front_of d levels string outer opened cut spot i b c = (spot, record { depth = d; levels = levels; string = string; outer = outer; opened = opened; cut = cut; inside = i; between = b; begun = c; form = refl })

pub room_of : (d : ℕ) (b : Body) (s : List ℕ) → Fills d b s → HasRoom d b
room_of d (some_parts n) s f = let k = f.room in omega arith
room_of d _ s f = tt

-- a head that begins with 248 is of a simple value
simple_may : (string : Option StringKind) (major : Major) (n a next : ℕ) (head more : List ℕ) → MayBegin string major → IsHeadOf major n head → head ≡ (a ∷ []) ++ next ∷ more → a ≡ 248 → MayBegin string Simple
simple_may None major n a next head more m h e q = tt
simple_may (Some kind) major n a next head more m h e q =
    let k = head_byte major n a head (next ∷ more) [] h (sym e ∙ sym (append-nil head)) in
    let p = k.is in
    let l = k.low in
    let b = major_number-below major in
    let seven : major_number major ≡ 7 = omega arith in
    sym seven ∙ m

pub kind_may : (kind : StringKind) → major_number (kind_major kind) ≡ string_major kind
kind_may Bytes = refl
kind_may Text = refl

-- ---- within a head or a string, of an item or of a chunk

module _ (d : ℕ) (levels : List Level) (string : Option StringKind) (outer opened : List ℕ) (i : Inside d levels outer) (b : InString string opened) where
  in_head : (cut : List ℕ) (major : Major) (n next : ℕ) (head more : List ℕ) → MayBegin string major → IsHeadOf major n head → HasRoom d (body_of major n) → head ≡ cut ++ next ∷ more → Fronts (outer ++ (opened ++ cut))
  in_head [] major n next head more m h r e = front_of d levels string outer opened [] (first_spot string levels) i b (at_start refl)
  in_head (a ∷ c ∷ got) major n next head more m h r e =
      front_of d levels string outer opened (a ∷ c ∷ got) elsewhere i b
      (at_head (record { major = major; size = h.size; n = n; first = a; got = c ∷ got; next = next; more = more; fits = h.fits; form = refl; whole = sym h.form ∙ e; room = r; may = m }) (λ q. let k = ap length q in omega arith))
  in_head (a ∷ []) major n next head more m h r e =
      elim (cases_eq a 248) [
        | inl q ↦ front_of d levels string outer opened (a ∷ []) after_simple i b (at_simple (ap (λ x. x ∷ []) q) (simple_may string major n a next head more m h e q))
        | inr q ↦ front_of d levels string outer opened (a ∷ []) elsewhere i b
            (at_head (record { major = major; size = h.size; n = n; first = a; got = []; next = next; more = more; fits = h.fits; form = refl; whole = sym h.form ∙ e; room = r; may = m }) (λ p. q (cc)))
      ]

  in_octets : (n next : ℕ) (head content more rest : List ℕ) → MayBegin string ByteString → IsHeadOf ByteString n head → length rest ≡ n → content ++ next ∷ more ≡ rest → Fronts (outer ++ (opened ++ (head ++ content)))
  in_octets n next head content more rest m h f e =
      let len : n ≡ length content + length (next ∷ more) = sym f ∙ ap length (sym e) ∙ length-append content (next ∷ more) in
      front_of d levels string outer opened (head ++ content) elsewhere i b (at_bytes content (length (next ∷ more)) (record { opening = head; head = subst (λ k. IsHeadOf ByteString k head) len h; some = omega arith; form = refl; may = m }))

  in_chars : (n next : ℕ) (head content more rest : List ℕ) → MayBegin string TextString → IsHeadOf TextString n head → length rest ≡ n → IsUtf8 rest → content ++ next ∷ more ≡ rest → Fronts (outer ++ (opened ++ (head ++ content)))
  in_chars n next head content more rest m h f u e =
      let len : n ≡ length content + length (next ∷ more) = sym f ∙ ap length (sym e) ∙ length-append content (next ∷ more) in
      front_of d levels string outer opened (head ++ content) (in_text content (length (next ∷ more))) i b
      (at_text content (length (next ∷ more)) (record { opening = head; head = subst (λ k. IsHeadOf TextString k head) len h; some = omega arith; form = refl; may = m }) (next ∷ more, refl, subst IsUtf8 (sym e) u))

  in_chunk_content : (kind : StringKind) (n next : ℕ) (head content more rest : List ℕ) → MayBegin string (kind_major kind) → IsHeadOf (kind_major kind) n head → Fills d (body_of (kind_major kind) n) rest → content ++ next ∷ more ≡ rest → Fronts (outer ++ (opened ++ (head ++ content)))
  in_chunk_content Bytes n next head content more rest m h f e = in_octets n next head content more rest m h f e
  in_chunk_content Text n next head content more rest m h f e = in_chars n next head content more rest m h f.0 f.1 e

  in_chunk : (kind : StringKind) (cut w more : List ℕ) (next : ℕ) → string ≡ Some kind → IsChunk kind w → w ≡ cut ++ next ∷ more → Fronts (outer ++ (opened ++ cut))
  in_chunk kind cut w more next q h e =
      let x = headed_chunk kind d w h in
      let m : MayBegin string (kind_major kind) = subst (λ z. MayBegin z (kind_major kind)) (sym q) (kind_may kind) in
      elim (split_at cut x.first next more x.rest (sym e ∙ x.form)) [
        | inl l ↦ in_head cut (kind_major kind) x.n next x.first l.0 m x.opens (room_of d (body_of (kind_major kind) x.n) x.rest x.fills) l.1
        | inr r ↦ subst (λ y. Fronts (outer ++ (opened ++ y))) (sym r.1) (in_chunk_content kind x.n next x.first r.0 more x.rest m x.opens x.fills r.2)
      ]

-- ---- within an item

-- which level so many parts of a row are
record IsLevel (sort : Sort) (k : ℕ) (first : List ℕ) : Type 0 where
  level : Level
  opens : Opens level k first

data Parity (k : ℕ) : Type 0 where
  even : (h : ℕ) → k ≡ 2 * h → Parity k
  odd : (h : ℕ) → k ≡ 2 * h + 1 → Parity k

next_parity : (k : ℕ) → Parity k → Parity (suc k)
next_parity k (even h e) = odd h (omega arith)
next_parity k (odd h e) = even (h + 1) (omega arith)

parity : (k : ℕ) → Parity k
parity zero = even 0 (omega arith)
parity (suc k) = next_parity k (parity k)

pairs_level : (k : ℕ) (first : List ℕ) → first ≡ 191 ∷ [] → Parity k → IsLevel pairs k first
pairs_level k first e (even h q) = record { level = Keys; opens = (e, h, q) }
pairs_level k first e (odd h q) = record { level = Values; opens = (e, h, q) }

level_at : (sort : Sort) (k n : ℕ) (first : List ℕ) → OpensRow sort first → Counts sort n → k < n → IsLevel sort k first
level_at (parts m) k n first o c l = let e : k + (m - k) ≡ m = omega arith in record { level = Parts (m - k); opens = (omega arith, subst (λ z. OpensRow (parts z) first) (sym e) o) }
level_at items k n first o c l = record { level = Items; opens = o }
level_at pairs k n first o c l = pairs_level k first o (parity k)

no_more : (c : List ℕ) (next : ℕ) (x : List ℕ) (b : ℕ) → c ++ next ∷ x ≡ b ∷ [] → c ≡ []
no_more [] next x b e = refl
no_more (a ∷ c) next x b e = absurd (let l = ap length e in omega (arith, length-append c (next ∷ x)))

none_left : (content more : List ℕ) (next : ℕ) → content ++ next ∷ more ≡ [] → ⊥
none_left content more next e = let k = ap length e in omega (arith, length-append content (next ∷ more))

-- where all parts are there and a break is to come
level_full : (sort : Sort) (k next : ℕ) (c x first : List ℕ) → OpensRow sort first → Counts sort k → c ++ next ∷ x ≡ closing sort → IsLevel sort k first × (c ≡ [])
level_full (parts m) k next c x first o q e = absurd (let l = ap length e in omega (arith, length-append c (next ∷ x)))
level_full items k next c x first o q e = (record { level = Items; opens = o }, no_more c next x 255 e)
level_full pairs k next c x first o q e = (record { level = Keys; opens = (o, q.0, q.1) }, no_more c next x 255 e)

-- the parts within are fronts
abbrev Below : ℕ → Type 0
Below d = (levels : List Level) (outer w cut : List ℕ) (next : ℕ) (more : List ℕ) → Inside d levels outer → IsItem d w → w ≡ cut ++ next ∷ more → Fronts (outer ++ cut)

abbrev Deeper : ℕ → Type 0
Deeper d = (below : ℕ) → d ≡ below + 1 → Below below

module _ (d : ℕ) (levels : List Level) (outer : List ℕ) (i : Inside d levels outer) (deeper : Deeper d) where
  deep : (below : ℕ) (level : Level) (own : List ℕ) → d ≡ below + 1 → HasParts below level own → Inside below (level ∷ levels) (outer ++ own)
  deep below level own q p = (outer, own, subst (λ k. Inside k levels outer) q i, p, refl)

  in_part : (sort : Sort) (next : ℕ) (first content more : List ℕ) (below : ℕ) (row : List (List ℕ)) → OpensRow sort first → d ≡ below + 1 → AreItems below row → Counts sort (length row) → content ++ next ∷ more ≡ joined row → Fronts (outer ++ (first ++ content))
  in_part sort next first content more below row o room each counts e =
      let c = cut_row (λ w. IsItem below w) row content next more (each_item below row each) e in
      let l = level_at sort (length c.before) (length row) first o counts c.less in
      let own : List ℕ = first ++ joined c.before in
      let p : HasParts below l.level own = record { opening = first; parts = c.before; opens = l.opens; each = item_each below c.before c.each; form = refl } in
      let form : (outer ++ own) ++ c.cut ≡ outer ++ (first ++ content) = append_assoc outer own c.cut ∙ ap (λ x. outer ++ x) (append_assoc first (joined c.before) c.cut ∙ ap (λ x. first ++ x) (sym c.form)) in
      subst Fronts form (deeper below room (l.level ∷ levels) (outer ++ own) c.item c.cut next c.more (deep below l.level own room p) c.is c.item_form)

  at_break : (sort : Sort) (next : ℕ) (first content c more : List ℕ) (below : ℕ) (row : List (List ℕ)) → OpensRow sort first → d ≡ below + 1 → AreItems below row → Counts sort (length row) → content ≡ joined row ++ c → c ++ next ∷ more ≡ closing sort → Fronts (outer ++ (first ++ content))
  at_break sort next first content c more below row o room each counts e f =
      let l = level_full sort (length row) next c more first o counts f in
      let own : List ℕ = first ++ joined row in
      let p : HasParts below l.0.level own = record { opening = first; parts = row; opens = l.0.opens; each = each; form = refl } in
      let form : (outer ++ own) ++ [] ≡ outer ++ (first ++ content) = append-nil (outer ++ own) ∙ ap (λ x. outer ++ (first ++ x)) (sym (append-nil (joined row)) ∙ ap (λ x. joined row ++ x) (sym l.1) ∙ sym e) in
      subst Fronts form (front_of below (l.0.level ∷ levels) None (outer ++ own) [] [] (first_spot None (l.0.level ∷ levels)) (deep below l.0.level own room p) refl (at_start refl))

  in_row : (sort : Sort) (next : ℕ) (first content more rest : List ℕ) → OpensRow sort first → IsRow d sort rest → content ++ next ∷ more ≡ rest → Fronts (outer ++ (first ++ content))
  in_row sort next first content more rest o r e =
      elim (split_at content (joined r.row) next more (closing sort) (e ∙ r.form)) [
        | inl l ↦ in_part sort next first content l.0 r.below r.row o r.room r.each r.counts (sym l.1)
        | inr t ↦ at_break sort next first content t.0 more r.below r.row o r.room r.each r.counts t.1 t.2
      ]

  -- a string of indefinite length with some of its chunks
  string_at : (kind : StringKind) (row : List (List ℕ)) → ChunkRow kind row → InString (Some kind) ((32 * string_major kind + 31) ∷ joined row)
  string_at kind row h = let l = chunk_list kind row h in (l.0, joined row, l.1, refl)

  in_chunks : (kind : StringKind) (next : ℕ) (content more rest : List ℕ) → IsChunks kind rest → content ++ next ∷ more ≡ rest → Fronts (outer ++ ((32 * string_major kind + 31) ∷ content))
  in_chunks kind next content more rest r e =
      elim (split_at content (joined r.row) next more (255 ∷ []) (e ∙ r.form)) [
        | inl l ↦ let c = cut_row (λ w. IsChunk kind w) r.row content next l.0 (each_chunk kind r.row r.each) (sym l.1) in
            subst (λ x. Fronts (outer ++ ((32 * string_major kind + 31) ∷ x))) (sym c.form)
            (in_chunk d levels (Some kind) outer ((32 * string_major kind + 31) ∷ joined c.before) i (string_at kind c.before (chunk_each kind c.before c.each)) kind c.cut c.item c.more next refl c.is c.item_form)
        | inr t ↦ let none : t.0 ≡ [] = no_more t.0 next more 255 t.2 in
            subst (λ x. Fronts (outer ++ ((32 * string_major kind + 31) ∷ x))) (sym (t.1 ∙ ap (λ x. joined r.row ++ x) none))
            (front_of d levels (Some kind) outer ((32 * string_major kind + 31) ∷ joined r.row) [] (first_spot (Some kind) levels) i (string_at kind r.row r.each) (at_start refl))
      ]

  in_content : (major : Major) (n next : ℕ) (head content more rest : List ℕ) → IsHeadOf major n head → Fills d (body_of major n) rest → content ++ next ∷ more ≡ rest → Fronts (outer ++ (head ++ content))
  in_content ByteString n next head content more rest h f e = in_octets d levels None outer [] i refl n next head content more rest tt h f e
  in_content TextString n next head content more rest h f e = in_chars d levels None outer [] i refl n next head content more rest tt h f.0 f.1 e
  in_content Array n next head content more rest h f e = in_row (parts n) next head content more rest (record { major = Array; n = n; head = h; counted = refl }) f e
  in_content Map n next head content more rest h f e = in_row (parts (2 * n)) next head content more rest (record { major = Map; n = n; head = h; counted = refl }) f e
  in_content Tag n next head content more rest h f e = in_row (parts 1) next head content more rest (record { major = Tag; n = n; head = h; counted = refl }) f e
  in_content _ n next head content more rest h f e = absurd (none_left content more next (e ∙ f))

  in_endless : (e : Endless) (next : ℕ) (content more rest : List ℕ) → Contents d (endless e) rest → content ++ next ∷ more ≡ rest → Fronts (outer ++ (endless_byte e ∷ content))
  in_endless (chunks kind) next content more rest f q = in_chunks kind next content more rest f q
  in_endless item_row next content more rest f q = in_row items next (159 ∷ []) content more rest refl f q
  in_endless pair_row next content more rest f q = in_row pairs next (191 ∷ []) content more rest refl f q

  by_opening : (o : Opening) (first rest cut : List ℕ) (next : ℕ) (more : List ℕ) → IsOpening o first → Contents d o rest → cut ++ next ∷ more ≡ first ++ rest → Fronts (outer ++ cut)
  by_opening (counted major n) first rest cut next more h f e =
      elim (split_at cut first next more rest e) [
        | inl l ↦ in_head d levels None outer [] i refl cut major n next first l.0 tt h (room_of d (body_of major n) rest f) l.1
        | inr r ↦ subst (λ y. Fronts (outer ++ y)) (sym r.1) (in_content major n next first r.0 more rest h f r.2)
      ]
  by_opening (endless o) first rest [] next more h f e = front_of d levels None outer [] [] (first_spot None levels) i refl (at_start refl)
  by_opening (endless o) first rest (a ∷ cut) next more h f e =
      let q : a ∷ (cut ++ next ∷ more) ≡ endless_byte o ∷ rest = e ∙ ap (λ z. z ++ rest) h in
      let b : a ≡ endless_byte o = cc in
      let r : cut ++ next ∷ more ≡ rest = cc in
      subst (λ z. Fronts (outer ++ (z ∷ cut))) (sym b) (in_endless o next cut more rest f r)

  in_item : (w cut : List ℕ) (next : ℕ) (more : List ℕ) → IsItem d w → w ≡ cut ++ next ∷ more → Fronts (outer ++ cut)
  in_item w cut next more h e =
      let x = headed d w h in
      by_opening x.opening x.first x.rest cut next more x.opens x.fills (sym e ∙ x.form)

below_of : (d : ℕ) → Deeper d → Below d
below_of d rec levels outer w cut next more i h e = in_item d levels outer i rec w cut next more h e

fronts : (d : ℕ) → Below d
fronts zero = below_of zero (λ below e. absurd (omega arith))
fronts (suc d) = below_of (suc d) (λ below e. let q : d ≡ below = omega arith in subst Below q (fronts d))

pub open-front : (s : List ℕ) → CanGoOnWithin 16 s → Fronts s
open-front s o = fronts 16 [] [] (s ++ o.0 ∷ o.1) s o.0 o.1 (refl, refl) o.2 refl
