-- What stands inside lists, maps, tags and strings: how it closes, and what begins there.
use Rattle.std.proofs.Common.{◌≡◌, ℕ, zero, suc, ◌+◌, ◌-◌, ◌*◌, ◌<◌, true, List, [], ◌∷◌, ◌++◌, length, replicate, Option, Some, None, refl, sym, ap, subst, ◌∙◌, append_assoc, append-nil, arith}
use Rattle.std.proofs.lemmas.List.{length-append, length-replicate, append_cancel_left}
use Rattle.grasp_cbor.specs.Head.{direct}
use Rattle.grasp_cbor.specs.Encodes.{string_major}
use Rattle.grasp_cbor.proofs.Whole.{one_encoded}
use Rattle.grasp_cbor.specs.declared.heads.StringKind.{StringKind}
use Rattle.grasp_cbor.specs.declared.heads.Major.{Major}
use Rattle.grasp_cbor.specs.declared.heads.Major.TheVariants.{Unsigned}
use Rattle.grasp_cbor.specs.declared.walker.Level.{Level}
use Rattle.grasp_cbor.specs.declared.walker.Level.TheVariants.{Parts, Items, Keys, Values}
use Rattle.grasp_cbor.proofs.HeadBytes.{AllBytes-append}
use Rattle.grasp_cbor.specs.Bytes.{AllBytes, joined}
use Rattle.grasp_cbor.specs.CanGoOn.{IsItem, AreItems}
use Rattle.grasp_cbor.specs.Front.{some_parts, body_of, Opens, HasParts, Inside, InString, can_break}
use Rattle.grasp_cbor.proofs.Shapes.{Sort, parts, items, pairs, Counts, closing, OpensRow, IsRow, IsChunk, ChunkRow, IsChunks, IsPiece, chunks, item_row, pair_row, endless_byte, Opening, counted, endless, IsOpening, Fills, Contents, ChunkRow-append, chunk_row, headed, item_of, row_item, chunks_item, chunk_item, chunk_items}
use Rattle.grasp_cbor.proofs.Openings.{same_openings, opening_not_break, item_not_break}

-- ---- rows

pub AreItems-append : (d : ℕ) (xs ys : List (List ℕ)) → AreItems d xs → AreItems d ys → AreItems d (xs ++ ys)
AreItems-append d [] ys h k = k
AreItems-append d (x ∷ xs) ys h k = (h.0, AreItems-append d xs ys h.1 k)

pub joined-append : (xs ys : List (List ℕ)) → joined (xs ++ ys) ≡ joined xs ++ joined ys
joined-append [] ys = refl
joined-append (x ∷ xs) ys = ap (λ z. x ++ z) (joined-append xs ys) ∙ sym (append_assoc x (joined xs) (joined ys))

pub zero_item : (d : ℕ) → IsItem d (0 ∷ [])
zero_item d = item_of Unsigned 0 d (0 ∷ []) [] (0 ∷ []) (record { size = direct; fits = omega arith; fine = tt; form = refl }) refl refl

pub zero_items : (d n : ℕ) → AreItems d (replicate n (0 ∷ []))
zero_items d zero = tt
zero_items d (suc n) = (zero_item d, zero_items d n)

pub zero_bytes : (n : ℕ) → AllBytes (joined (replicate n (0 ∷ [])))
zero_bytes zero = tt
zero_bytes (suc n) = (omega arith, zero_bytes n)

-- ---- one item

pub same_item : (a b : ℕ) (s w x y : List ℕ) → IsItem a s → IsItem b w → s ++ x ≡ w ++ y → s ≡ w
same_item a b s w x y i j e = (one_encoded i.item j.item s w x y i.encoding j.encoding e).1

-- ---- levels and rows

abbrev pub sort_of : Level → ℕ → Sort
sort_of (Parts left) k = parts (k + left)
sort_of Items k = items
sort_of Keys k = pairs
sort_of Values k = pairs

pub opens_row : (level : Level) (k : ℕ) (s : List ℕ) → Opens level k s → OpensRow (sort_of level k) s
opens_row (Parts left) k s o = o.1
opens_row Items k s o = o
opens_row Keys k s o = o.0
opens_row Values k s o = o.0

-- how many parts make it whole after one more
abbrev pub still : Level → ℕ
still (Parts left) = left - 1
still Items = 0
still Keys = 1
still Values = 0

counts_up : (level : Level) (k : ℕ) (s : List ℕ) → Opens level k s → Counts (sort_of level k) (k + 1 + still level)
counts_up (Parts left) k s o = let l = o.0 in omega arith
counts_up Items k s o = tt
counts_up Keys k s o = let e = o.2 in (o.1 + 1, omega arith)
counts_up Values k s o = let e = o.2 in (o.1 + 1, omega arith)

closing_bytes : (sort : Sort) → AllBytes (closing sort)
closing_bytes (parts n) = tt
closing_bytes items = (omega arith, tt)
closing_bytes pairs = (omega arith, tt)

-- ---- closing

regroup : (p j w z c : List ℕ) → (p ++ j) ++ (w ++ (z ++ c)) ≡ p ++ ((j ++ (w ++ z)) ++ c)
regroup p j w z c = simp append_assoc refl

pub record ClosesOne (d : ℕ) (own w : List ℕ) : Type 0 where
  pub more : List ℕ
  pub item : IsItem (d + 1) (own ++ (w ++ more))
  pub bytes : AllBytes more

pub close_one : (d : ℕ) (level : Level) (own w : List ℕ) → HasParts d level own → IsItem d w → ClosesOne d own w
close_one d level own w p h =
    let zeros : List (List ℕ) = replicate (still level) (0 ∷ []) in
    let ws : List (List ℕ) = p.parts ++ (w ∷ zeros) in
    let sort : Sort = sort_of level (length p.parts) in
    let len : length p.parts + 1 + still level ≡ length ws = omega (arith, length-append p.parts (w ∷ zeros), length-replicate {A = List ℕ} (still level) (0 ∷ [])) in
    let row : IsRow (d + 1) sort (joined ws ++ closing sort) = record { below = d; row = ws; room = refl; each = AreItems-append d p.parts (w ∷ zeros) p.each (h, zero_items d (still level)); counts = subst (Counts sort) len (counts_up level (length p.parts) p.opening p.opens); form = refl } in
    let form : own ++ (w ++ (joined zeros ++ closing sort)) ≡ p.opening ++ (joined ws ++ closing sort) =
    ap (λ x. x ++ (w ++ (joined zeros ++ closing sort))) p.form
    ∙ regroup p.opening (joined p.parts) w (joined zeros) (closing sort)
    ∙ ap (λ x. p.opening ++ (x ++ closing sort)) (sym (joined-append p.parts (w ∷ zeros))) in
    record { more = joined zeros ++ closing sort; bytes = AllBytes-append (joined zeros) (closing sort) (zero_bytes (still level)) (closing_bytes sort); item = row_item sort (d + 1) p.opening (joined ws ++ closing sort) _ (opens_row level (length p.parts) p.opening p.opens) row form }

pub record Closes (s : List ℕ) : Type 0 where
  pub more : List ℕ
  pub item : IsItem 16 (s ++ more)
  pub bytes : AllBytes more

further : (o own w m n : List ℕ) → ((o ++ own) ++ w) ++ (m ++ n) ≡ (o ++ (own ++ (w ++ m))) ++ n
further o own w m n = simp append_assoc refl

pub closes : (levels : List Level) (d : ℕ) (outer w : List ℕ) → Inside d levels outer → IsItem d w → Closes (outer ++ w)
closes [] d outer w i h =
    record { more = []; bytes = tt; item = subst (λ x. IsItem 16 ((x ++ w) ++ [])) (sym i.1) (subst (λ x. IsItem 16 x) (sym (append-nil w)) (subst (λ k. IsItem k w) i.0 h)) }
closes (level ∷ levels) d outer w i h =
    let o : List ℕ = i.0 in
    let own : List ℕ = i.1 in
    let one = close_one d level own w i.3 h in
    let c = closes levels (d + 1) o (own ++ (w ++ one.more)) i.2 one.item in
    let form : (outer ++ w) ++ (one.more ++ c.more) ≡ (o ++ (own ++ (w ++ one.more))) ++ c.more = ap (λ x. (x ++ w) ++ (one.more ++ c.more)) i.4 ∙ further o own w one.more c.more in
    record { more = one.more ++ c.more; bytes = AllBytes-append one.more c.more one.bytes c.bytes; item = subst (λ x. IsItem 16 x) (sym form) c.item }

pub record ClosesString (d : ℕ) (opened w : List ℕ) : Type 0 where
  pub more : List ℕ
  pub item : IsItem d (opened ++ (w ++ more))
  pub bytes : AllBytes more

-- one more chunk, and what follows
pub chunk_more : (ws : List (List ℕ)) (w y : List ℕ) → joined ws ++ (w ++ y) ≡ joined (ws ++ w ∷ []) ++ y
chunk_more ws w y =
    sym (append_assoc (joined ws) w y) ∙ ap (λ x. (joined ws ++ x) ++ y) (sym (append-nil w)) ∙ ap (λ x. x ++ y) (sym (joined-append ws (w ∷ [])))

pub string_closes : (string : Option StringKind) (d : ℕ) (opened w : List ℕ) → InString string opened → IsPiece string d w → ClosesString d opened w
string_closes None d opened w b h = record { more = []; bytes = tt; item = subst (λ x. IsItem d (x ++ (w ++ []))) (sym b) (subst (λ x. IsItem d x) (sym (append-nil w)) h) }
string_closes (Some kind) d opened w b h =
    let r = chunk_row kind b.0 b.1 b.2 in
    let body : List ℕ = b.1 in
    let rest : IsChunks kind (body ++ (w ++ 255 ∷ [])) = record { row = r.0 ++ w ∷ []; each = ChunkRow-append kind r.0 (w ∷ []) r.1 (h, tt); form = ap (λ x. x ++ (w ++ 255 ∷ [])) r.2 ∙ chunk_more r.0 w (255 ∷ []) } in
    record { more = 255 ∷ []; bytes = (omega arith, tt); item = chunks_item kind d (body ++ (w ++ 255 ∷ [])) _ rest (ap (λ x. x ++ (w ++ 255 ∷ [])) b.3) }

-- ---- what an item is that begins so

parts_filled : (d : ℕ) (major : Major) (n count : ℕ) (s : List ℕ) → body_of major n ≡ some_parts count → Fills d (body_of major n) s → IsRow d (parts count) s
parts_filled d major n count s e f = subst (λ b. Fills d b s) e f

-- the opening of a row
pub record OpensAs (d : ℕ) (sort : Sort) (first : List ℕ) : Type 0 where
  pub opening : Opening
  pub opens : IsOpening opening first
  pub fills : (s : List ℕ) → Contents d opening s → IsRow d sort s

pub opens_as : (d : ℕ) (sort : Sort) (first : List ℕ) → OpensRow sort first → OpensAs d sort first
opens_as d (parts n) first o = record { opening = counted o.major o.n; opens = o.head; fills = λ s f. parts_filled d o.major o.n n s o.counted f }
opens_as d items first o = record { opening = endless item_row; opens = o; fills = λ s f. f }
opens_as d pairs first o = record { opening = endless pair_row; opens = o; fills = λ s f. f }

pub record Within (d : ℕ) (sort : Sort) (x y : List ℕ) : Type 0 where
  pub rest : List ℕ
  pub row : IsRow d sort rest
  pub form : x ≡ rest ++ y

pub row_within : (d : ℕ) (sort : Sort) (first w x y : List ℕ) → OpensRow sort first → IsItem d w → first ++ x ≡ w ++ y → Within d sort x y
row_within d sort first w x y o i e =
    let a = opens_as d sort first o in
    let h = headed d w i in
    let q = same_openings a.opening h.opening first h.first x (h.rest ++ y) a.opens h.opens (e ∙ ap (λ z. z ++ y) h.form ∙ append_assoc h.first h.rest y) in
    record { rest = h.rest; row = a.fills h.rest (subst (λ z. Contents d z h.rest) (sym q.opening) h.fills); form = q.rest }

pub record ChunksWithin (kind : StringKind) (x y : List ℕ) : Type 0 where
  pub rest : List ℕ
  pub row : IsChunks kind rest
  pub form : x ≡ rest ++ y

pub chunks_within : (d : ℕ) (kind : StringKind) (w x y : List ℕ) → IsItem d w → (32 * string_major kind + 31) ∷ x ≡ w ++ y → ChunksWithin kind x y
chunks_within d kind w x y i e =
    let h = headed d w i in
    let q = same_openings (endless (chunks kind)) h.opening ((32 * string_major kind + 31) ∷ []) h.first x (h.rest ++ y) refl h.opens (e ∙ ap (λ z. z ++ y) h.form ∙ append_assoc h.first h.rest y) in
    record { rest = h.rest; row = subst (λ z. Contents d z h.rest) (sym q.opening) h.fills; form = q.rest }

-- ---- one after another

abbrev pub Each : (List ℕ → Type 0) → List (List ℕ) → Type 0
Each P [] = Unit {0}
Each P (w ∷ ws) = P w × Each P ws

pub each_item : (d : ℕ) (ws : List (List ℕ)) → AreItems d ws → Each (λ w. IsItem d w) ws
each_item d [] h = tt
each_item d (w ∷ ws) h = (h.0, each_item d ws h.1)

pub item_each : (d : ℕ) (ws : List (List ℕ)) → Each (λ w. IsItem d w) ws → AreItems d ws
item_each d [] h = tt
item_each d (w ∷ ws) h = (h.0, item_each d ws h.1)

pub each_chunk : (kind : StringKind) (ws : List (List ℕ)) → ChunkRow kind ws → Each (λ w. IsChunk kind w) ws
each_chunk kind [] h = tt
each_chunk kind (w ∷ ws) h = (h.0, each_chunk kind ws h.1)

pub chunk_each : (kind : StringKind) (ws : List (List ℕ)) → Each (λ w. IsChunk kind w) ws → ChunkRow kind ws
chunk_each kind [] h = tt
chunk_each kind (w ∷ ws) h = (h.0, chunk_each kind ws h.1)

-- so many are there, and this is what follows: one more, or the end, or nothing that can be
pub data Next (P : List ℕ → Type 0) (k n : ℕ) (rest tail : List ℕ) : Type 0 where
  one_more : (w after : List ℕ) → P w → k < n → rest ≡ w ++ (after ++ tail) → Next P k n rest tail
  stops : k ≡ n → rest ≡ tail → Next P k n rest tail
  beyond : (a : ℕ) (w after : List ℕ) → IsItem a w → n < k → tail ≡ w ++ after → Next P k n rest tail

module _ (P : List ℕ → Type 0) (b : ℕ) (is : (w : List ℕ) → P w → IsItem b w) where
  up : (k n : ℕ) (rest tail : List ℕ) → Next P k n rest tail → Next P (suc k) (suc n) rest tail
  up k n rest tail (one_more w after p l e) = one_more w after p (omega arith) e
  up k n rest tail (stops q e) = stops (ap suc q) e
  up k n rest tail (beyond a w after i l e) = beyond a w after i (omega arith) e

  pub next : (ps ws : List (List ℕ)) (a : ℕ) (rest tail : List ℕ) → AreItems a ps → Each P ws → joined ps ++ rest ≡ joined ws ++ tail → Next P (length ps) (length ws) rest tail
  next [] [] a rest tail h k e = stops refl e
  next [] (w ∷ ws) a rest tail h k e = one_more w (joined ws) k.0 (omega arith) (e ∙ append_assoc w (joined ws) tail)
  next (p ∷ ps) [] a rest tail h k e = beyond a p (joined ps ++ rest) h.0 (omega arith) (sym e ∙ append_assoc p (joined ps) rest)
  next (p ∷ ps) (w ∷ ws) a rest tail h k e =
      let f : p ++ (joined ps ++ rest) ≡ w ++ (joined ws ++ tail) = sym (append_assoc p (joined ps) rest) ∙ e ∙ append_assoc w (joined ws) tail in
      let q : p ≡ w = same_item a b p w (joined ps ++ rest) (joined ws ++ tail) h.0 (is w k.0) f in
      up (length ps) (length ws) rest tail (next ps ws a rest tail h.1 k.1 (append_cancel_left w (joined ps ++ rest) (joined ws ++ tail) (ap (λ x. x ++ (joined ps ++ rest)) (sym q) ∙ f)))

-- ---- what begins inside

abbrev pub Breaks : Option StringKind → List Level → Type 0
Breaks None levels = can_break levels ≡ true
Breaks (Some kind) levels = Unit {0}

pub data Comes (string : Option StringKind) (levels : List Level) (d : ℕ) (s : List ℕ) : Type 0 where
  piece : (w after : List ℕ) → IsPiece string d w → s ≡ w ++ after → Comes string levels d s
  break : (after : List ℕ) → Breaks string levels → s ≡ 255 ∷ after → Comes string levels d s

level_comes : (level : Level) (levels : List Level) (d k n : ℕ) (rest after opening : List ℕ) → Opens level k opening → Counts (sort_of level k) n → Next (λ w. IsItem d w) k n rest (closing (sort_of level k) ++ after) → Comes None (level ∷ levels) d rest
level_comes level levels d k n rest after opening o c (one_more w z p l e) = piece w (z ++ (closing (sort_of level k) ++ after)) p e
level_comes (Parts left) levels d k n rest after opening o c (stops q e) = absurd (let l = o.0 in omega arith)
level_comes Items levels d k n rest after opening o c (stops q e) = break after refl e
level_comes Keys levels d k n rest after opening o c (stops q e) = break after refl e
level_comes Values levels d k n rest after opening o c (stops q e) = absurd (let a = o.2 in let b = c.1 in omega arith)
level_comes (Parts left) levels d k n rest after opening o c (beyond a w z i l e) = absurd (omega arith)
level_comes _ levels d k n rest after opening o c (beyond a w z i l e) = absurd (item_not_break a w after z i e)

-- an opened row begins with no break
row_not_break : (sort : Sort) (first x y : List ℕ) → OpensRow sort first → first ++ x ≡ 255 ∷ y → ⊥
row_not_break sort first x y o e =
    let a = opens_as 0 sort first o in
    opening_not_break a.opening first y x a.opens (sym e)

begins_in : (level : Level) (levels : List Level) (d : ℕ) (own rest : List ℕ) → HasParts d level own → Comes None levels (d + 1) (own ++ rest) → Comes None (level ∷ levels) d rest
begins_in level levels d own rest p (break after b e) =
    absurd (row_not_break (sort_of level (length p.parts)) p.opening (joined p.parts ++ rest) after (opens_row level (length p.parts) p.opening p.opens) (sym (append_assoc p.opening (joined p.parts) rest) ∙ ap (λ y. y ++ rest) (sym p.form) ∙ e))
begins_in level levels d own rest p (piece w after is e) =
    let sort : Sort = sort_of level (length p.parts) in
    let f : p.opening ++ (joined p.parts ++ rest) ≡ w ++ after = sym (append_assoc p.opening (joined p.parts) rest) ∙ ap (λ y. y ++ rest) (sym p.form) ∙ e in
    let r = row_within (d + 1) sort p.opening w (joined p.parts ++ rest) after (opens_row level (length p.parts) p.opening p.opens) is f in
    let same : r.row.below ≡ d = let k = r.row.room in omega arith in
    let g : joined p.parts ++ rest ≡ joined r.row.row ++ (closing sort ++ after) = r.form ∙ ap (λ y. y ++ after) r.row.form ∙ append_assoc (joined r.row.row) (closing sort) after in
    level_comes level levels d (length p.parts) (length r.row.row) rest after p.opening p.opens r.row.counts
    (next (λ w. IsItem d w) d (λ w i. i) p.parts r.row.row d rest (closing sort ++ after) p.each (each_item d r.row.row (subst (λ k. AreItems k r.row.row) same r.row.each)) g)

begins : (levels : List Level) (d : ℕ) (outer rest s : List ℕ) → Inside d levels outer → IsItem 16 s → s ≡ outer ++ rest → Comes None levels d rest
begins [] d outer rest s i h e = piece s [] (subst (λ k. IsItem k s) (sym i.0) h) (sym (append-nil s ∙ e ∙ ap (λ x. x ++ rest) i.1))
begins (level ∷ levels) d outer rest s i h e =
    let o : List ℕ = i.0 in
    let own : List ℕ = i.1 in
    begins_in level levels d own rest i.3 (begins levels (d + 1) o (own ++ rest) s i.2 h (e ∙ ap (λ x. x ++ rest) i.4 ∙ append_assoc o own rest))

chunk_comes : (kind : StringKind) (levels : List Level) (d k n : ℕ) (rest after : List ℕ) → Next (λ w. IsChunk kind w) k n rest (255 ∷ after) → Comes (Some kind) levels d rest
chunk_comes kind levels d k n rest after (one_more w z p l e) = piece w (z ++ 255 ∷ after) p e
chunk_comes kind levels d k n rest after (stops q e) = break after tt e
chunk_comes kind levels d k n rest after (beyond a w z i l e) = absurd (item_not_break a w after z i e)

string_comes : (kind : StringKind) (levels : List Level) (d : ℕ) (opened rest : List ℕ) → InString (Some kind) opened → Comes None levels d (opened ++ rest) → Comes (Some kind) levels d rest
string_comes kind levels d opened rest b (break after q e) =
    absurd (opening_not_break (endless (chunks kind)) (endless_byte (chunks kind) ∷ []) after (b.1 ++ rest) refl (sym e ∙ ap (λ x. x ++ rest) b.3))
string_comes kind levels d opened rest b (piece w after is e) =
    let r = chunk_row kind b.0 b.1 b.2 in
    let c = chunks_within d kind w (b.1 ++ rest) after is (ap (λ x. x ++ rest) (sym b.3) ∙ e) in
    let f : joined r.0 ++ rest ≡ joined c.row.row ++ 255 ∷ after = ap (λ x. x ++ rest) (sym r.2) ∙ c.form ∙ ap (λ x. x ++ after) c.row.form ∙ append_assoc (joined c.row.row) (255 ∷ []) after in
    chunk_comes kind levels d (length r.0) (length c.row.row) rest after
    (next (λ w. IsChunk kind w) 0 (λ w p. chunk_item kind 0 w p) r.0 c.row.row 0 rest (255 ∷ after) (chunk_items kind 0 r.0 r.1) (each_chunk kind c.row.row c.row.each) f)

pub comes : (string : Option StringKind) (levels : List Level) (d : ℕ) (outer opened rest s : List ℕ) → Inside d levels outer → InString string opened → IsItem 16 s → s ≡ outer ++ (opened ++ rest) → Comes string levels d rest
comes None levels d outer opened rest s i b h e = begins levels d outer rest s i h (e ∙ ap (λ x. outer ++ (x ++ rest)) b)
comes (Some kind) levels d outer opened rest s i b h e = string_comes kind levels d opened rest b (begins levels d outer (opened ++ rest) s i h e)

pub depths : (levels : List Level) (d : ℕ) (outer : List ℕ) → Inside d levels outer → d + length levels ≡ 16
depths [] d outer i = omega (arith, i.0)
depths (level ∷ levels) d outer i = omega (arith, depths levels (d + 1) i.0 i.2)
