-- The next byte of a front stands at one spot.
use Rattle.std.proofs.Common.{◌≡◌, ℕ, zero, suc, ◌+◌, ◌*◌, ◌<◌, List, [], ◌∷◌, ◌++◌, length, Option, Some, None, refl, sym, ap, subst, ◌∙◌, ◌⊎◌, inl, inr, append_assoc, append-nil, add-one, arith}
use Rattle.std.proofs.lemmas.List.{length-append, append_cancel_left}
use Rattle.grasp_cbor.specs.Major.{major_number}
use Rattle.grasp_cbor.specs.Encodes.{string_major}
use Rattle.grasp_cbor.specs.Head.{sized_head}
use Rattle.grasp_cbor.proofs.Facts.Lists.{same_first}
use Rattle.grasp_cbor.proofs.Same.{same_head}
use Rattle.grasp_cbor.specs.declared.heads.StringKind.{StringKind}
use Rattle.grasp_cbor.specs.declared.heads.StringKind.TheVariants.{Bytes, Text}
use Rattle.grasp_cbor.specs.declared.heads.Major.{Major}
use Rattle.grasp_cbor.specs.declared.heads.Major.TheVariants.{ByteString, TextString, Array, Map, Tag}
use Rattle.grasp_cbor.specs.declared.walker.Level.{Level}
use Rattle.grasp_cbor.specs.declared.walker.Level.TheVariants.{Parts, Items, Keys, Values}
use Rattle.grasp_cbor.specs.Bytes.{joined}
use Rattle.grasp_cbor.specs.CanGoOn.{IsItem, CanGoOnWithin, AreItems}
use Rattle.grasp_cbor.specs.Front.{some_parts, body_of, IsHeadOf, Opens, HasParts, Inside, InString, Spot, in_text, IsCutHead, IsCut, at_start, at_simple, at_head, at_bytes, at_text, Front}
use Rattle.grasp_cbor.specs.Stands.{info_of}
use Rattle.grasp_cbor.proofs.HeadBytes.{AllBytes-append, tail_of, head_is}
use Rattle.grasp_cbor.proofs.Shapes.{item_row, pair_row, chunks, chunk_row, chunk_items, piece_item}
use Rattle.grasp_cbor.proofs.Openings.{EndlessByte, endless_is, info_below, head_byte, head_not_endless, same_openings, same_heads}
use Rattle.grasp_cbor.proofs.Insides.{same_item, sort_of, opens_row, opens_as, close_one}
use Rattle.grasp_cbor.proofs.Fronts.{cut_open, begun_open, regrouped}

-- ---- outside in

record IsBegun (levels : List Level) (d : ℕ) (s : List ℕ) (spot : Spot) : Type 0 where
  string : Option StringKind
  opened : List ℕ
  cut : List ℕ
  between : InString string opened
  begun : IsCut string levels d cut spot
  form : s ≡ opened ++ cut

abbrev Nest : ℕ → List Level → List ℕ → Spot → Type 0
Nest zero levels s spot = IsBegun levels zero s spot
Nest (suc d) levels s spot =
    IsBegun levels (suc d) s spot ⊎ ((level : Level) × (own rest : List ℕ) × HasParts d level own × Nest d (level ∷ levels) rest spot × (s ≡ own ++ rest))

nests : (levels : List Level) (d : ℕ) (outer t : List ℕ) (spot : Spot) → Inside d levels outer → Nest d levels t spot → Nest 16 [] (outer ++ t) spot
nests [] d outer t spot i h = subst (λ x. Nest 16 [] (x ++ t) spot) (sym i.1) (subst (λ k. Nest k [] t spot) i.0 h)
nests (level ∷ levels) d outer t spot i h =
    let o : List ℕ = i.0 in
    let own : List ℕ = i.1 in
    let inner : Nest (suc d) levels (own ++ t) spot = inr (level, own, t, i.3, h, refl) in
    let up : Inside (suc d) levels o = rw add-one at i.2 in
    subst (λ x. Nest 16 [] x spot) (sym (ap (λ x. x ++ t) i.4 ∙ append_assoc o own t)) (nests levels (suc d) o (own ++ t) spot up inner)

here : (d : ℕ) (levels : List Level) (s : List ℕ) (spot : Spot) → IsBegun levels d s spot → Nest d levels s spot
here zero levels s spot c = c
here (suc d) levels s spot c = inl c

-- ---- no item begins a front

abbrev NoItem : List ℕ → Type 0
NoItem s = (e : ℕ) (w z : List ℕ) → IsItem e w → s ≡ w ++ z → ⊥

open_no_item : (d : ℕ) (s : List ℕ) → CanGoOnWithin d s → NoItem s
open_no_item d s o e w z i f =
    let whole : w ++ (z ++ o.0 ∷ o.1) ≡ (s ++ o.0 ∷ o.1) ++ [] = sym (append_assoc w z (o.0 ∷ o.1)) ∙ ap (λ y. y ++ o.0 ∷ o.1) (sym f) ∙ sym (append-nil (s ++ o.0 ∷ o.1)) in
    let q : w ≡ s ++ o.0 ∷ o.1 = same_item e d w (s ++ o.0 ∷ o.1) (z ++ o.0 ∷ o.1) [] i o.2 whole in
    let k = ap length q in
    let m = ap length f in
    omega (arith, length-append s (o.0 ∷ o.1), length-append w z)

cut_no_item : (string : Option StringKind) (levels : List Level) (d : ℕ) (s : List ℕ) (spot : Spot) → IsCut string levels d s spot → NoItem s
cut_no_item string levels d s spot c = let o = cut_open string levels d s spot c in open_no_item d s (o.0, o.1, piece_item string d (s ++ o.0 ∷ o.1) o.2, o.3)

is_begun_open : (levels : List Level) (d : ℕ) (s : List ℕ) (spot : Spot) → IsBegun levels d s spot → CanGoOnWithin d s
is_begun_open levels d s spot b = subst (λ x. CanGoOnWithin d x) (sym b.form) (begun_open b.string levels d b.opened b.cut spot b.between b.begun)

nest_open : (d : ℕ) (levels : List Level) (s : List ℕ) (spot : Spot) → Nest d levels s spot → CanGoOnWithin d s
nest_open zero levels s spot b = is_begun_open levels zero s spot b
nest_open (suc d) levels s spot (inl b) = is_begun_open levels (suc d) s spot b
nest_open (suc d) levels s spot (inr p) =
    let w = nest_open d (p.0 ∷ levels) p.2 spot p.4 in
    let c = close_one d p.0 p.1 (p.2 ++ w.0 ∷ w.1) p.3 w.2 in
    let up : d + 1 ≡ suc d = omega arith in
    (w.0, w.1 ++ c.more, subst (λ k. IsItem k (s ++ w.0 ∷ (w.1 ++ c.more))) up (subst (λ x. IsItem (d + 1) x) (regrouped p.1 p.2 w.1 c.more w.0 ∙ ap (λ x. x ++ w.0 ∷ (w.1 ++ c.more)) (sym p.5)) c.item), AllBytes-append (w.0 ∷ w.1) c.more w.3 c.bytes)

nest_no_item : (d : ℕ) (levels : List Level) (s : List ℕ) (spot : Spot) → Nest d levels s spot → NoItem s
nest_no_item d levels s spot n = open_no_item d s (nest_open d levels s spot n)

-- after the same items that many are there, and the same rest
record IsRest (ps qs : List (List ℕ)) (t u : List ℕ) : Type 0 where
  count : length ps ≡ length qs
  rest : t ≡ u

same_rest : (ps qs : List (List ℕ)) (d e : ℕ) (t u : List ℕ) → AreItems d ps → AreItems e qs → NoItem t → NoItem u → joined ps ++ t ≡ joined qs ++ u → IsRest ps qs t u
same_rest [] [] d e t u h k none nu q = record { count = refl; rest = q }
same_rest [] (v ∷ qs) d e t u h k none nu q = absurd (none e v (joined qs ++ u) k.0 (q ∙ append_assoc v (joined qs) u))
same_rest (p ∷ ps) [] d e t u h k none nu q = absurd (nu d p (joined ps ++ t) h.0 (sym q ∙ append_assoc p (joined ps) t))
same_rest (p ∷ ps) (v ∷ qs) d e t u h k none nu q =
    let f : p ++ (joined ps ++ t) ≡ v ++ (joined qs ++ u) = sym (append_assoc p (joined ps) t) ∙ q ∙ append_assoc v (joined qs) u in
    let g : p ≡ v = same_item d e p v (joined ps ++ t) (joined qs ++ u) h.0 k.0 f in
    let r = same_rest ps qs d e t u h.1 k.1 none nu (append_cancel_left v (joined ps ++ t) (joined qs ++ u) (ap (λ x. x ++ (joined ps ++ t)) (sym g) ∙ f)) in
    record { count = ap suc r.count; rest = r.rest }

-- ---- what can't be two things

not_empty : (major : Major) (n : ℕ) (head y : List ℕ) → IsHeadOf major n head → head ++ y ≡ [] → ⊥
not_empty major n head y h e =
    let f : ((32 * major_number major + info_of h.size n) ∷ tail_of h.size n) ++ y ≡ [] = ap (λ z. z ++ y) (sym (h.form ∙ head_is h.size (major_number major) n)) ∙ e in
    cc

not_248 : (major : Major) (n : ℕ) (head y : List ℕ) → IsHeadOf major n head → major_number major < 7 → head ++ y ≡ 248 ∷ [] → ⊥
not_248 major n head y h l e =
    let k = head_byte major n 248 head [] y h (sym e) in
    let g = k.is in
    let i = k.low in
    omega arith

not_cut : (string : Option StringKind) (d : ℕ) (major : Major) (n : ℕ) (head y s : List ℕ) → IsCutHead string d s → IsHeadOf major n head → s ≡ head ++ y → ⊥
not_cut string d major n head y s c h e =
    let whole : sized_head c.size (major_number c.major) c.n ++ [] ≡ sized_head h.size (major_number major) n ++ (y ++ c.next ∷ c.more) =
    append-nil (sized_head c.size (major_number c.major) c.n) ∙ c.whole ∙ ap (λ z. z ++ c.next ∷ c.more) (sym c.form ∙ e ∙ ap (λ z. z ++ y) h.form) ∙ append_assoc (sized_head h.size (major_number major) n) y (c.next ∷ c.more) in
    let q = same_head c.size h.size c.major major c.n n [] (y ++ c.next ∷ c.more) c.fits h.fits whole in
    let k = ap length q.rest in
    omega (arith, length-append y (c.next ∷ c.more))

bytes_text : ByteString ≡ TextString → ⊥
bytes_text e = cc

-- a cut item or chunk begins with no byte of indefinite length
pub cut_not_endless : (string : Option StringKind) (levels : List Level) (d : ℕ) (s : List ℕ) (spot : Spot) (byte : ℕ) (x : List ℕ) → EndlessByte byte → IsCut string levels d s spot → byte ∷ x ≡ s → ⊥
cut_not_endless string levels d s _ byte x b (at_start e) f = let k = ap length (f ∙ e) in omega arith
cut_not_endless string levels d s _ byte x b (at_simple e m) f = let q : byte ≡ 248 = cc in let p = b.is in omega arith
cut_not_endless string levels d s _ byte x b (at_head c ne) f =
    let w : (32 * major_number c.major + info_of c.size c.n) ∷ tail_of c.size c.n ≡ (c.first ∷ c.got) ++ c.next ∷ c.more = sym (head_is c.size (major_number c.major) c.n) ∙ c.whole in
    let g : 32 * major_number c.major + info_of c.size c.n ≡ c.first = cc in
    let h : byte ∷ x ≡ c.first ∷ c.got = f ∙ c.form in
    let q : byte ≡ c.first = cc in
    let l = info_below c.size c.n c.fits in
    let p = b.is in
    omega arith
cut_not_endless string levels d s _ byte x b (at_bytes t l c) f = head_not_endless ByteString _ byte c.opening x t b c.head (f ∙ c.form)
cut_not_endless string levels d s _ byte x b (at_text t l c h) f = head_not_endless TextString _ byte c.opening x t b c.head (f ∙ c.form)

-- ---- one cut

one_cut : (string : Option StringKind) (levels : List Level) (d : ℕ) (s : List ℕ) (a b : Spot) → IsCut string levels d s a → IsCut string levels d s b → a ≡ b
one_cut string levels d s _ _ (at_start e) (at_simple f m) = absurd (let k = ap length (sym e ∙ f) in omega arith)
one_cut string levels d s _ _ (at_start e) (at_head c ne) = absurd (let k = ap length (sym e ∙ c.form) in omega arith)
one_cut string levels d s _ _ (at_start e) (at_bytes t l c) = absurd (not_empty ByteString _ c.opening t c.head (sym c.form ∙ e))
one_cut string levels d s _ _ (at_start e) (at_text t l c h) = absurd (not_empty TextString _ c.opening t c.head (sym c.form ∙ e))
one_cut string levels d s _ _ (at_simple f m) (at_start e) = absurd (let k = ap length (sym e ∙ f) in omega arith)
one_cut string levels d s _ _ (at_simple f m) (at_head c ne) = absurd (ne f)
one_cut string levels d s _ _ (at_simple f m) (at_bytes t l c) = absurd (not_248 ByteString _ c.opening t c.head (omega arith) (sym c.form ∙ f))
one_cut string levels d s _ _ (at_simple f m) (at_text t l c h) = absurd (not_248 TextString _ c.opening t c.head (omega arith) (sym c.form ∙ f))
one_cut string levels d s _ _ (at_head c ne) (at_start e) = absurd (let k = ap length (sym e ∙ c.form) in omega arith)
one_cut string levels d s _ _ (at_head c ne) (at_simple f m) = absurd (ne f)
one_cut string levels d s _ _ (at_head c ne) (at_text t l b h) = absurd (not_cut string d TextString _ b.opening t s c b.head b.form)
one_cut string levels d s _ _ (at_bytes t l c) (at_start e) = absurd (not_empty ByteString _ c.opening t c.head (sym c.form ∙ e))
one_cut string levels d s _ _ (at_bytes t l c) (at_simple f m) = absurd (not_248 ByteString _ c.opening t c.head (omega arith) (sym c.form ∙ f))
one_cut string levels d s _ _ (at_bytes t l c) (at_text u m b h) = absurd (bytes_text (same_heads ByteString TextString _ _ c.opening b.opening t u c.head b.head (sym c.form ∙ b.form)).major)
one_cut string levels d s _ _ (at_text t l c g) (at_start e) = absurd (not_empty TextString _ c.opening t c.head (sym c.form ∙ e))
one_cut string levels d s _ _ (at_text t l c g) (at_simple f m) = absurd (not_248 TextString _ c.opening t c.head (omega arith) (sym c.form ∙ f))
one_cut string levels d s _ _ (at_text t l c g) (at_head b nf) = absurd (not_cut string d TextString _ c.opening t s b c.head c.form)
one_cut string levels d s _ _ (at_text t l c g) (at_bytes u m b) = absurd (bytes_text (same_heads ByteString TextString _ _ b.opening c.opening u t b.head c.head (sym b.form ∙ c.form)).major)
one_cut string levels d s _ _ (at_text t l c g) (at_text u m b h) =
    let q = same_heads TextString TextString (length t + l) (length u + m) c.opening b.opening t u c.head b.head (sym c.form ∙ b.form) in
    let content = q.rest in
    let n = q.number in
    let len = ap length content in
    let left : l ≡ m = omega arith in
    λ i. in_text (content i) (left i)
one_cut string levels d s _ _ _ _ = refl

-- ---- a cut item is no list with parts

parts_code : (major : Major) (n count : ℕ) → body_of major n ≡ some_parts count → (3 < major_number major) × (major_number major < 7)
parts_code Array n count e = (omega arith, omega arith)
parts_code Map n count e = (omega arith, omega arith)
parts_code Tag n count e = (omega arith, omega arith)
parts_code _ n count e = absurd cc

cut_not_parts : (string : Option StringKind) (levels : List Level) (d : ℕ) (s : List ℕ) (spot : Spot) (major : Major) (n count : ℕ) (opening y : List ℕ) → IsCut string levels d s spot → IsHeadOf major n opening → body_of major n ≡ some_parts count → s ≡ opening ++ y → ⊥
cut_not_parts string levels d s _ major n count opening y (at_start e) h b f = not_empty major n opening y h (sym f ∙ e)
cut_not_parts string levels d s _ major n count opening y (at_simple e m) h b f = not_248 major n opening y h (parts_code major n count b).1 (sym f ∙ e)
cut_not_parts string levels d s _ major n count opening y (at_head c ne) h b f = not_cut string d major n opening y s c h f
cut_not_parts string levels d s _ major n count opening y (at_bytes t l c) h b f =
    let q = same_heads ByteString major _ n c.opening opening t y c.head h (sym c.form ∙ f) in
    let k : 2 ≡ major_number major = ap major_number q.major in
    let p = (parts_code major n count b).0 in
    omega arith
cut_not_parts string levels d s _ major n count opening y (at_text t l c g) h b f =
    let q = same_heads TextString major _ n c.opening opening t y c.head h (sym c.form ∙ f) in
    let k : 3 ≡ major_number major = ap major_number q.major in
    let p = (parts_code major n count b).0 in
    omega arith

cut_not_level : (levels : List Level) (d k : ℕ) (s : List ℕ) (spot : Spot) (level : Level) (opening y : List ℕ) → IsCut None levels d s spot → Opens level k opening → s ≡ opening ++ y → ⊥
cut_not_level levels d k s spot (Parts left) opening y c o f = cut_not_parts None levels d s spot o.1.major o.1.n (k + left) opening y c o.1.head o.1.counted f
cut_not_level levels d k s spot Items opening y c o f = cut_not_endless None levels d s spot 159 y (endless_is item_row) c (sym (f ∙ ap (λ z. z ++ y) o))
cut_not_level levels d k s spot Keys opening y c o f = cut_not_endless None levels d s spot 191 y (endless_is pair_row) c (sym (f ∙ ap (λ z. z ++ y) o.0))
cut_not_level levels d k s spot Values opening y c o f = cut_not_endless None levels d s spot 191 y (endless_is pair_row) c (sym (f ∙ ap (λ z. z ++ y) o.0))

string_below : (kind : StringKind) → 32 * string_major kind + 31 < 159
string_below Bytes = omega arith
string_below Text = omega arith

string_not_level : (kind : StringKind) (k : ℕ) (level : Level) (opening x y : List ℕ) → Opens level k opening → (32 * string_major kind + 31) ∷ x ≡ opening ++ y → ⊥
string_not_level kind k (Parts left) opening x y o f = head_not_endless o.1.major o.1.n (32 * string_major kind + 31) opening x y (endless_is (chunks kind)) o.1.head f
string_not_level kind k Items opening x y o f = let l = string_below kind in let q : (32 * string_major kind + 31) ∷ x ≡ 159 ∷ y = f ∙ ap (λ z. z ++ y) o in let r : 32 * string_major kind + 31 ≡ 159 = cc in omega arith
string_not_level kind k Keys opening x y o f = let l = string_below kind in let q : (32 * string_major kind + 31) ∷ x ≡ 191 ∷ y = f ∙ ap (λ z. z ++ y) o.0 in let r : 32 * string_major kind + 31 ≡ 191 = cc in omega arith
string_not_level kind k Values opening x y o f = let l = string_below kind in let q : (32 * string_major kind + 31) ∷ x ≡ 191 ∷ y = f ∙ ap (λ z. z ++ y) o.0 in let r : 32 * string_major kind + 31 ≡ 191 = cc in omega arith

not_nested : (string : Option StringKind) (levels : List Level) (d e : ℕ) (opened cut : List ℕ) (spot : Spot) (level : Level) (own y : List ℕ) → InString string opened → IsCut string levels d cut spot → HasParts e level own → opened ++ cut ≡ own ++ y → ⊥
not_nested None levels d e opened cut spot level own y b c p f =
    cut_not_level levels d (length p.parts) cut spot level p.opening (joined p.parts ++ y) c p.opens (ap (λ z. z ++ cut) (sym b) ∙ f ∙ ap (λ z. z ++ y) p.form ∙ append_assoc p.opening (joined p.parts) y)
not_nested (Some kind) levels d e opened cut spot level own y b c p f =
    string_not_level kind (length p.parts) level p.opening (b.1 ++ cut) (joined p.parts ++ y) p.opens (ap (λ z. z ++ cut) (sym b.3) ∙ f ∙ ap (λ z. z ++ y) p.form ∙ append_assoc p.opening (joined p.parts) y)

-- ---- one item that has begun

same_string : (kind : StringKind) (levels : List Level) (d : ℕ) (o t c u : List ℕ) (a b : Spot) → InString (Some kind) o → InString (Some kind) t → IsCut (Some kind) levels d c a → IsCut (Some kind) levels d u b → o ++ c ≡ t ++ u → a ≡ b
same_string kind levels d o t c u a b p q f g e =
    let v = chunk_row kind p.0 p.1 p.2 in
    let w = chunk_row kind q.0 q.1 q.2 in
    let whole : (32 * string_major kind + 31) ∷ (p.1 ++ c) ≡ (32 * string_major kind + 31) ∷ (q.1 ++ u) = ap (λ z. z ++ c) (sym p.3) ∙ e ∙ ap (λ z. z ++ u) q.3 in
    let body : p.1 ++ c ≡ q.1 ++ u = cc in
    let r = same_rest v.0 w.0 0 0 c u (chunk_items kind 0 v.0 v.1) (chunk_items kind 0 w.0 w.1) (cut_no_item (Some kind) levels d c a f) (cut_no_item (Some kind) levels d u b g) (ap (λ z. z ++ c) (sym v.2) ∙ body ∙ ap (λ z. z ++ u) w.2) in
    one_cut (Some kind) levels d u a b (subst (λ z. IsCut (Some kind) levels d z a) r.rest f) g

first_kinds : (k l : StringKind) (o t c u : List ℕ) → InString (Some k) o → InString (Some l) t → o ++ c ≡ t ++ u → 32 * string_major k + 31 ≡ 32 * string_major l + 31
first_kinds k l o t c u p q e =
    let whole : (32 * string_major k + 31) ∷ (p.1 ++ c) ≡ (32 * string_major l + 31) ∷ (q.1 ++ u) = ap (λ z. z ++ c) (sym p.3) ∙ e ∙ ap (λ z. z ++ u) q.3 in
    cc

one_begun : (p q : Option StringKind) (levels : List Level) (d : ℕ) (o t c u : List ℕ) (a b : Spot) → InString p o → InString q t → IsCut p levels d c a → IsCut q levels d u b → o ++ c ≡ t ++ u → a ≡ b
one_begun None None levels d o t c u a b p q f g e =
    let r : c ≡ u = ap (λ z. z ++ c) (sym p) ∙ e ∙ ap (λ z. z ++ u) q in
    one_cut None levels d u a b (subst (λ z. IsCut None levels d z a) r f) g
one_begun None (Some l) levels d o t c u a b p q f g e = absurd (cut_not_endless None levels d c a (32 * string_major l + 31) (q.1 ++ u) (endless_is (chunks l)) f (sym (ap (λ z. z ++ c) (sym p) ∙ e ∙ ap (λ z. z ++ u) q.3)))
one_begun (Some k) None levels d o t c u a b p q f g e = absurd (cut_not_endless None levels d u b (32 * string_major k + 31) (p.1 ++ c) (endless_is (chunks k)) g (ap (λ z. z ++ c) (sym p.3) ∙ e ∙ ap (λ z. z ++ u) q))
one_begun (Some Bytes) (Some Bytes) levels d o t c u a b p q f g e = same_string Bytes levels d o t c u a b p q f g e
one_begun (Some Text) (Some Text) levels d o t c u a b p q f g e = same_string Text levels d o t c u a b p q f g e
one_begun (Some Bytes) (Some Text) levels d o t c u a b p q f g e = absurd (let k : 32 * string_major Bytes + 31 ≡ 32 * string_major Text + 31 = first_kinds Bytes Text o t c u p q e in omega arith)
one_begun (Some Text) (Some Bytes) levels d o t c u a b p q f g e = absurd (let k : 32 * string_major Text + 31 ≡ 32 * string_major Bytes + 31 = first_kinds Text Bytes o t c u p q e in omega arith)

are_begun : (levels : List Level) (d : ℕ) (s : List ℕ) (a b : Spot) → IsBegun levels d s a → IsBegun levels d s b → a ≡ b
are_begun levels d s a b p q = one_begun p.string q.string levels d p.opened q.opened p.cut q.cut a b p.between q.between p.begun q.begun (sym p.form ∙ q.form)

-- ---- one nest

byte_159 : (x y : List ℕ) → 159 ∷ x ≡ 191 ∷ y → ⊥
byte_159 x y e = let q = same_first 159 191 x y e in omega arith

same_counts : (a b : ℕ) → some_parts a ≡ some_parts b → a ≡ b
same_counts a b e = cc

same_level : (l m : Level) (k : ℕ) (first other x y : List ℕ) → Opens l k first → Opens m k other → first ++ x ≡ other ++ y → l ≡ m
same_level (Parts a) (Parts b) k first other x y o p e =
    let q = same_heads o.1.major p.1.major o.1.n p.1.n first other x y o.1.head p.1.head e in
    let r : k + a ≡ k + b = same_counts (k + a) (k + b) (sym o.1.counted ∙ (λ i. body_of (q.major i) (q.number i)) ∙ p.1.counted) in
    let t : a ≡ b = omega arith in
    ap Parts t
same_level (Parts a) Items k first other x y o p e = absurd (head_not_endless o.1.major o.1.n 159 first y x (endless_is item_row) o.1.head (sym (e ∙ ap (λ z. z ++ y) p)))
same_level (Parts a) Keys k first other x y o p e = absurd (head_not_endless o.1.major o.1.n 191 first y x (endless_is pair_row) o.1.head (sym (e ∙ ap (λ z. z ++ y) p.0)))
same_level (Parts a) Values k first other x y o p e = absurd (head_not_endless o.1.major o.1.n 191 first y x (endless_is pair_row) o.1.head (sym (e ∙ ap (λ z. z ++ y) p.0)))
same_level Items (Parts b) k first other x y o p e = absurd (head_not_endless p.1.major p.1.n 159 other x y (endless_is item_row) p.1.head (ap (λ z. z ++ x) (sym o) ∙ e))
same_level Items Keys k first other x y o p e = absurd (byte_159 x y (ap (λ z. z ++ x) (sym o) ∙ e ∙ ap (λ z. z ++ y) p.0))
same_level Items Values k first other x y o p e = absurd (byte_159 x y (ap (λ z. z ++ x) (sym o) ∙ e ∙ ap (λ z. z ++ y) p.0))
same_level Keys (Parts b) k first other x y o p e = absurd (head_not_endless p.1.major p.1.n 191 other x y (endless_is pair_row) p.1.head (ap (λ z. z ++ x) (sym o.0) ∙ e))
same_level Keys Items k first other x y o p e = absurd (byte_159 y x (sym (ap (λ z. z ++ x) (sym o.0) ∙ e ∙ ap (λ z. z ++ y) p)))
same_level Keys Values k first other x y o p e = absurd (let a = o.2 in let b = p.2 in omega arith)
same_level Values (Parts b) k first other x y o p e = absurd (head_not_endless p.1.major p.1.n 191 other x y (endless_is pair_row) p.1.head (ap (λ z. z ++ x) (sym o.0) ∙ e))
same_level Values Items k first other x y o p e = absurd (byte_159 y x (sym (ap (λ z. z ++ x) (sym o.0) ∙ e ∙ ap (λ z. z ++ y) p)))
same_level Values Keys k first other x y o p e = absurd (let a = o.2 in let b = p.2 in omega arith)
same_level _ _ k first other x y o p e = refl

record AreOneLevel (l m : Level) (t u : List ℕ) : Type 0 where
  level : l ≡ m
  rest : t ≡ u

same_parts : (l m : Level) (d : ℕ) (own other t u : List ℕ) → HasParts d l own → HasParts d m other → NoItem t → NoItem u → own ++ t ≡ other ++ u → AreOneLevel l m t u
same_parts l m d own other t u p q none nu e =
    let f : p.opening ++ (joined p.parts ++ t) ≡ q.opening ++ (joined q.parts ++ u) =
    sym (append_assoc p.opening (joined p.parts) t) ∙ ap (λ z. z ++ t) (sym p.form) ∙ e ∙ ap (λ z. z ++ u) q.form ∙ append_assoc q.opening (joined q.parts) u in
    let a = opens_as d (sort_of l (length p.parts)) p.opening (opens_row l (length p.parts) p.opening p.opens) in
    let b = opens_as d (sort_of m (length q.parts)) q.opening (opens_row m (length q.parts) q.opening q.opens) in
    let one = same_openings a.opening b.opening p.opening q.opening (joined p.parts ++ t) (joined q.parts ++ u) a.opens b.opens f in
    let r = same_rest p.parts q.parts d d t u p.each q.each none nu one.rest in
    record { level = same_level l m (length q.parts) p.opening q.opening (joined p.parts ++ t) (joined q.parts ++ u) (subst (λ k. Opens l k p.opening) r.count p.opens) q.opens f; rest = r.rest }

one_nest : (d : ℕ) (levels : List Level) (s : List ℕ) (a b : Spot) → Nest d levels s a → Nest d levels s b → a ≡ b
one_nest zero levels s a b p q = are_begun levels zero s a b p q
one_nest (suc d) levels s a b (inl p) (inl q) = are_begun levels (suc d) s a b p q
one_nest (suc d) levels s a b (inl p) (inr q) = absurd (not_nested p.string levels (suc d) d p.opened p.cut a q.0 q.1 q.2 p.between p.begun q.3 (sym p.form ∙ q.5))
one_nest (suc d) levels s a b (inr p) (inl q) = absurd (not_nested q.string levels (suc d) d q.opened q.cut b p.0 p.1 p.2 q.between q.begun p.3 (sym q.form ∙ p.5))
one_nest (suc d) levels s a b (inr p) (inr q) =
    let e = same_parts p.0 q.0 d p.1 q.1 p.2 q.2 p.3 q.3 (nest_no_item d (p.0 ∷ levels) p.2 a p.4) (nest_no_item d (q.0 ∷ levels) q.2 b q.4) (sym p.5 ∙ q.5) in
    one_nest d (q.0 ∷ levels) q.2 a b (subst (λ l. Nest d (l ∷ levels) q.2 a) e.level (subst (λ x. Nest d (p.0 ∷ levels) x a) e.rest p.4)) q.4

nest_of : (s : List ℕ) (spot : Spot) → Front s spot → Nest 16 [] s spot
nest_of s spot f = subst (λ x. Nest 16 [] x spot) (sym f.form) (nests f.levels f.depth f.outer (f.opened ++ f.cut) spot f.inside (here f.depth f.levels (f.opened ++ f.cut) spot (record { string = f.string; opened = f.opened; cut = f.cut; between = f.between; begun = f.begun; form = refl })))

pub one_spot : (s : List ℕ) (a b : Spot) → Front s a → Front s b → a ≡ b
one_spot s a b f g = one_nest 16 [] s a b (nest_of s a f) (nest_of s b g)
