-- Where the walker stands is a front, and at each front it stands somewhere.
use Rattle.std.proofs.Common.{◌≡◌, ◌≢◌, ℕ, ◌+◌, ◌-◌, ◌*◌, ◌<◌, ◌≤◌, Bool, true, false, cond, ◌&&◌, List, [], ◌∷◌, ◌++◌, length, replicate, Option, Some, None, refl, sym, ap, subst, ◌∙◌, ◌⊎◌, inl, inr, arith}
use Rattle.std.proofs.lemmas.Bool.{le-leb, leb-true}
use Rattle.std.proofs.lemmas.List.{length-append, length-replicate}
use Rattle.grasp_cbor.specs.Major.{major_number}
use Rattle.grasp_cbor.specs.Head.{HeadSize, direct, one_byte, sized_head}
use Rattle.grasp_cbor.specs.declared.walker.FaultName.{FaultName}
use Rattle.grasp_cbor.specs.declared.utf8.Owed.{Owed}
use Rattle.grasp_cbor.specs.declared.heads.StringKind.{StringKind}
use Rattle.grasp_cbor.specs.declared.walker.Level.{Level}
use Rattle.grasp_cbor.specs.declared.heads.Major.{Major}
use Rattle.grasp_cbor.specs.declared.heads.Major.TheVariants.{Array, Map, Tag, Simple}
use Rattle.grasp_cbor.specs.declared.walker.Stage.{Stage}
use Rattle.grasp_cbor.specs.declared.walker.Stage.TheVariants.{Beginning, Heading, InBytes, InText}
use Rattle.grasp_cbor.specs.Bytes.{AllBytes}
use Rattle.grasp_cbor.specs.CanGoOn.{IsItem, CanGoOnWithin}
use Rattle.grasp_cbor.specs.Utf8.{ready, owed_of, owes_within, can_end}
use Rattle.grasp_cbor.specs.Front.{body_of, HasRoom, MayBegin, Spot, after_simple, in_text, elsewhere, IsCutHead, IsCut, at_start, at_simple, at_head, at_bytes, at_text, Front, IsNamed}
use Rattle.grasp_cbor.specs.Step.{Move, goes, whole, bad, is_simple, step, name_of}
use Rattle.grasp_cbor.specs.Stands.{info_of, argument_width, is_one, number_from, IsHeading, IsInText, At, StandsAt}
use Rattle.grasp_cbor.proofs.HeadBytes.{zeros, tail_of, head_is, number_is, tail_bytes, length-tail_of, AllBytes-front, AllBytes-append}
use Rattle.grasp_cbor.proofs.Text.{can_end-from, can_end-means}
use Rattle.grasp_cbor.proofs.Fronts.{front-open}
use Rattle.grasp_cbor.proofs.Named.{room_at, unnamed_after}
use Rattle.grasp_cbor.proofs.Naming.{named_is, named_from}
use Rattle.grasp_cbor.proofs.Moves.{After, moves, nothing_got, info_wide}

-- ---- to fronts

room_from : (major : Major) (d n : ℕ) → (3 < major_number major → major_number major < 7 → 0 < d) → HasRoom d (body_of major n)
room_from Array d n h = h (omega arith) (omega arith)
room_from Map d n h = h (omega arith) (omega arith)
room_from Tag d n h = h (omega arith) (omega arith)
room_from _ d n h = tt

plain_248 : (major : Major) (size : HeadSize) → 0 < argument_width size → 32 * major_number major + info_of size 0 ≡ 248 → (is_simple major && is_one size) ≡ true
plain_248 major direct z e = absurd (omega arith)
plain_248 Simple one_byte z e = refl
plain_248 _ _ z e = absurd (omega arith)

first_248 : (major : Major) (size : HeadSize) → (is_simple major && is_one size) ≡ true → (32 * major_number major + info_of size 0 ≡ 248) × (argument_width size ≡ 1)
first_248 Simple one_byte e = (refl, refl)
first_248 _ _ e = absurd cc

-- what is simple begins no chunk
simple_only : (string : Option StringKind) (major : Major) (b : Bool) → (is_simple major && b) ≡ true → MayBegin string major → MayBegin string Simple
simple_only string Simple b e m = m
simple_only string _ b e m = absurd cc

at_248 : (a : ℕ) (got : List ℕ) → a ∷ got ≡ 248 ∷ [] → a ≡ 248
at_248 a got e = cc

heading_cut : (string : Option StringKind) (levels : List Level) (d : ℕ) (major : Major) (short : Bool) (value left : ℕ) (s : List ℕ) (spot : Spot) (b : Bool) → IsHeading string d major short value left s → (is_simple major && short) ≡ b → spot ≡ cond b after_simple elsewhere → IsCut string levels d s spot
heading_cut string levels d major short value left s spot true h e q =
    let f = first_248 major h.size (ap (λ x. is_simple major && x) (sym h.short_is) ∙ e) in
    let some = h.some in
    let all = h.all in
    let w = f.1 in
    let none : h.got ≡ [] = nothing_got h.got (omega arith) in
    subst (λ x. IsCut string levels d s x) (sym q) (at_simple (h.form ∙ (λ i. f.0 i ∷ none i)) (simple_only string major (is_one h.size) (ap (λ x. is_simple major && x) (sym h.short_is) ∙ e) h.may))
heading_cut string levels d major short value left s spot false h e q =
    let some = h.some in
    let all = h.all in
    let pad : List ℕ = 0 ∷ replicate (left - 1) 0 in
    let wide : 0 < argument_width h.size = omega arith in
    let number : ℕ = number_from 0 (h.got ++ pad) in
    let n = number_is h.size (h.got ++ pad) wide (AllBytes-append h.got pad h.bytes (omega arith, zeros (left - 1))) (omega (arith, length-append h.got pad, length-replicate {A = ℕ} (left - 1) 0)) in
    let low : info_of h.size number ≡ info_of h.size 0 = info_wide h.size number wide in
    let form : sized_head h.size (major_number major) number ≡ ((32 * major_number major + info_of h.size 0) ∷ h.got) ++ pad =
    head_is h.size (major_number major) number ∙ ap (λ y. (32 * major_number major + info_of h.size number) ∷ y) n.form ∙ ap (λ k. (32 * major_number major + k) ∷ (h.got ++ pad)) low in
    subst (λ x. IsCut string levels d s x) (sym q) (at_head (record { major = major; size = h.size; n = number; first = 32 * major_number major + info_of h.size 0; got = h.got; next = 0; more = replicate (left - 1) 0; fits = n.fits; form = h.form; whole = form; room = room_from major d number h.room; may = h.may })
    (λ p. let k = plain_248 major h.size wide (at_248 (32 * major_number major + info_of h.size 0) h.got (sym h.form ∙ p)) in
    let z : false ≡ true = sym e ∙ ap (λ x. is_simple major && x) h.short_is ∙ k in cc))

text_enough : (content : List ℕ) (o : Owed) (left : ℕ) → owed_of (Some ready) content ≡ Some o → o.need ≤ left → can_end content left ≡ true
unfolding can_end
text_enough content o left e h = ap (λ x. owes_within x left) e ∙ le-leb o.need left h

text_cut : (string : Option StringKind) (levels : List Level) (d : ℕ) (owed : Owed) (left : ℕ) (s content : List ℕ) → IsInText string owed left s content → IsCut string levels d s (in_text content left)
text_cut string levels d owed left s content t = at_text content left t.cut (can_end-means content left (text_enough content owed left t.owes t.enough))

cut_at : (string : Option StringKind) (levels : List Level) (d : ℕ) (stage : Stage) (s : List ℕ) (spot : Spot) → At string levels d stage s spot → IsCut string levels d s spot
cut_at string levels d Beginning s spot a = subst (λ x. IsCut string levels d s x) (sym a.1) (at_start a.0)
cut_at string levels d (Heading major short value left) s spot a = heading_cut string levels d major short value left s spot (is_simple major && short) a.0 refl a.1
cut_at string levels d (InBytes left) s spot a = subst (λ x. IsCut string levels d s x) (sym a.2) (at_bytes a.0 left a.1)
cut_at string levels d (InText owed left) s spot a = subst (λ x. IsCut string levels d s x) (sym a.2) (text_cut string levels d owed left s a.0 a.1)

pub stands-front : (levels : List Level) (string : Option StringKind) (stage : Stage) (s : List ℕ) (spot : Spot) → StandsAt levels string stage s spot → Front s spot
stands-front levels string stage s spot h = record { depth = h.depth; levels = levels; string = string; outer = h.outer; opened = h.opened; cut = h.cut; inside = h.inside; between = h.between; begun = cut_at string levels h.depth stage h.cut spot h.at; form = h.form }

-- ---- from fronts

pub record Standing (s : List ℕ) (spot : Spot) : Type 0 where
  pub levels : List Level
  pub string : Option StringKind
  pub stage : Stage
  pub at : StandsAt levels string stage s spot

wide_cut : (size : HeadSize) (m n first next : ℕ) (got more : List ℕ) → sized_head size m n ≡ (first ∷ got) ++ next ∷ more → 0 < argument_width size
wide_cut direct m n first next got more e = absurd (let k = ap length e in omega (arith, length-append got (next ∷ more)))
wide_cut _ m n first next got more e = omega arith

not_simple : (major : Major) (size : HeadSize) (got : List ℕ) (first left : ℕ) (s : List ℕ) (b : Bool) → (is_simple major && is_one size) ≡ b → first ≡ 32 * major_number major + info_of size 0 → s ≡ first ∷ got → 0 < left → length got + left ≡ argument_width size → s ≢ 248 ∷ [] → b ≡ false
not_simple major size got first left s false e f g some all ne = refl
not_simple major size got first left s true e f g some all ne =
    let k = first_248 major size e in
    let w = k.1 in
    let q : first ≡ 248 = f ∙ k.0 in
    let none : got ≡ [] = nothing_got got (omega arith) in
    absurd (ne (g ∙ (λ i. q i ∷ none i)))

head_stage : (string : Option StringKind) (levels : List Level) (d : ℕ) (s : List ℕ) → (c : IsCutHead string d s) → s ≢ 248 ∷ [] → At string levels d (Heading c.major (is_one c.size) (number_from 0 c.got) (length (c.next ∷ c.more))) s elsewhere
head_stage string levels d s c ne =
    let wide : 0 < argument_width c.size = wide_cut c.size (major_number c.major) c.n c.first c.next c.got c.more c.whole in
    let form : (32 * major_number c.major + info_of c.size c.n) ∷ tail_of c.size c.n ≡ c.first ∷ (c.got ++ c.next ∷ c.more) = sym (head_is c.size (major_number c.major) c.n) ∙ c.whole in
    let low : info_of c.size c.n ≡ info_of c.size 0 = info_wide c.size c.n wide in
    let head : 32 * major_number c.major + info_of c.size c.n ≡ c.first = cc in
    let tail : tail_of c.size c.n ≡ c.got ++ c.next ∷ c.more = cc in
    let first : c.first ≡ 32 * major_number c.major + info_of c.size 0 = omega arith in
    let some : 0 < length (c.next ∷ c.more) = omega arith in
    let all : length c.got + length (c.next ∷ c.more) ≡ argument_width c.size = sym (length-append c.got (c.next ∷ c.more)) ∙ ap length (sym tail) ∙ length-tail_of c.size c.n in (
      record {
        size = c.size;
        got = c.got;
        short_is = refl;
        form = c.form ∙ ap (λ x. x ∷ c.got) first;
        bytes = AllBytes-front c.got (c.next ∷ c.more) (subst AllBytes tail (tail_bytes c.size c.n c.fits));
        value_is = refl;
        some = some;
        all = all;
        room = room_at c.major d c.n c.room;
        may = c.may;
      },
      ap (λ b. cond b after_simple elsewhere) (sym (not_simple c.major c.size c.got c.first (length (c.next ∷ c.more)) s (is_simple c.major && is_one c.size) refl first c.form some all ne)),
    )

record IsOwed (content : List ℕ) (left : ℕ) : Type 0 where
  owed : Owed
  owes : owed_of (Some ready) content ≡ Some owed
  enough : owed.need ≤ left

owed_by : (content : List ℕ) (left : ℕ) (r : Option Owed) → owed_of (Some ready) content ≡ r → owes_within r left ≡ true → IsOwed content left
owed_by content left None e h = absurd cc
owed_by content left (Some o) e h = record { owed = o; owes = e; enough = leb-true o.need left h }

owed_at : (content : List ℕ) (left : ℕ) → can_end content left ≡ true → IsOwed content left
unfolding can_end
owed_at content left h = owed_by content left (owed_of (Some ready) content) refl h

abbrev Staged : Option StringKind → List Level → ℕ → List ℕ → Spot → Type 0
Staged string levels d s spot = (stage : Stage) × At string levels d stage s spot

stage_of : (string : Option StringKind) (levels : List Level) (d : ℕ) (s : List ℕ) (spot : Spot) → IsCut string levels d s spot → Staged string levels d s spot
stage_of string levels d s _ (at_start e) = (Beginning, (e, refl))
stage_of string levels d s _ (at_simple e m) =
    (Heading Simple true 0 1, (record { size = one_byte; got = []; short_is = refl; form = e; bytes = tt; value_is = refl; some = omega arith; all = omega arith; room = λ p q. absurd (omega arith); may = m }, refl))
stage_of string levels d s _ (at_head c ne) = (Heading c.major (is_one c.size) (number_from 0 c.got) (length (c.next ∷ c.more)), head_stage string levels d s c ne)
stage_of string levels d s _ (at_bytes content left c) = (InBytes left, (content, c, refl))
stage_of string levels d s _ (at_text content left c e) =
    let o = owed_at content left (can_end-from content left e) in
    (InText o.owed left, (content, record { cut = c; owes = o.owes; enough = o.enough }, refl))

pub front-stands : (s : List ℕ) (spot : Spot) → Front s spot → Standing s spot
front-stands s spot f =
    let g = stage_of f.string f.levels f.depth f.cut spot f.begun in
    record { levels = f.levels; string = f.string; stage = g.0; at = record { depth = f.depth; outer = f.outer; opened = f.opened; cut = f.cut; inside = f.inside; between = f.between; at = g.1; form = f.form } }

-- ---- the next byte

some_none : (name : FaultName) → Some name ≡ None → ⊥
some_none name e = cc

pub goes_on : (s : List ℕ) (spot : Spot) (byte : ℕ) (m : Move) → After s spot byte m → name_of spot byte ≡ None → CanGoOnWithin 16 (s ++ byte ∷ []) ⊎ IsItem 16 (s ++ byte ∷ [])
goes_on s spot byte (goes levels string stage) h e = inl (front-open (s ++ byte ∷ []) h.0 (stands-front levels string stage (s ++ byte ∷ []) h.0 h.1))
goes_on s spot byte whole h e = inr h
goes_on s spot byte (bad name) h e = absurd (some_none name (sym h ∙ e))

pub next-byte : (s : List ℕ) (spot : Spot) (byte : ℕ) → Front s spot → byte < 256 → name_of spot byte ≡ None → CanGoOnWithin 16 (s ++ byte ∷ []) ⊎ IsItem 16 (s ++ byte ∷ [])
next-byte s spot byte f l e =
    let g = front-stands s spot f in
    goes_on s spot byte (step g.levels g.string g.stage byte) (moves g.levels g.string g.stage s spot byte g.at l) e

by_name : (s : List ℕ) (spot : Spot) (byte : ℕ) (r : Option FaultName) → Front s spot → byte < 256 → name_of spot byte ≡ r → (CanGoOnWithin 16 (s ++ byte ∷ []) ⊎ IsItem 16 (s ++ byte ∷ [])) ⊎ ((name : FaultName) × IsNamed spot byte name)
by_name s spot byte None f l e = inl (next-byte s spot byte f l e)
by_name s spot byte (Some name) f l e = inr (name, named_is spot byte name e)

pub taken_or_named : (s : List ℕ) (spot : Spot) (byte : ℕ) → Front s spot → byte < 256 → (CanGoOnWithin 16 (s ++ byte ∷ []) ⊎ IsItem 16 (s ++ byte ∷ [])) ⊎ ((name : FaultName) × IsNamed spot byte name)
taken_or_named s spot byte f l = by_name s spot byte (name_of spot byte) f l refl

pub taken_unnamed : (s : List ℕ) (spot : Spot) (byte : ℕ) (name : FaultName) → Front s spot → CanGoOnWithin 16 (s ++ byte ∷ []) ⊎ IsItem 16 (s ++ byte ∷ []) → ¬ IsNamed spot byte name
taken_unnamed s spot byte name f t h = some_none name (sym (named_from spot byte name h) ∙ unnamed_after s spot byte f t)
