-- What a byte does where the walker stands.
use Rattle.std.proofs.Common.{◌≡◌, ℕ, ◌+◌, ◌-◌, ◌*◌, ◌/◌, ◌%◌, ◌^◌, ◌<◌, ◌≤◌, Bool, true, false, cond, ltb, leb, eqb, ◌&&◌, List, [], ◌∷◌, ◌++◌, length, Option, Some, None, refl, sym, ap, subst, ◌∙◌, ◌⊎◌, inl, inr, append_assoc, append-nil, arith}
use Rattle.std.proofs.lemmas.Bool.{cases_lt, cases_eq, cases_Bool, le-ltb, lt-ltb, ltb-false, le-leb, lt-leb, ne_eqb, eq-eqb}
use Rattle.std.proofs.lemmas.List.{length-append}
use Rattle.grasp_cbor.specs.Major.{major_number, major_of}
use Rattle.grasp_cbor.specs.Encodes.{string_major}
use Rattle.grasp_cbor.specs.Head.{HeadSize, direct, one_byte, two_bytes, four_bytes, eight_bytes, sized_head}
use Rattle.grasp_cbor.specs.declared.utf8.Owed.{Owed}
use Rattle.grasp_cbor.specs.declared.walker.FaultName.{FaultName}
use Rattle.grasp_cbor.specs.declared.walker.FaultName.TheVariants.{Malformed, TooDeep, NotText}
use Rattle.grasp_cbor.specs.declared.heads.StringKind.{StringKind}
use Rattle.grasp_cbor.specs.declared.heads.StringKind.TheVariants.{Bytes, Text}
use Rattle.grasp_cbor.specs.declared.heads.Major.{Major}
use Rattle.grasp_cbor.specs.declared.heads.Major.TheVariants.{Unsigned, Negative, ByteString, TextString, Array, Map, Tag, Simple}
use Rattle.grasp_cbor.specs.declared.walker.Level.{Level}
use Rattle.grasp_cbor.specs.declared.walker.Level.TheVariants.{Parts, Items, Keys, Values}
use Rattle.grasp_cbor.specs.declared.walker.Stage.{Stage}
use Rattle.grasp_cbor.specs.declared.walker.Stage.TheVariants.{Beginning, Heading, InBytes, InText}
use Rattle.grasp_cbor.specs.Bytes.{AllBytes, joined}
use Rattle.grasp_cbor.specs.CanGoOn.{IsItem}
use Rattle.grasp_cbor.specs.Utf8.{ready, owed_after, owed_of, owes_within, can_end}
use Rattle.grasp_cbor.specs.Front.{some_parts, body_of, IsFine, IsHeadOf, OpensParts, Opens, HasParts, Inside, InString, MayBegin, can_break, Spot, first_spot, after_simple, in_text, elsewhere, IsCutString, start_name, chunk_name}
use Rattle.grasp_cbor.specs.Step.{Move, goes, whole, bad, level_after, waits, finished, ended, broken, opened, after_head, width_of, heads, started, first_name, is_simple, shifted, texts, step, name_of}
use Rattle.grasp_cbor.specs.Stands.{info_of, argument_width, is_one, number_from, IsHeading, At, StandsAt}
use Rattle.grasp_cbor.proofs.Facts.Numbers.{none_plus}
use Rattle.grasp_cbor.proofs.Majors.{major_number-major_of, major_number-below}
use Rattle.grasp_cbor.proofs.HeadBytes.{head_is, number_is, number_from-push, AllBytes-push, seven}
use Rattle.grasp_cbor.proofs.Shapes.{Fills, parts, items, pairs, IsPiece, IsChunk, IsChunks, ChunkRow-append, chunk_row, chunk_list, row_item, chunks_item, piece_of}
use Rattle.grasp_cbor.proofs.Text.{owed_of-append, utf8_ends}
use Rattle.grasp_cbor.proofs.Insides.{AreItems-append, joined-append, chunk_more, depths}

-- what is so after a byte
abbrev pub After : List ℕ → Spot → ℕ → Move → Type 0
After s spot byte (goes levels string stage) = (new : Spot) × StandsAt levels string stage (s ++ byte ∷ []) new
After s spot byte whole = IsItem 16 (s ++ byte ∷ [])
After s spot byte (bad name) = name_of spot byte ≡ Some name

-- what is so where bytes end a head or an item
abbrev Reached : List ℕ → Move → Type 0
Reached s (goes levels string stage) = (new : Spot) × StandsAt levels string stage s new
Reached s whole = IsItem 16 s
Reached s (bad name) = ⊥

reached : (s t : List ℕ) (spot : Spot) (byte : ℕ) (m : Move) → t ≡ s ++ byte ∷ [] → Reached t m → After s spot byte m
reached s t spot byte (goes levels string stage) e h = (h.0, subst (λ x. StandsAt levels string stage x h.0) e h.1)
reached s t spot byte whole e h = subst (λ x. IsItem 16 x) e h
reached s t spot byte (bad name) e h = absurd h

-- ---- an item has ended

some_same : (a b : Level) → Some a ≡ Some b → a ≡ b
some_same a b e = cc

none_same : (a : Level) → None ≡ Some a → ⊥
none_same a e = cc

-- a string of indefinite length holds strings alone
pub string_below : (kind : StringKind) → string_major kind < 4
string_below Bytes = omega arith
string_below Text = omega arith

no_string : (string : Option StringKind) (major : Major) → 3 < major_number major → MayBegin string major → string ≡ None
no_string None major l m = refl
no_string (Some kind) major l m = absurd (let k = string_below kind in omega arith)

opens_after : (level new : Level) (k : ℕ) (s : List ℕ) → Opens level k s → level_after level ≡ Some new → Opens new (k + 1) s
opens_after (Parts left) new k s o e =
    elim (cases_lt 1 left) [
      | inl l ↦ let q : Parts (left - 1) ≡ new = some_same (Parts (left - 1)) new (rw (lt-ltb 1 left l) at e) in
          let same : k + left ≡ k + 1 + (left - 1) = omega arith in
          subst (λ x. Opens x (k + 1) s) q (omega arith, subst (λ n. OpensParts n s) same o.1)
      | inr l ↦ absurd (none_same new (rw (le-ltb 1 left l) at e))
    ]
opens_after Items new k s o e = subst (λ x. Opens x (k + 1) s) (some_same Items new e) o
opens_after Keys new k s o e = let q = o.2 in subst (λ x. Opens x (k + 1) s) (some_same Values new e) (o.0, o.1, omega arith)
opens_after Values new k s o e = let q = o.2 in subst (λ x. Opens x (k + 1) s) (some_same Keys new e) (o.0, o.1 + 1, omega arith)

opens_all : (level : Level) (k : ℕ) (s : List ℕ) → Opens level k s → level_after level ≡ None → OpensParts (k + 1) s
opens_all (Parts left) k s o e =
    elim (cases_lt 1 left) [
      | inl l ↦ absurd (none_same (Parts (left - 1)) (sym (rw (lt-ltb 1 left l) at e)))
      | inr l ↦ let some = o.0 in let same : k + left ≡ k + 1 = omega arith in subst (λ n. OpensParts n s) same o.1
    ]
opens_all Items k s o e = absurd (none_same Items (sym e))
opens_all Keys k s o e = absurd (none_same Values (sym e))
opens_all Values k s o e = absurd (none_same Keys (sym e))

-- one more part of a level
part_form : (d : ℕ) (level : Level) (own w : List ℕ) → (p : HasParts d level own) → own ++ w ≡ p.opening ++ joined (p.parts ++ w ∷ [])
part_form d level own w p =
    ap (λ x. x ++ w) p.form ∙ append_assoc p.opening (joined p.parts) w ∙ ap (λ x. p.opening ++ (joined p.parts ++ x)) (sym (append-nil w)) ∙ ap (λ x. p.opening ++ x) (sym (joined-append p.parts (w ∷ [])))

one_more : (d : ℕ) (level new : Level) (own w : List ℕ) → HasParts d level own → level_after level ≡ Some new → IsItem d w → HasParts d new (own ++ w)
one_more d level new own w p e h =
    let len : length p.parts + 1 ≡ length (p.parts ++ w ∷ []) = omega (arith, length-append p.parts (w ∷ [])) in
    record { opening = p.opening; parts = p.parts ++ w ∷ []; opens = subst (λ k. Opens new k p.opening) len (opens_after level new (length p.parts) p.opening p.opens e); each = AreItems-append d p.parts (w ∷ []) p.each (h, tt); form = part_form d level own w p }

last_one : (d : ℕ) (level : Level) (own w : List ℕ) → HasParts d level own → level_after level ≡ None → IsItem d w → IsItem (d + 1) (own ++ w)
last_one d level own w p e h =
    let ws : List (List ℕ) = p.parts ++ w ∷ [] in
    let len : length ws ≡ length p.parts + 1 = omega (arith, length-append p.parts (w ∷ [])) in
    row_item (parts (length p.parts + 1)) (d + 1) p.opening (joined ws) (own ++ w) (opens_all level (length p.parts) p.opening p.opens e)
    (record { below = d; row = ws; room = refl; each = AreItems-append d p.parts (w ∷ []) p.each (h, tt); counts = len; form = sym (append-nil (joined ws)) }) (part_form d level own w p)

-- between the parts of the innermost level
between : (levels : List Level) (d : ℕ) (outer : List ℕ) → Inside d levels outer → Reached outer (goes levels None Beginning)
between levels d outer i = (first_spot None levels, record { depth = d; outer = outer; opened = []; cut = []; inside = i; between = refl; at = (refl, refl); form = sym (append-nil outer) })

after_part : (r : Option Level) (level : Level) (levels : List Level) (d : ℕ) (o own outer w : List ℕ) → level_after level ≡ r → Inside (d + 1) levels o → HasParts d level own → outer ≡ o ++ own → IsItem d w → (IsItem (d + 1) (own ++ w) → Reached (o ++ (own ++ w)) (finished levels)) → Reached (outer ++ w) (waits r levels (finished levels))
after_part (Some new) level levels d o own outer w q i p e h rec =
    between (new ∷ levels) d (outer ++ w) (o, own ++ w, i, one_more d level new own w p q h, ap (λ x. x ++ w) e ∙ append_assoc o own w)
after_part None level levels d o own outer w q i p e h rec =
    subst (λ x. Reached x (finished levels)) (sym (ap (λ x. x ++ w) e ∙ append_assoc o own w)) (rec (last_one d level own w p q h))

finishes : (levels : List Level) (d : ℕ) (outer w : List ℕ) → Inside d levels outer → IsItem d w → Reached (outer ++ w) (finished levels)
finishes [] d outer w i h = subst (λ x. IsItem 16 (x ++ w)) (sym i.1) (subst (λ k. IsItem k w) i.0 h)
finishes (level ∷ levels) d outer w i h = after_part (level_after level) level levels d i.0 i.1 outer w refl i.2 i.3 i.4 h (λ item. finishes levels (d + 1) i.0 (i.1 ++ w) i.2 item)

-- ---- a chunk has ended, or a break ends what is begun

chunk_ends : (kind : StringKind) (opened w : List ℕ) → InString (Some kind) opened → IsChunk kind w → InString (Some kind) (opened ++ w)
chunk_ends kind opened w b h =
    let r = chunk_row kind b.0 b.1 b.2 in
    let l = chunk_list kind (r.0 ++ w ∷ []) (ChunkRow-append kind r.0 (w ∷ []) r.1 (h, tt)) in
    (l.0, joined (r.0 ++ w ∷ []), l.1, ap (λ x. x ++ w) b.3 ∙ ap (λ x. (32 * string_major kind + 31) ∷ x) (ap (λ x. x ++ w) r.2 ∙ ap (λ x. joined r.0 ++ x) (sym (append-nil w)) ∙ chunk_more r.0 w [] ∙ append-nil (joined (r.0 ++ w ∷ []))))

between_chunks : (kind : StringKind) (levels : List Level) (d : ℕ) (outer opened : List ℕ) → Inside d levels outer → InString (Some kind) opened → Reached (outer ++ opened) (goes levels (Some kind) Beginning)
between_chunks kind levels d outer opened i b = (first_spot (Some kind) levels, record { depth = d; outer = outer; opened = opened; cut = []; inside = i; between = b; at = (refl, refl); form = ap (λ x. outer ++ x) (sym (append-nil opened)) })

piece_ends : (string : Option StringKind) (levels : List Level) (d : ℕ) (outer opened w : List ℕ) → Inside d levels outer → InString string opened → IsPiece string d w → Reached (outer ++ (opened ++ w)) (ended levels string)
piece_ends None levels d outer opened w i b h = subst (λ x. Reached (outer ++ (x ++ w)) (finished levels)) (sym b) (finishes levels d outer w i h)
piece_ends (Some kind) levels d outer opened w i b h = between_chunks kind levels d outer (opened ++ w) i (chunk_ends kind opened w b h)

string_breaks : (kind : StringKind) (levels : List Level) (d : ℕ) (outer opened : List ℕ) → Inside d levels outer → InString (Some kind) opened → Reached (outer ++ (opened ++ 255 ∷ [])) (finished levels)
string_breaks kind levels d outer opened i b =
    let r = chunk_row kind b.0 b.1 b.2 in
    let body : List ℕ = b.1 in
    let rest : IsChunks kind (body ++ 255 ∷ []) = record { row = r.0; each = r.1; form = ap (λ x. x ++ 255 ∷ []) r.2 } in
    finishes levels d outer (opened ++ 255 ∷ []) i (chunks_item kind d (body ++ 255 ∷ []) (opened ++ 255 ∷ []) rest (ap (λ x. x ++ 255 ∷ []) b.3))

-- a level that a break may end
broken_form : (d : ℕ) (level : Level) (own : List ℕ) → (p : HasParts d level own) → own ++ 255 ∷ [] ≡ p.opening ++ (joined p.parts ++ 255 ∷ [])
broken_form d level own p = ap (λ x. x ++ 255 ∷ []) p.form ∙ append_assoc p.opening (joined p.parts) (255 ∷ [])

broken_item : (level : Level) (levels : List Level) (d : ℕ) (own : List ℕ) → can_break (level ∷ levels) ≡ true → HasParts d level own → IsItem (d + 1) (own ++ 255 ∷ [])
broken_item (Parts left) levels d own c p = absurd cc
broken_item Items levels d own c p =
    row_item items (d + 1) p.opening (joined p.parts ++ 255 ∷ []) (own ++ 255 ∷ []) p.opens (record { below = d; row = p.parts; room = refl; each = p.each; counts = tt; form = refl }) (broken_form d Items own p)
broken_item Keys levels d own c p =
    row_item pairs (d + 1) p.opening (joined p.parts ++ 255 ∷ []) (own ++ 255 ∷ []) p.opens.0 (record { below = d; row = p.parts; room = refl; each = p.each; counts = (p.opens.1, p.opens.2); form = refl }) (broken_form d Keys own p)
broken_item Values levels d own c p = absurd cc

level_breaks : (levels : List Level) (d : ℕ) (outer : List ℕ) → can_break levels ≡ true → Inside d levels outer → Reached (outer ++ 255 ∷ []) (broken levels None)
level_breaks [] d outer c i = absurd cc
level_breaks (level ∷ levels) d outer c i =
    subst (λ x. Reached x (finished levels)) (sym (ap (λ x. x ++ 255 ∷ []) i.4 ∙ append_assoc i.0 i.1 (255 ∷ [])))
    (finishes levels (d + 1) i.0 (i.1 ++ 255 ∷ []) i.2 (broken_item level levels d i.1 c i.3))

-- ---- after a head

module _ (string : Option StringKind) (levels : List Level) (d : ℕ) (outer begun : List ℕ) (i : Inside d levels outer) (b : InString string begun) where
  stands : (stage : Stage) (cut s : List ℕ) (spot : Spot) → At string levels d stage cut spot → s ≡ outer ++ (begun ++ cut) → StandsAt levels string stage s spot
  stands stage cut s spot a e = record { depth = d; outer = outer; opened = begun; cut = cut; inside = i; between = b; at = a; form = e }

  bare : (head : List ℕ) (major : Major) (n : ℕ) → MayBegin string major → IsHeadOf major n head → Fills d (body_of major n) [] → Reached (outer ++ (begun ++ head)) (ended levels string)
  bare head major n m h f = piece_ends string levels d outer begun head i b (piece_of string major n d head [] head m h f (sym (append-nil head)))

  string_at : (major : Major) (n : ℕ) (head : List ℕ) → MayBegin string major → IsHeadOf major n head → 0 < n → IsCutString string major [] n head
  string_at major n head m h l = let e : n ≡ 0 + n = omega arith in record { opening = head; head = subst (λ k. IsHeadOf major k head) e h; some = l; form = sym (append-nil head); may = m }

  -- a list, a map or a tag
  parts_begin : (head : List ℕ) (major : Major) (n count : ℕ) → string ≡ None → MayBegin string major → IsHeadOf major n head → 0 < d → body_of major n ≡ some_parts count → Reached (outer ++ (begun ++ head)) (after_head levels string (some_parts count))
  parts_begin head major n count q m h r e =
      let same : d ≡ d - 1 + 1 = omega arith in
      let none : begun ≡ [] = subst (λ z. InString z begun) q b in
      elim (cases_lt 0 count) [
        | inl l ↦ rw (lt-ltb 0 count l, q) (subst (λ x. Reached (outer ++ (x ++ head)) (goes (Parts count ∷ levels) None Beginning)) (sym none)
            (between (Parts count ∷ levels) (d - 1) (outer ++ head) (outer, head, subst (λ k. Inside k levels outer) same i, record { opening = head; parts = []; opens = (l, record { major = major; n = n; head = h; counted = e ∙ ap some_parts (none_plus count) }); each = tt; form = sym (append-nil head) }, refl)))
        | inr l ↦ rw (le-ltb 0 count l) (bare head major n m h (subst (λ x. Fills d x []) (sym e) (record { below = d - 1; row = []; room = same; each = tt; counts = omega arith; form = refl })))
      ]

  octets_begin : (head : List ℕ) (n : ℕ) → MayBegin string ByteString → IsHeadOf ByteString n head → Reached (outer ++ (begun ++ head)) (after_head levels string (body_of ByteString n))
  octets_begin head n m h =
      elim (cases_lt 0 n) [
        | inl l ↦ rw (lt-ltb 0 n l) (elsewhere, stands (InBytes n) head (outer ++ (begun ++ head)) _ ([], string_at ByteString n head m h l, refl) refl)
        | inr l ↦ rw (le-ltb 0 n l) (bare head ByteString n m h (omega arith))
      ]

  chars_begin : (head : List ℕ) (n : ℕ) → MayBegin string TextString → IsHeadOf TextString n head → Reached (outer ++ (begun ++ head)) (after_head levels string (body_of TextString n))
  chars_begin head n m h =
      elim (cases_lt 0 n) [
        | inl l ↦ rw (lt-ltb 0 n l) (in_text [] n, stands (InText ready n) head (outer ++ (begun ++ head)) _ ([], record { cut = string_at TextString n head m h l; owes = refl; enough = omega arith }, refl) refl)
        | inr l ↦ rw (le-ltb 0 n l) (bare head TextString n m h (omega arith, utf8_ends [] refl))
      ]

  head_done : (head : List ℕ) (major : Major) (n : ℕ) → MayBegin string major → IsHeadOf major n head → (3 < major_number major → major_number major < 7 → 0 < d) → Reached (outer ++ (begun ++ head)) (after_head levels string (body_of major n))
  head_done head Unsigned n m h r = bare head Unsigned n m h refl
  head_done head Negative n m h r = bare head Negative n m h refl
  head_done head ByteString n m h r = octets_begin head n m h
  head_done head TextString n m h r = chars_begin head n m h
  head_done head Array n m h r = parts_begin head Array n n (no_string string Array (omega arith) m) m h (r (omega arith) (omega arith)) refl
  head_done head Map n m h r = parts_begin head Map n (2 * n) (no_string string Map (omega arith) m) m h (r (omega arith) (omega arith)) refl
  head_done head Tag n m h r = parts_begin head Tag n 1 (no_string string Tag (omega arith) m) m h (r (omega arith) (omega arith)) refl
  head_done head Simple n m h r = bare head Simple n m h refl

-- ---- a first byte

-- what the absence of a name says
pub record IsClear (inside : ℕ) (breaks : Bool) (major info : ℕ) : Type 0 where
  pub low : (info < 28) ⊎ (info ≡ 31)
  pub room : 3 < major → major < 7 → inside < 16
  pub endless : info ≡ 31 → ((1 < major) × (major < 6)) ⊎ ((major ≡ 7) × (breaks ≡ true))

-- of information 31
endless_clear : (inside : ℕ) (breaks : Bool) (major : ℕ) → major < 8 → start_name inside breaks major 31 ≡ None → ((1 < major) × (major < 6)) ⊎ ((major ≡ 7) × (breaks ≡ true))
unfolding start_name
endless_clear inside breaks major l e =
    elim (cases_lt major 2) [
      | inl a ↦ absurd (let q : Some Malformed ≡ None = rw (lt-ltb major 2 a) at e in cc)
      | inr a ↦ elim (cases_eq major 6) [
        | inl b ↦ absurd (let q : Some Malformed ≡ None = rw b at e in cc)
        | inr b ↦ elim (cases_eq major 7) [
          | inr c ↦ inl (omega arith, omega arith)
          | inl c ↦ elim (cases_Bool breaks) [
            | inl t ↦ inr (c, t)
            | inr f ↦ absurd (let q : Some Malformed ≡ None = rw (c, f) at e in cc)
          ]
        ]
      ]
    ]

low_clear : (inside : ℕ) (breaks : Bool) (major info : ℕ) → info < 32 → start_name inside breaks major info ≡ None → (info < 28) ⊎ (info ≡ 31)
unfolding start_name
low_clear inside breaks major info l e =
    elim (cases_lt 27 info) [
      | inr a ↦ inl (omega arith)
      | inl a ↦ elim (cases_lt info 31) [
        | inl b ↦ absurd (let q : Some Malformed ≡ None = rw (lt-ltb 27 info a, lt-ltb info 31 b) at e in cc)
        | inr b ↦ inr (omega arith)
      ]
    ]

deep_name : (b : Bool) → cond b (Some Malformed) (Some TooDeep) ≡ None → ⊥
deep_name true e = cc
deep_name false e = cc

room_clear : (inside : ℕ) (breaks : Bool) (major info : ℕ) → start_name inside breaks major info ≡ None → 3 < major → major < 7 → inside < 16
unfolding start_name
room_clear inside breaks major info e p q =
    elim (cases_lt inside 16) [
      | inl r ↦ r
      | inr r ↦ absurd (deep_name _ (rw (lt-ltb 3 major p, lt-ltb major 7 q, le-leb 16 inside r) at e))
    ]

pub is_clear : (inside : ℕ) (breaks : Bool) (major info : ℕ) → major < 8 → info < 32 → start_name inside breaks major info ≡ None → IsClear inside breaks major info
is_clear inside breaks major info m l e = record {
  low = low_clear inside breaks major info l e;
  room = room_clear inside breaks major info e;
  endless = λ q. endless_clear inside breaks major m (subst (λ k. start_name inside breaks major k ≡ None) q e);
}

no_break : (kind : StringKind) (major info : ℕ) → cond (eqb major 7 && eqb info 31) None (Some Malformed) ≡ None → (major ≡ 7) × (info ≡ 31)
no_break kind major info e =
    elim (cases_eq major 7) [
      | inr a ↦ absurd (let q : Some Malformed ≡ None = rw (ne_eqb major 7 a) at e in cc)
      | inl a ↦ elim (cases_eq info 31) [
        | inr b ↦ absurd (let q : Some Malformed ≡ None = rw (a, ne_eqb info 31 b) at e in cc)
        | inl b ↦ (a, b)
      ]
    ]

both_false : (a b : Bool) → (a ≡ false) ⊎ (b ≡ false) → (a && b) ≡ false
both_false true true h = elim h [ inl e ↦ e | inr e ↦ e ]
both_false true false h = refl
both_false false b h = refl

not_chunk : (kind : StringKind) (major info : ℕ) → (eqb major (string_major kind) ≡ false) ⊎ (ltb info 28 ≡ false) → chunk_name kind major info ≡ None → (major ≡ 7) × (info ≡ 31)
unfolding chunk_name
not_chunk kind major info h e = no_break kind major info (rw (both_false (eqb major (string_major kind)) (ltb info 28) h) at e)

pub chunk_clear : (kind : StringKind) (major info : ℕ) → chunk_name kind major info ≡ None → ((major ≡ string_major kind) × (info < 28)) ⊎ ((major ≡ 7) × (info ≡ 31))
chunk_clear kind major info e =
    elim (cases_eq major (string_major kind)) [
      | inl a ↦ elim (cases_lt info 28) [
        | inl b ↦ inl (a, b)
        | inr b ↦ inr (not_chunk kind major info (inr (le-ltb info 28 b)) e)
      ]
      | inr a ↦ inr (not_chunk kind major info (inl (ne_eqb major (string_major kind) a)) e)
    ]

record IsWide (info : ℕ) : Type 0 where
  size : HeadSize
  low : info_of size 0 ≡ info
  short : eqb info 24 ≡ is_one size
  wide : width_of info ≡ argument_width size
  some : 0 < argument_width size

is_wide : (info : ℕ) → 24 ≤ info → info < 28 → IsWide info
is_wide info l h =
    elim (cases_eq info 24) [
      | inl a ↦ subst IsWide (sym a) (record { size = one_byte; low = refl; short = refl; wide = refl; some = omega arith })
      | inr a ↦ elim (cases_eq info 25) [
        | inl b ↦ subst IsWide (sym b) (record { size = two_bytes; low = refl; short = refl; wide = refl; some = omega arith })
        | inr b ↦ elim (cases_eq info 26) [
          | inl c ↦ subst IsWide (sym c) (record { size = four_bytes; low = refl; short = refl; wide = refl; some = omega arith })
          | inr c ↦ let d : info ≡ 27 = omega arith in subst IsWide (sym d) (record { size = eight_bytes; low = refl; short = refl; wide = refl; some = omega arith })
        ]
      ]
    ]

direct_fine : (major : Major) (n : ℕ) → IsFine major direct n
direct_fine Unsigned n = tt
direct_fine _ n = tt

module _ (string : Option StringKind) (levels : List Level) (d : ℕ) (outer begun : List ℕ) (i : Inside d levels outer) (b : InString string begun) where
  begins_head : (major : Major) (info byte : ℕ) → byte ≡ 32 * major_number major + info → info < 28 → MayBegin string major → (3 < major_number major → major_number major < 7 → 0 < d) → Reached (outer ++ (begun ++ byte ∷ [])) (heads levels string major info)
  begins_head major info byte e low m room =
      elim (cases_lt info 24) [
        | inl l ↦ rw (lt-ltb info 24 l) (head_done string levels d outer begun i b (byte ∷ []) major info m (record { size = direct; fits = l; fine = direct_fine major info; form = ap (λ x. x ∷ []) e }) room)
        | inr l ↦ let w = is_wide info l low in
            let first : byte ≡ 32 * major_number major + info_of w.size 0 = e ∙ ap (λ x. 32 * major_number major + x) (sym w.low) in
            let some = w.some in
            let wide = w.wide in
            rw (le-ltb info 24 l, ne_eqb info 31 (λ q. omega arith)) (
              cond (is_simple major && eqb info 24) after_simple elsewhere,
              stands string levels d outer begun i b (Heading major (eqb info 24) 0 (width_of info)) (byte ∷ []) (outer ++ (begun ++ byte ∷ [])) _
                  (record { size = w.size; got = []; short_is = w.short; form = ap (λ x. x ∷ []) first; bytes = tt; value_is = refl; some = omega arith; all = omega arith; room = room; may = m }, refl) refl,
            )
      ]

-- a list or a map up to a break
row_begins : (level : Level) (levels : List Level) (d : ℕ) (outer : List ℕ) (byte : ℕ) → Inside d levels outer → 0 < d → Opens level 0 (byte ∷ []) → Reached (outer ++ byte ∷ []) (goes (level ∷ levels) None Beginning)
row_begins level levels d outer byte i l o =
    let same : d ≡ d - 1 + 1 = omega arith in
    between (level ∷ levels) (d - 1) (outer ++ byte ∷ []) (outer, byte ∷ [], subst (λ k. Inside k levels outer) same i, record { opening = byte ∷ []; parts = []; opens = o; each = tt; form = refl }, refl)

string_begins : (kind : StringKind) (levels : List Level) (d : ℕ) (outer : List ℕ) (byte : ℕ) → Inside d levels outer → byte ≡ 32 * string_major kind + 31 → Reached (outer ++ byte ∷ []) (goes levels (Some kind) Beginning)
string_begins kind levels d outer byte i e = between_chunks kind levels d outer (byte ∷ []) i ([], [], refl, ap (λ x. x ∷ []) e)

endless_begins : (major : Major) (levels : List Level) (d : ℕ) (outer : List ℕ) (byte : ℕ) → Inside d levels outer → byte ≡ 32 * major_number major + 31 → (3 < major_number major → major_number major < 7 → 0 < d) → ((1 < major_number major) × (major_number major < 6)) ⊎ ((major_number major ≡ 7) × (can_break levels ≡ true)) → Reached (outer ++ byte ∷ []) (opened levels None major)
endless_begins ByteString levels d outer byte i e r h = string_begins Bytes levels d outer byte i e
endless_begins TextString levels d outer byte i e r h = string_begins Text levels d outer byte i e
endless_begins Array levels d outer byte i e r h = row_begins Items levels d outer byte i (r (omega arith) (omega arith)) (ap (λ x. x ∷ []) e)
endless_begins Map levels d outer byte i e r h = row_begins Keys levels d outer byte i (r (omega arith) (omega arith)) (ap (λ x. x ∷ []) e, 0, refl)
endless_begins Simple levels d outer byte i e r (inr h) = let q : 255 ≡ byte = omega arith in subst (λ x. Reached (outer ++ x ∷ []) (broken levels None)) q (level_breaks levels d outer h.1 i)
endless_begins Simple levels d outer byte i e r (inl h) = absurd (omega (arith, h.1))
endless_begins Unsigned levels d outer byte i e r (inl h) = absurd (omega (arith, h.0))
endless_begins Negative levels d outer byte i e r (inl h) = absurd (omega (arith, h.0))
endless_begins Tag levels d outer byte i e r (inl h) = absurd (omega (arith, h.1))
endless_begins _ levels d outer byte i e r (inr h) = absurd (omega (arith, h.0))

chunk_breaks : (kind : StringKind) (levels : List Level) (d : ℕ) (outer begun : List ℕ) (major : Major) → Inside d levels outer → InString (Some kind) begun → major_number major ≡ 7 → Reached (outer ++ (begun ++ 255 ∷ [])) (opened levels (Some kind) major)
chunk_breaks kind levels d outer begun Simple i b e = string_breaks kind levels d outer begun i b
chunk_breaks kind levels d outer begun _ i b e = absurd (omega arith)

by_clear : (levels : List Level) (d : ℕ) (outer : List ℕ) (major : Major) (info byte : ℕ) → Inside d levels outer → byte ≡ 32 * major_number major + info → IsClear (length levels) (can_break levels) (major_number major) info → Reached (outer ++ byte ∷ []) (heads levels None major info)
by_clear levels d outer major info byte i e c =
    let sum = depths levels d outer i in
    let room : 3 < major_number major → major_number major < 7 → 0 < d = λ p q. let k = c.room p q in omega arith in
    elim c.low [
      | inl l ↦ begins_head None levels d outer [] i refl major info byte e l tt room
      | inr q ↦ let no : ltb info 24 ≡ false = le-ltb info 24 (omega arith) in
          let yes : eqb info 31 ≡ true = eq-eqb info 31 q in
          rw (no, yes) (endless_begins major levels d outer byte i (omega arith) room (c.endless q))
    ]

by_chunk : (kind : StringKind) (levels : List Level) (d : ℕ) (outer begun : List ℕ) (major : Major) (info byte : ℕ) → Inside d levels outer → InString (Some kind) begun → byte ≡ 32 * major_number major + info → ((major_number major ≡ string_major kind) × (info < 28)) ⊎ ((major_number major ≡ 7) × (info ≡ 31)) → Reached (outer ++ (begun ++ byte ∷ [])) (heads levels (Some kind) major info)
by_chunk kind levels d outer begun major info byte i b e (inl h) =
    let l = string_below kind in
    let m = h.0 in
    begins_head (Some kind) levels d outer begun i b major info byte e h.1 h.0 (λ p q. absurd (omega arith))
by_chunk kind levels d outer begun major info byte i b e (inr h) =
    let m = h.0 in
    let f = h.1 in
    let no : ltb info 24 ≡ false = le-ltb info 24 (omega arith) in
    let yes : eqb info 31 ≡ true = eq-eqb info 31 f in
    let q : 255 ≡ byte = omega arith in
    rw (no, yes) (subst (λ x. Reached (outer ++ (begun ++ x ∷ [])) (opened levels (Some kind) major)) q (chunk_breaks kind levels d outer begun major i b m))

begins : (string : Option StringKind) (levels : List Level) (d : ℕ) (outer begun : List ℕ) (major : Major) (info byte : ℕ) → Inside d levels outer → InString string begun → byte ≡ 32 * major_number major + info → info < 32 → first_name levels string (major_number major) info ≡ None → Reached (outer ++ (begun ++ byte ∷ [])) (heads levels string major info)
begins None levels d outer begun major info byte i b e l f =
    subst (λ x. Reached (outer ++ (x ++ byte ∷ [])) (heads levels None major info)) (sym b) (by_clear levels d outer major info byte i e (is_clear (length levels) (can_break levels) (major_number major) info (major_number-below major) l f))
begins (Some kind) levels d outer begun major info byte i b e l f = by_chunk kind levels d outer begun major info byte i b e (chunk_clear kind (major_number major) info f)

first_named : (string : Option StringKind) (levels : List Level) (byte : ℕ) → name_of (first_spot string levels) byte ≡ first_name levels string (byte / 32) (byte % 32)
first_named None levels byte = refl
first_named (Some kind) levels byte = refl

starting : (string : Option StringKind) (levels : List Level) (d : ℕ) (outer begun s : List ℕ) (spot : Spot) (byte : ℕ) (r : Option FaultName) → Inside d levels outer → InString string begun → s ≡ outer ++ begun → spot ≡ first_spot string levels → byte < 256 → first_name levels string (byte / 32) (byte % 32) ≡ r → After s spot byte (started levels string r (byte / 32) (byte % 32))
starting string levels d outer begun s spot byte (Some name) i b e q l f = ap (λ x. name_of x byte) q ∙ first_named string levels byte ∙ f
starting string levels d outer begun s spot byte None i b e q l f =
    let k : major_number (major_of (byte / 32)) ≡ byte / 32 = major_number-major_of (byte / 32) (omega arith) in
    reached s (outer ++ (begun ++ byte ∷ [])) spot byte (heads levels string (major_of (byte / 32)) (byte % 32)) (sym (append_assoc outer begun (byte ∷ [])) ∙ ap (λ x. x ++ byte ∷ []) (sym e))
    (begins string levels d outer begun (major_of (byte / 32)) (byte % 32) byte i b (omega arith) (omega arith) (subst (λ x. first_name levels string x (byte % 32) ≡ None) (sym k) f))

-- ---- a byte of a head

pub info_wide : (size : HeadSize) (n : ℕ) → 0 < argument_width size → info_of size n ≡ info_of size 0
info_wide direct n h = absurd (omega arith)
info_wide _ n h = refl

-- a simple value of two bytes is 32 at least
fine_at : (major : Major) (size : HeadSize) (n : ℕ) → ((is_simple major && is_one size) ≡ true → 32 ≤ n) → IsFine major size n
fine_at Simple one_byte n h = h refl
fine_at _ _ n h = tt

pub nothing_got : (got : List ℕ) → length got ≡ 0 → got ≡ []
nothing_got [] e = refl
nothing_got (g ∷ got) e = absurd (omega arith)

width_max : (size : HeadSize) → argument_width size ≤ 8
width_max direct = omega arith
width_max _ = omega arith

record IsShift (string : Option StringKind) (d : ℕ) (major : Major) (short : Bool) (value left byte : ℕ) (s : List ℕ) (h : IsHeading string d major short value left s) : Type 0 where
  number : shifted value byte ≡ number_from 0 (h.got ++ byte ∷ [])
  bytes : AllBytes (h.got ++ byte ∷ [])
  len : length (h.got ++ byte ∷ []) ≡ length h.got + 1
  form : s ++ byte ∷ [] ≡ (32 * major_number major + info_of h.size 0) ∷ (h.got ++ byte ∷ [])

shift : (string : Option StringKind) (d : ℕ) (major : Major) (short : Bool) (value left byte : ℕ) (s : List ℕ) (h : IsHeading string d major short value left s) → byte < 256 → IsShift string d major short value left byte s h
shift string d major short value left byte s h l =
    let all = h.all in
    let some = h.some in
    let max = width_max h.size in
    let low : number_from 0 h.got < 2 ^ 56 = seven h.got h.bytes (omega arith) in
    let v = h.value_is in
    record {
      number = (let k = number_from-push 0 h.got byte in omega arith);
      bytes = AllBytes-push h.got byte h.bytes l;
      len = omega (arith, length-append h.got (byte ∷ []));
      form = ap (λ x. x ++ byte ∷ []) h.form;
    }

by_test : (s : List ℕ) (spot : Spot) (byte : ℕ) (b c : Bool) (m : Move) → (b ≡ true → c ≡ true → name_of spot byte ≡ Some Malformed) → ((b ≡ true → c ≡ false) → After s spot byte m) → After s spot byte (cond (b && c) (bad Malformed) m)
by_test s spot byte true true m p q = p refl refl
by_test s spot byte true false m p q = q (λ e. refl)
by_test s spot byte false c m p q = q (λ e. absurd cc)

simple_named : (spot : Spot) (byte : ℕ) (b : Bool) → b ≡ true → ltb byte 32 ≡ true → spot ≡ cond b after_simple elsewhere → name_of spot byte ≡ Some Malformed
simple_named spot byte true t e q = ap (λ x. name_of x byte) q ∙ rw e refl
simple_named spot byte false t e q = absurd cc

longer : (string : Option StringKind) (major : Major) (content : List ℕ) (left byte : ℕ) (s : List ℕ) → IsCutString string major content left s → 1 < left → IsCutString string major (content ++ byte ∷ []) (left - 1) (s ++ byte ∷ [])
longer string major content left byte s c l =
    let same : length content + left ≡ length (content ++ byte ∷ []) + (left - 1) = omega (arith, length-append content (byte ∷ [])) in
    record { opening = c.opening; head = subst (λ k. IsHeadOf major k c.opening) same c.head; some = omega arith; form = ap (λ x. x ++ byte ∷ []) c.form ∙ append_assoc c.opening content (byte ∷ []); may = c.may }

last_owed : (r : Option Owed) → owed_of r [] ≡ r
last_owed None = refl
last_owed (Some o) = refl

-- what is owed after one more byte
owed_more : (content : List ℕ) (owed : Owed) (byte : ℕ) → owed_of (Some ready) content ≡ Some owed → owed_of (Some ready) (content ++ byte ∷ []) ≡ owed_after owed byte
owed_more content owed byte e = owed_of-append (Some ready) content (byte ∷ []) ∙ ap (λ x. owed_of x (byte ∷ [])) e ∙ last_owed (owed_after owed byte)

text_ends : (content : List ℕ) (o : Owed) (left : ℕ) → owed_of (Some ready) content ≡ Some o → leb o.need left ≡ false → can_end content left ≡ false
unfolding can_end
text_ends content o left e h = rw e h

text_fails : (content : List ℕ) (left : ℕ) → owed_of (Some ready) content ≡ None → can_end content left ≡ false
unfolding can_end
text_fails content left e = rw e refl

not_text : (s content : List ℕ) (spot : Spot) (byte left : ℕ) → spot ≡ in_text content left → can_end (content ++ byte ∷ []) (left - 1) ≡ false → name_of spot byte ≡ Some NotText
not_text s content spot byte left q e = ap (λ x. name_of x byte) q ∙ rw e refl

-- s, and the bytes of the piece that has begun
one_byte_more : (outer begun cut s : List ℕ) (byte : ℕ) → s ≡ outer ++ (begun ++ cut) → outer ++ (begun ++ (cut ++ byte ∷ [])) ≡ s ++ byte ∷ []
one_byte_more outer begun cut s byte e = ap (λ y. outer ++ y) (sym (append_assoc begun cut (byte ∷ []))) ∙ sym (append_assoc outer (begun ++ cut) (byte ∷ [])) ∙ ap (λ y. y ++ byte ∷ []) (sym e)

module _ (string : Option StringKind) (levels : List Level) (d : ℕ) (outer begun : List ℕ) (i : Inside d levels outer) (b : InString string begun) where
  completes : (cut : List ℕ) (major : Major) (short : Bool) (value left byte : ℕ) → IsHeading string d major short value left cut → byte < 256 → left ≤ 1 → ((is_simple major && short) ≡ true → 32 ≤ byte)
      → Reached (outer ++ (begun ++ (cut ++ byte ∷ []))) (after_head levels string (body_of major (shifted value byte)))
  completes cut major short value left byte h l m ok =
      let x = shift string d major short value left byte cut h l in
      let all = h.all in
      let some = h.some in
      let len = x.len in
      let whole : ℕ = number_from 0 (h.got ++ byte ∷ []) in
      let wide : 0 < argument_width h.size = omega arith in
      let n = number_is h.size (h.got ++ byte ∷ []) wide x.bytes (omega arith) in
      let low : info_of h.size whole ≡ info_of h.size 0 = info_wide h.size whole wide in
      let form : cut ++ byte ∷ [] ≡ sized_head h.size (major_number major) whole =
      x.form ∙ ap (λ k. (32 * major_number major + k) ∷ (h.got ++ byte ∷ [])) (sym low) ∙ ap (λ y. (32 * major_number major + info_of h.size whole) ∷ y) (sym n.form) ∙ sym (head_is h.size (major_number major) whole) in
      let big : byte ≤ whole = let k = number_from-push 0 h.got byte in omega arith in
      let fine : IsFine major h.size whole = fine_at major h.size whole (λ p. let q : 32 ≤ byte = ok (ap (λ b. is_simple major && b) h.short_is ∙ p) in omega arith) in
      let head : IsHeadOf major whole (cut ++ byte ∷ []) = record { size = h.size; fits = n.fits; fine = fine; form = form } in
      head_done string levels d outer begun i b (cut ++ byte ∷ []) major (shifted value byte) h.may (subst (λ k. IsHeadOf major k (cut ++ byte ∷ [])) (sym x.number) head) h.room

  heading : (cut s : List ℕ) (major : Major) (short : Bool) (value left byte : ℕ) (spot : Spot) → IsHeading string d major short value left cut → spot ≡ cond (is_simple major && short) after_simple elsewhere → s ≡ outer ++ (begun ++ cut) → byte < 256
      → After s spot byte (step levels string (Heading major short value left) byte)
  heading cut s major short value left byte spot h q e l =
      let whole = one_byte_more outer begun cut s byte e in
      by_test s spot byte (is_simple major && short) (ltb byte 32) (cond (ltb 1 left) (goes levels string (Heading major short (shifted value byte) (left - 1))) (after_head levels string (body_of major (shifted value byte))))
      (λ t f. simple_named spot byte (is_simple major && short) t f q)
      (λ ok. elim (cases_lt 1 left) [
        | inl m ↦ let x = shift string d major short value left byte cut h l in
            let all = h.all in
            let len = x.len in
            rw (lt-ltb 1 left m) (
              cond (is_simple major && short) after_simple elsewhere,
              stands string levels d outer begun i b (Heading major short (shifted value byte) (left - 1)) (cut ++ byte ∷ []) (s ++ byte ∷ []) _
                  (record { size = h.size; got = h.got ++ byte ∷ []; short_is = h.short_is; form = x.form; bytes = x.bytes; value_is = x.number; some = omega arith; all = omega arith; room = h.room; may = h.may }, refl) (sym whole),
            )
        | inr m ↦ rw (le-ltb 1 left m) (reached s (outer ++ (begun ++ (cut ++ byte ∷ []))) spot byte (after_head levels string (body_of major (shifted value byte))) whole (completes cut major short value left byte h l m (λ t. ltb-false byte 32 (ok t))))
      ])

  -- a byte of a string

  in_octets : (cut s content : List ℕ) (left byte : ℕ) (spot : Spot) → IsCutString string ByteString content left cut → s ≡ outer ++ (begun ++ cut) → After s spot byte (step levels string (InBytes left) byte)
  in_octets cut s content left byte spot c e =
      let whole = one_byte_more outer begun cut s byte e in
      elim (cases_lt 1 left) [
        | inl m ↦ rw (lt-ltb 1 left m) (elsewhere, stands string levels d outer begun i b (InBytes (left - 1)) (cut ++ byte ∷ []) (s ++ byte ∷ []) _ (content ++ byte ∷ [], longer string ByteString content left byte cut c m, refl) (sym whole))
        | inr m ↦ let some = c.some in
            rw (le-ltb 1 left m) (reached s (outer ++ (begun ++ (cut ++ byte ∷ []))) spot byte (ended levels string) whole
            (piece_ends string levels d outer begun (cut ++ byte ∷ []) i b (piece_of string ByteString (length content + left) d c.opening (content ++ byte ∷ []) (cut ++ byte ∷ []) c.may c.head (omega (arith, length-append content (byte ∷ []))) (ap (λ x. x ++ byte ∷ []) c.form ∙ append_assoc c.opening content (byte ∷ [])))))
      ]

  in_chars : (cut s content : List ℕ) (left byte : ℕ) (spot : Spot) (r : Option Owed) → IsCutString string TextString content left cut → owed_of (Some ready) (content ++ byte ∷ []) ≡ r → s ≡ outer ++ (begun ++ cut) → spot ≡ in_text content left → After s spot byte (texts levels string r left)
  in_chars cut s content left byte spot None c o e q = not_text s content spot byte left q (text_fails (content ++ byte ∷ []) (left - 1) o)
  in_chars cut s content left byte spot (Some p) c o e q =
      let whole = one_byte_more outer begun cut s byte e in
      elim (cases_lt (left - 1) p.need) [
        | inl a ↦ rw (lt-leb p.need (left - 1) a) (not_text s content spot byte left q (text_ends (content ++ byte ∷ []) p (left - 1) o (lt-leb p.need (left - 1) a)))
        | inr a ↦ elim (cases_lt 1 left) [
          | inl m ↦ rw (le-leb p.need (left - 1) a, lt-ltb 1 left m) (in_text (content ++ byte ∷ []) (left - 1), stands string levels d outer begun i b (InText p (left - 1)) (cut ++ byte ∷ []) (s ++ byte ∷ []) _ (content ++ byte ∷ [], record { cut = longer string TextString content left byte cut c m; owes = o; enough = a }, refl) (sym whole))
          | inr m ↦ let some = c.some in
              let none : p.need ≤ 0 = omega arith in
              rw (le-leb p.need (left - 1) a, le-ltb 1 left m) (reached s (outer ++ (begun ++ (cut ++ byte ∷ []))) spot byte (ended levels string) whole
              (piece_ends string levels d outer begun (cut ++ byte ∷ []) i b (piece_of string TextString (length content + left) d c.opening (content ++ byte ∷ []) (cut ++ byte ∷ []) c.may c.head ((omega (arith, length-append content (byte ∷ []))), utf8_ends (content ++ byte ∷ []) (ap (λ x. owes_within x 0) o ∙ le-leb p.need 0 none)) (ap (λ x. x ++ byte ∷ []) c.form ∙ append_assoc c.opening content (byte ∷ [])))))
        ]
      ]

  -- together

  by_stage : (stage : Stage) (cut s : List ℕ) (spot : Spot) (byte : ℕ) → At string levels d stage cut spot → s ≡ outer ++ (begun ++ cut) → byte < 256 → After s spot byte (step levels string stage byte)
  by_stage Beginning cut s spot byte a e l = starting string levels d outer begun s spot byte (first_name levels string (byte / 32) (byte % 32)) i b (e ∙ ap (λ x. outer ++ (begun ++ x)) a.0 ∙ ap (λ x. outer ++ x) (append-nil begun)) a.1 l refl
  by_stage (Heading major short value left) cut s spot byte a e l = heading cut s major short value left byte spot a.0 a.1 e l
  by_stage (InBytes left) cut s spot byte a e l = in_octets cut s a.0 left byte spot a.1 e
  by_stage (InText owed left) cut s spot byte a e l =
      let t = a.1 in
      in_chars cut s a.0 left byte spot (owed_after owed byte) t.cut (owed_more a.0 owed byte t.owes) e a.2

pub moves : (levels : List Level) (string : Option StringKind) (stage : Stage) (s : List ℕ) (spot : Spot) (byte : ℕ) → StandsAt levels string stage s spot → byte < 256 → After s spot byte (step levels string stage byte)
moves levels string stage s spot byte h l = by_stage string levels h.depth h.outer h.opened h.inside h.between stage h.cut s spot byte h.at h.form l
