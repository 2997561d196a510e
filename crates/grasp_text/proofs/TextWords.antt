-- Texts as words.
use Rattle.std.proofs.Common.{◌≡◌, ℕ, suc, ◌+◌, ◌/◌, ◌%◌, ◌<◌, Bool, true, false, cond, eqb, List, [], ◌∷◌, ◌++◌, length, get_or, take, Option, Some, None, refl, sym, ap, ◌∙◌, append_assoc, arith}
use Rattle.std.proofs.lemmas.List.{append-nil, take_more}
use Rattle.std.specs.Prelude.{slice_index, IfSome, IfNone}
use Rattle.std.specs.Str.{IsUtf8, is_utf8}
use Rattle.std.proofs.lemmas.Str.{IsUtf8-from_is_utf8, is_utf8-from_IsUtf8}
use Rattle.grasp_text.proofs.NumberWords.{some}
use Rattle.hex.specs.Hex.{lower_digits}
use Rattle.grasp_text.specs.Line.{escaped, all_escaped}
use Rattle.grasp_text.specs.Reading.{unescaped, first_unescaped, paired, onto, as_text, byte_of, is_plain, ArePlain}

pub lower_digit_small : (i : ℕ) → i < 16 → slice_index lower_digits i < 128
lower_digit_small (suc (suc (suc (suc (suc (suc (suc (suc (suc (suc (suc (suc (suc (suc (suc (suc n)))))))))))))))) lt = absurd (omega arith)
lower_digit_small _ lt = omega arith

-- what was unescaped before, and what is still
abbrev pub with_front : List ℕ → Option (List ℕ) → Option (List ℕ)
with_front front None = None
with_front front (Some bytes) = Some (front ++ bytes)

abbrev pub then_unescaped : Option (ℕ × List ℕ) → Option (List ℕ)
then_unescaped None = None
then_unescaped (Some x) = onto (Some x.0) (unescaped x.1)

onto_paired : (o : Option ℕ) (rest : List ℕ) → onto o (unescaped rest) ≡ then_unescaped (paired o rest)
onto_paired None rest = refl
onto_paired (Some b) rest = refl

by_percent : (e : Bool) (a : Option (ℕ × List ℕ)) → cond e (then_unescaped a) None ≡ then_unescaped (cond e a None)
by_percent true a = refl
by_percent false a = refl

by_plain : (p e : Bool) (now : Option (List ℕ)) (b : ℕ) (rest : List ℕ) (a : Option (ℕ × List ℕ)) → now ≡ onto (Some b) (unescaped rest) → cond p now (cond e (then_unescaped a) None) ≡ then_unescaped (cond p (Some (b, rest)) (cond e a None))
by_plain true e now b rest a is = is
by_plain false e now b rest a is = by_percent e a

none_of : (p e : Bool) (now : Option (List ℕ)) → cond p now None ≡ cond p now (cond e None None)
none_of true e now = refl
none_of false true now = refl
none_of false false now = refl

-- the first byte, and then the others
pub unescaped_first : (b : ℕ) (rest : List ℕ) → unescaped (b ∷ rest) ≡ then_unescaped (first_unescaped (b ∷ rest))
unfolding unescaped first_unescaped
unescaped_first b [] = none_of (is_plain b) (eqb b 37) (Some (b ∷ [])) ∙ by_plain (is_plain b) (eqb b 37) (Some (b ∷ [])) b [] None refl
unescaped_first b (c ∷ []) = none_of (is_plain b) (eqb b 37) (onto (Some b) (unescaped (c ∷ []))) ∙ by_plain (is_plain b) (eqb b 37) (onto (Some b) (unescaped (c ∷ []))) b (c ∷ []) None refl
unescaped_first b (c ∷ d ∷ rest) =
    ap (λ (o : Option (List ℕ)). cond (is_plain b) (onto (Some b) (unescaped (c ∷ d ∷ rest))) (cond (eqb b 37) o None)) (onto_paired (byte_of c d) rest)
    ∙ by_plain (is_plain b) (eqb b 37) (onto (Some b) (unescaped (c ∷ d ∷ rest))) b (c ∷ d ∷ rest) (paired (byte_of c d) rest) refl

moved : (front : List ℕ) (b : ℕ) (o : Option (List ℕ)) → with_front front (onto (Some b) o) ≡ with_front (front ++ b ∷ []) o
moved front b None = refl
moved front b (Some bytes) = ap Some (sym (append_assoc front (b ∷ []) bytes))

nothing_first : (b : ℕ) (after : List ℕ) → ¬ (first_unescaped [] ≡ Some (b, after))
unfolding first_unescaped
nothing_first b after e = cc

-- one more byte
pub goes_on : (front s after : List ℕ) (b : ℕ) (total : Option (List ℕ)) → first_unescaped s ≡ Some (b, after) → with_front front (unescaped s) ≡ total → with_front (front ++ b ∷ []) (unescaped after) ≡ total
goes_on front [] after b total is so_far = absurd (nothing_first b after is)
goes_on front (c ∷ s) after b total is so_far =
    sym (moved front b (unescaped after)) ∙ ap (with_front front) (sym (unescaped_first c s ∙ ap then_unescaped is)) ∙ so_far

-- no byte
pub ends : (front : List ℕ) (s : List ℕ) (total : Option (List ℕ)) → 0 < length s → first_unescaped s ≡ None → with_front front (unescaped s) ≡ total → total ≡ None
ends front [] total some is so_far = absurd (omega arith)
ends front (c ∷ s) total some is so_far = sym so_far ∙ ap (with_front front) (unescaped_first c s ∙ ap then_unescaped is)

-- no more bytes
pub is_done : (front s : List ℕ) (total : Option (List ℕ)) → length s ≡ 0 → with_front front (unescaped s) ≡ total → total ≡ Some front
unfolding unescaped
is_done front [] total none so_far = sym so_far ∙ ap Some (append-nil front)
is_done front (c ∷ s) total none so_far = absurd (omega arith)

nothing_front : (o : Option (List ℕ)) → with_front [] o ≡ o
nothing_front None = refl
nothing_front (Some bytes) = refl

pub starts : (s : List ℕ) → with_front [] (unescaped s) ≡ unescaped s
starts s = nothing_front (unescaped s)

pub all_escaped-append : (xs ys : List ℕ) → all_escaped (xs ++ ys) ≡ all_escaped xs ++ all_escaped ys
all_escaped-append [] ys = refl
all_escaped-append (x ∷ xs) ys = ap (λ (t : List ℕ). escaped x ++ t) (all_escaped-append xs ys) ∙ sym (append_assoc (escaped x) (all_escaped xs) (all_escaped ys))

-- one more byte is escaped
pub escaped_more : (xs : List ℕ) (i : ℕ) → i < length xs → all_escaped (take (i + 1) xs) ≡ all_escaped (take i xs) ++ escaped (get_or xs i 0)
escaped_more xs i lt = ap all_escaped (take_more xs i 0 lt) ∙ all_escaped-append (take i xs) (get_or xs i 0 ∷ []) ∙ ap (λ (t : List ℕ). all_escaped (take i xs) ++ t) (append-nil (escaped (get_or xs i 0)))

-- ---- bytes that stand for themselves

plain_append : (xs : List ℕ) (b : ℕ) → ArePlain xs → is_plain b ≡ true → ArePlain (xs ++ b ∷ [])
plain_append [] b h e = (e, tt)
plain_append (x ∷ xs) b h e = (h.0, plain_append xs b h.1 e)

pub escaped_plain : (b : ℕ) → is_plain b ≡ true → escaped b ≡ b ∷ []
escaped_plain b e = ap (λ (p : Bool). cond p (b ∷ []) (37 ∷ slice_index lower_digits (b / 16) ∷ slice_index lower_digits (b % 16) ∷ [])) e

-- plain bytes are their own escaped form
pub plain_escaped : (xs : List ℕ) → ArePlain xs → all_escaped xs ≡ xs
plain_escaped [] h = refl
plain_escaped (b ∷ xs) h = ap (λ (t : List ℕ). t ++ all_escaped xs) (escaped_plain b h.0) ∙ ap (λ (t : List ℕ). b ∷ t) (plain_escaped xs h.1)

-- a blank and a text behind a text
pub text_pushed : (old middle new body text : List ℕ) → middle ≡ old ++ 32 ∷ 39 ∷ [] → new ≡ middle ++ body → body ≡ all_escaped text → new ≡ old ++ 32 ∷ 39 ∷ (all_escaped text ++ [])
text_pushed old middle new body text a b e = b ∙ ap (λ (x : List ℕ). x ++ body) a ∙ append_assoc old (32 ∷ 39 ∷ []) body ∙ ap (λ (x : List ℕ). old ++ 32 ∷ 39 ∷ x) (e ∙ sym (append-nil (all_escaped text)))

pub text_pushed_plain : (old middle new body text : List ℕ) → middle ≡ old ++ 32 ∷ 39 ∷ [] → new ≡ middle ++ body → body ≡ text → ArePlain text → new ≡ old ++ 32 ∷ 39 ∷ (all_escaped text ++ [])
text_pushed_plain old middle new body text a b e plain = text_pushed old middle new body text a b (e ∙ sym (plain_escaped text plain))

-- three characters behind a text
pub three_pushed : (byte : ℕ) (old a b new : List ℕ) → is_plain byte ≡ false → a ≡ old ++ 37 ∷ [] → b ≡ a ++ slice_index lower_digits (byte / 16) ∷ [] → new ≡ b ++ slice_index lower_digits (byte % 16) ∷ [] → new ≡ old ++ escaped byte
three_pushed byte old a b new plain first high low =
    let h : ℕ = slice_index lower_digits (byte / 16) in
    let l : ℕ = slice_index lower_digits (byte % 16) in
    let whole : escaped byte ≡ 37 ∷ h ∷ l ∷ [] = ap (λ (p : Bool). cond p (byte ∷ []) (37 ∷ h ∷ l ∷ [])) plain in
    low ∙ ap (λ (x : List ℕ). x ++ l ∷ []) (high ∙ ap (λ (x : List ℕ). x ++ h ∷ []) first ∙ append_assoc old (37 ∷ []) (h ∷ [])) ∙ append_assoc old (37 ∷ h ∷ []) (l ∷ []) ∙ ap (λ (x : List ℕ). old ++ x) (sym whole)

no_text : (s : List ℕ) (b : Bool) → is_utf8 s ≡ b → ¬ IsUtf8 s → b ≡ false
no_text s true e h = absurd (h (IsUtf8-from_is_utf8 s e))
no_text s false e h = refl

one_text : (o : Option (List ℕ)) (bytes : List ℕ) → IfSome o (λ t. t ≡ bytes) → IfSome o (λ t. IsUtf8 bytes) → IfNone o (¬ IsUtf8 bytes) → o ≡ as_text (Some bytes)
one_text (Some t) bytes same text none = ap Some same ∙ sym (ap (λ (b : Bool). cond b (some bytes) None) (is_utf8-from_IsUtf8 bytes text))
one_text None bytes same text none = sym (ap (λ (b : Bool). cond b (some bytes) None) (no_text bytes (is_utf8 bytes) refl none))

-- what `from_vec` gives
pub text_by : (o : Option (List ℕ)) (bytes : List ℕ) (read : Option (List ℕ)) → IfSome o (λ t. t ≡ bytes) → IfSome o (λ t. IsUtf8 bytes) → IfNone o (¬ IsUtf8 bytes) → read ≡ Some bytes → o ≡ as_text read
text_by o bytes read same text none is = one_text o bytes same text none ∙ ap as_text (sym is)
