-- The words of a record's line before its answer, and those of the answer.
use Rattle.std.proofs.Common.{◌≡◌, ℕ, ◌+◌, ◌-◌, ◌<◌, ◌≤◌, Bool, true, false, eqb, cond, List, [], ◌∷◌, ◌++◌, length, take, drop, drop-drop, Some, None, refl, sym, ap, ◌∙◌, append_assoc, arith, length-append, length-take-le, length-drop, take-append-drop}
use Rattle.std.specs.Prelude.{codes, decimal}
use Rattle.std.specs.List.{onto_first}
use Rattle.std.proofs.Math.Seq.{drop-append_seam}
use Rattle.std.proofs.lemmas.List.{append-nil, take_all}
use Rattle.std.proofs.lemmas.List.Elements.{All-from_recursion}
use Rattle.std.proofs.lemmas.List.Splits.{slice_split_none}
use Rattle.memchr.specs.Find.{OccursAt, FindsNeedle}
use Rattle.memchr.proofs.lemmas.MatchLemmas.{OccursAt-split, OccursAt-from_part}
use Rattle.grasp_text.specs.Words.{words_of, joined, spaced, is_over, HasNoBlank}
use Rattle.grasp_text.proofs.Splitting.{joined_again, has_word}
use Rattle.grasp_script.proofs.WholeWords.{before_blank}
use Rattle.grasp_record.specs.Answers.{told_words}
use Rattle.grasp_record.specs.Dividing.{behind_first, HaveNoSign, IsDivided}
use Rattle.grasp_record.specs.Inputs.{input_words}
use Rattle.grasp_record.specs.Records.{IsRecord, record_words}
use Rattle.grasp_record.specs.declared.line.RecordLine.{RecordLine}
use Rattle.grasp_audit.proofs.Blanks.{AreUnbroken}
use Rattle.grasp_audit.proofs.Signs.{number, signless}

-- ---- words

abbrev sign : List ℕ
sign = codes "="

-- the words of one byte more
abbrev one_more : ℕ → Bool → List (List ℕ) → List (List ℕ)
one_more x b words = cond b ([] ∷ words) (onto_first x words)

more_before : (x : ℕ) (b : Bool) (words others : List (List ℕ)) → is_over words ≡ false → one_more x b (words ++ others) ≡ one_more x b words ++ others
more_before x true words others some = refl
more_before x false [] others some = absurd cc
more_before x false (w ∷ words) others some = refl

-- the words before a blank, and those behind it
pub at_blank : (s t : List ℕ) → words_of (s ++ 32 ∷ t) ≡ words_of s ++ words_of t
at_blank [] t = refl
at_blank (x ∷ s) t = ap (one_more x (eqb x 32)) (at_blank s t) ∙ more_before x (eqb x 32) (words_of s) (words_of t) (has_word s)

joined_both : (w : List ℕ) (ws vs : List (List ℕ)) → is_over vs ≡ false → joined ((w ∷ ws) ++ vs) ≡ joined (w ∷ ws) ++ 32 ∷ joined vs
joined_both w [] [] some = absurd cc
joined_both w [] (v ∷ vs) some = refl
joined_both w (x ∷ ws) vs some = ap (λ (t : List ℕ). w ++ 32 ∷ t) (joined_both x ws vs some) ∙ sym (append_assoc w (32 ∷ joined (x ∷ ws)) (32 ∷ joined vs))

pub joined_at : (ws vs : List (List ℕ)) → is_over ws ≡ false → is_over vs ≡ false → joined (ws ++ vs) ≡ joined ws ++ 32 ∷ joined vs
joined_at [] vs some others = absurd cc
joined_at (w ∷ ws) vs some others = joined_both w ws vs others

-- a sign before other words
behind_sign : (vs : List (List ℕ)) → is_over vs ≡ false → joined (sign ∷ vs) ≡ 61 ∷ 32 ∷ joined vs
behind_sign [] some = absurd cc
behind_sign (v ∷ vs) some = refl

-- ---- the first sign

same_first : (us vs bs ds : List (List ℕ)) → HaveNoSign us → HaveNoSign vs → us ++ sign ∷ bs ≡ vs ++ sign ∷ ds → (us ≡ vs) × (bs ≡ ds)
same_first [] [] bs ds h k e = (refl, cc)
same_first [] (v ∷ vs) bs ds h k e = absurd (let z : v ≡ sign = cc in k.0 z)
same_first (u ∷ us) [] bs ds h k e = absurd (let z : u ≡ sign = cc in h.0 z)
same_first (u ∷ us) (v ∷ vs) bs ds h k e =
    let first : u ≡ v = cc in
    let rest : us ++ sign ∷ bs ≡ vs ++ sign ∷ ds = cc in
    let same = same_first us vs bs ds h.1 k.1 rest in
    ((λ i. first i ∷ same.0 i), same.1)

same_at : (us vs bs ds : List (List ℕ)) → is_over us ≡ false → is_over vs ≡ false → HaveNoSign (behind_first us) → HaveNoSign (behind_first vs) → us ++ sign ∷ bs ≡ vs ++ sign ∷ ds → (us ≡ vs) × (bs ≡ ds)
same_at [] vs bs ds p q h k e = absurd cc
same_at (u ∷ us) [] bs ds p q h k e = absurd cc
same_at (u ∷ us) (v ∷ vs) bs ds p q h k e =
    let first : u ≡ v = cc in
    let rest : us ++ sign ∷ bs ≡ vs ++ sign ∷ ds = cc in
    let same = same_first us vs bs ds h k rest in
    ((λ i. first i ∷ same.0 i), same.1)

-- words are divided in one way
pub one_division : (words us bs vs ds : List (List ℕ)) → IsDivided words us bs → IsDivided words vs ds → (us ≡ vs) × (bs ≡ ds)
one_division words us bs vs ds a b = same_at us vs bs ds a.before b.before a.first b.first (sym a.parts ∙ b.parts)

-- no sign is among words that it doesn't divide
no_sign : (ws : List (List ℕ)) → ((us vs : List (List ℕ)) → ¬ (ws ≡ us ++ sign ∷ vs)) → HaveNoSign ws
no_sign [] h = tt
no_sign (w ∷ ws) h = ((λ e. h [] ws (ap (λ (v : List ℕ). v ∷ ws) e)), no_sign ws (λ us vs e. h (w ∷ us) vs (ap (λ (t : List (List ℕ)). w ∷ t) e)))

no_later : (ws : List (List ℕ)) → ((u : List ℕ) (us vs : List (List ℕ)) → ¬ (ws ≡ (u ∷ us) ++ sign ∷ vs)) → HaveNoSign (behind_first ws)
no_later [] h = tt
no_later (w ∷ ws) h = no_sign ws (λ us vs e. h w us vs (ap (λ (t : List (List ℕ)). w ∷ t) e))

-- ---- bytes

abbrev needle : List ℕ
needle = codes " = "

-- what stands around the needle
parts_at : (line : List ℕ) (k : ℕ) → OccursAt line needle k → line ≡ take k line ++ 32 ∷ 61 ∷ 32 ∷ drop (k + 3) line
parts_at line k h = sym (take-append-drop k line) ∙ ap (λ (t : List ℕ). take k line ++ t) (OccursAt-split line needle k h)

occurs_behind : (line s t : List ℕ) → line ≡ s ++ 32 ∷ 61 ∷ 32 ∷ t → OccursAt line needle (length s)
occurs_behind line s t e = OccursAt-from_part line needle (length s) (omega (arith, ap length e, length-append s (32 ∷ 61 ∷ 32 ∷ t))) (ap (λ (l : List ℕ). take 3 (drop (length s) l)) e ∙ ap (take 3) (drop-append_seam s (32 ∷ 61 ∷ 32 ∷ t)))

-- a sign among the words before it is an earlier needle
earlier : (s t : List ℕ) (vs : List (List ℕ)) → (r : List ℕ) × ((s ++ 32 ∷ joined (sign ∷ vs)) ++ 32 ∷ 61 ∷ 32 ∷ t ≡ s ++ 32 ∷ 61 ∷ 32 ∷ r)
earlier s t [] = (61 ∷ 32 ∷ t, append_assoc s (32 ∷ 61 ∷ []) (32 ∷ 61 ∷ 32 ∷ t))
earlier s t (v ∷ vs) = (joined (v ∷ vs) ++ 32 ∷ 61 ∷ 32 ∷ t, append_assoc s (32 ∷ 61 ∷ 32 ∷ joined (v ∷ vs)) (32 ∷ 61 ∷ 32 ∷ t))

module _ (line : List ℕ) (k : ℕ) (found : FindsNeedle line needle 0 (Some k)) where
  abbrev front : List ℕ
  front = take k line

  abbrev back : List ℕ
  back = drop (k + 3) line

  none_earlier : (u : List ℕ) (us vs : List (List ℕ)) → ¬ (words_of front ≡ (u ∷ us) ++ sign ∷ vs)
  none_earlier u us vs e =
      let s : List ℕ = joined (u ∷ us) in
      let whole : front ≡ s ++ 32 ∷ joined (sign ∷ vs) = sym (joined_again front) ∙ ap joined e ∙ joined_both u us (sign ∷ vs) refl in
      let r = earlier s back vs in
      let at : OccursAt line needle (length s) = occurs_behind line s r.0 (parts_at line k found.1 ∙ ap (λ (t : List ℕ). t ++ 32 ∷ 61 ∷ 32 ∷ back) whole ∙ r.1) in
      let fits = found.1.fits in
      let long : length front ≡ k = length-take-le k line (omega arith) in
      let less : length s < k = omega (arith, long, ap length whole, length-append s (32 ∷ joined (sign ∷ vs))) in
      found.0.before (length s) (omega arith) less at

  pub divided_here : IsDivided (words_of line) (words_of front) (words_of back)
  divided_here = record {
    parts = ap words_of (parts_at line k found.1) ∙ at_blank front (61 ∷ 32 ∷ back) ∙ ap (λ (t : List (List ℕ)). words_of front ++ t) (at_blank (61 ∷ []) back);
    before = has_word front;
    behind = has_word back;
    first = no_later (words_of front) none_earlier;
  }

-- where no needle is found, the words aren't divided
pub undivided : (line : List ℕ) → FindsNeedle line needle 0 None → (front back : List (List ℕ)) → ¬ IsDivided (words_of line) front back
undivided line none front back d =
    let s : List ℕ = joined front in
    let whole : line ≡ s ++ 32 ∷ 61 ∷ 32 ∷ joined back = sym (joined_again line) ∙ ap joined d.parts ∙ joined_at front (sign ∷ back) d.before refl ∙ ap (λ (t : List ℕ). s ++ 32 ∷ t) (behind_sign back d.behind) in
    none (length s) (omega arith) (omega (arith, ap length whole, length-append s (32 ∷ 61 ∷ 32 ∷ joined back))) (occurs_behind line s (joined back) whole)

-- ---- what the code cuts off

-- behind the first needle, its last blank stands before the words of the answer
pub told_there : (line : List ℕ) (k : ℕ) → FindsNeedle line needle 0 (Some k) → (us vs : List (List ℕ)) → IsDivided (words_of line) us vs → take (length line - (k + 2)) (drop (k + 2) line) ≡ 32 ∷ joined vs
told_there line k found us vs d =
    let at : OccursAt line needle k = found.1 in
    let same = one_division (words_of line) (words_of (take k line)) (words_of (drop (k + 3) line)) us vs (divided_here line k found) d in
    take_all (length line - (k + 2)) (drop (k + 2) line) (omega (arith, length-drop (k + 2) line))
    ∙ sym (drop-drop 2 k line)
    ∙ ap (drop 2) (OccursAt-split line needle k at)
    ∙ ap (λ (t : List ℕ). 32 ∷ t) (sym (joined_again (drop (k + 3) line)) ∙ ap joined same.1)

-- there is one
pub told_nowhere : (line : List ℕ) → FindsNeedle line needle 0 None → (us vs : List (List ℕ)) → IsDivided (words_of line) us vs → [] ≡ 32 ∷ joined vs
told_nowhere line none us vs d = absurd (undivided line none us vs d)

-- ---- words of an answer

-- the words of a record's line before its answer
abbrev pub asked_words : RecordLine → List (List ℕ)
asked_words x = decimal x.node ∷ decimal x.now ∷ input_words x.input

pub words_divided : (nodes : ℕ) → nodes ≤ 255 → (x : RecordLine) → IsRecord nodes x → is_over (told_words x.answer) ≡ false → IsDivided (record_words x) (asked_words x) (told_words x.answer)
words_divided nodes few x h some = record { parts = refl; before = refl; behind = some; first = (number x.now h.now, signless nodes few x.input h.input) }

-- ---- words without blanks

one_word : (w : List ℕ) → HasNoBlank w → words_of w ≡ w ∷ []
one_word w h = slice_split_none (λ b. eqb b 32) w (All-from_recursion (λ b. eqb b 32 ≡ false) w h)

pub words_again : (w : List ℕ) (ws : List (List ℕ)) → AreUnbroken (w ∷ ws) → words_of (joined (w ∷ ws)) ≡ w ∷ ws
words_again w [] h = one_word w h.0
words_again w (v ∷ ws) h = before_blank w (joined (v ∷ ws)) (one_word w h.0) ∙ ap (λ (t : List (List ℕ)). w ∷ t) (words_again v ws h.1)

pub spaced_joined : (w : List ℕ) (ws : List (List ℕ)) → spaced (w ∷ ws) ≡ 32 ∷ joined (w ∷ ws)
spaced_joined w [] = ap (λ (t : List ℕ). 32 ∷ t) (append-nil w)
spaced_joined w (v ∷ ws) = ap (λ (t : List ℕ). 32 ∷ (w ++ t)) (spaced_joined v ws)

joined_same : (v w : List ℕ) (vs ws : List (List ℕ)) → 32 ∷ joined (v ∷ vs) ≡ 32 ∷ joined (w ∷ ws) → joined (v ∷ vs) ≡ joined (w ∷ ws)
joined_same v w vs ws e = ap (drop 1) e

-- the same text has the same words
pub same_words : (vs ws : List (List ℕ)) → AreUnbroken vs → AreUnbroken ws → spaced vs ≡ spaced ws → vs ≡ ws
same_words [] [] h k e = refl
same_words [] (w ∷ ws) h k e = absurd cc
same_words (v ∷ vs) [] h k e = absurd cc
same_words (v ∷ vs) (w ∷ ws) h k e =
    let same = joined_same v w vs ws (sym (spaced_joined v vs) ∙ e ∙ spaced_joined w ws) in
    sym (words_again v vs h) ∙ ap words_of same ∙ words_again w ws k
