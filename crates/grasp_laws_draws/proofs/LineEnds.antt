-- Texts of lines that hold no line end.
use Rattle.std.proofs.Common.{◌≡◌, ℕ, suc, ◌^◌, ◌<◌, ◌≤◌, Bool, true, cond, eqb, not, ◌&&◌, List, [], ◌∷◌, ◌++◌, get_or, length, refl, ap, ◌∙◌, arith}
use Rattle.std.specs.Prelude.{decimal}
use Rattle.std.specs.List.{slice_split, onto_first, AllByRecursion}
use Rattle.std.proofs.lemmas.Bool.{ne_eqb, and_parts, not-true, and_from}
use Rattle.std.proofs.lemmas.List.Splits.{length-slice_split}
use Rattle.grasp_text.specs.Words.{spaced}
use Rattle.grasp_text.proofs.NumberWords.{number_digit}
use Rattle.grasp_script.proofs.Splitting.{kept}
use Rattle.grasp_script.specs.Scripts.{without_empty_end, text_lines}
use Rattle.grasp_script_draws.specs.Generator.{line, lines_text}

-- ---- words without a line end

unfoldable pub has_no_end : List ℕ → Bool
has_no_end [] = true
has_no_end (x ∷ w) = not (eqb x 10) && has_no_end w

pub record HasNoEnd (w : List ℕ) : Type 0 where
  pub none : has_no_end w ≡ true

pub nothing_ends : HasNoEnd []
unfolding has_no_end
nothing_ends = record { none = refl }

pub byte_ends : (x : ℕ) (w : List ℕ) → ¬ (x ≡ 10) → HasNoEnd w → HasNoEnd (x ∷ w)
unfolding has_no_end
byte_ends x w ne h = record { none = and_from (not (eqb x 10)) (has_no_end w) (ap not (ne_eqb x 10 ne)) h.none }

append_at : (a b : List ℕ) → has_no_end a ≡ true → HasNoEnd b → HasNoEnd (a ++ b)
unfolding has_no_end
append_at [] b p q = q
append_at (x ∷ a) b p q =
    let h = and_parts (not (eqb x 10)) (has_no_end a) p in
    let r = append_at a b h.1 q in
    record { none = and_from (not (eqb x 10)) (has_no_end (a ++ b)) h.0 r.none }

pub append_ends : (a b : List ℕ) → HasNoEnd a → HasNoEnd b → HasNoEnd (a ++ b)
append_ends a b p q = append_at a b p.none q

by_bytes : (w : List ℕ) → ((i : ℕ) → i < length w → 11 ≤ get_or w i 0) → HasNoEnd w
by_bytes [] h = nothing_ends
by_bytes (c ∷ w) h = byte_ends c w (λ e. let f = h 0 (omega arith) in omega arith) (by_bytes w (λ i lt. h (suc i) (omega arith)))

pub number_ends : (n : ℕ) → n < 2 ^ 64 → HasNoEnd (decimal n)
number_ends n lt = by_bytes (decimal n) (λ i inside. let d = number_digit n i lt inside in omega arith)

pub line_ends : (w : List ℕ) (ws : List (List ℕ)) → HasNoEnd w → AllByRecursion HasNoEnd ws → HasNoEnd (line w ws)
line_ends w ws h k = append_ends w (spaced ws) h (spaced_ends ws k) where
  spaced_ends : (vs : List (List ℕ)) → AllByRecursion HasNoEnd vs → HasNoEnd (spaced vs)
  spaced_ends [] k = nothing_ends
  spaced_ends (v ∷ vs) k = byte_ends 32 (v ++ spaced vs) (λ e. omega arith) (append_ends v (spaced vs) k.0 (spaced_ends vs k.1))

-- ---- the lines of a text

abbrev parts_of : List ℕ → List (List ℕ)
parts_of s = slice_split (λ b. eqb b 10) s

-- the parts of one byte more
abbrev one_more : ℕ → Bool → List (List ℕ) → List (List ℕ)
one_more x b parts = cond b ([] ∷ parts) (onto_first x parts)

before_end : (l rest : List ℕ) → has_no_end l ≡ true → parts_of (l ++ 10 ∷ rest) ≡ l ∷ parts_of rest
unfolding has_no_end
before_end [] rest h = refl
before_end (x ∷ l) rest h =
    let p = and_parts (not (eqb x 10)) (has_no_end l) h in
    ap (λ (b : Bool). one_more x b (parts_of (l ++ 10 ∷ rest))) (not-true (eqb x 10) p.0) ∙ ap (onto_first x) (before_end l rest p.1)

-- a text of lines has these lines
pub lines_again : (ls : List (List ℕ)) → AllByRecursion HasNoEnd ls → text_lines (lines_text ls) ≡ ls
unfolding text_lines lines_text
lines_again [] h = refl
lines_again (l ∷ ls) h =
    ap without_empty_end (before_end l (lines_text ls) h.0.none)
    ∙ kept l (parts_of (lines_text ls)) (omega (arith, length-slice_split (λ b. eqb b 10) (lines_text ls)))
    ∙ ap (λ (t : List (List ℕ)). l ∷ t) (lines_again ls h.1)
