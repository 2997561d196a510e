-- How many lines a text has.
use Rattle.std.proofs.Common.{◌≡◌, ◌≤◌, ◌+◌, ◌==◌, if◌then◌else◌, ℕ, Bool, true, false, List, [], ◌∷◌, ◌++◌, length, ap, arith, length-append}
use Rattle.std.specs.List.{slice_split, onto_first}
use Rattle.std.proofs.lemmas.List.Splits.{length-slice_split}
use Rattle.grasp_script.specs.Scripts.{without_empty_end, text_lines}

one_more : (c : Bool) (b n : ℕ) (parts : List (List ℕ)) → 1 ≤ length parts → length (without_empty_end parts) ≤ n
    → length (without_empty_end (if c then [] ∷ parts else onto_first b parts)) ≤ n + 1
one_more c b n [] some h = absurd (omega (arith, some))
one_more true b n (line ∷ parts) some h = omega (arith, h)
one_more false b n (line ∷ []) some h = omega (arith, h)
one_more false b n (line ∷ next ∷ parts) some h = omega (arith, h)

few_parts : (s : List ℕ) → length (without_empty_end (slice_split (λ b. b == 10) s)) ≤ length s
few_parts [] = omega arith
few_parts (b ∷ s) = omega (arith, one_more (b == 10) b (length s) (slice_split (λ b. b == 10) s) (omega (arith, length-slice_split (λ b. b == 10) s)) (few_parts s))

-- a text never has more lines than bytes
few_lines : (s : List ℕ) → length (text_lines s) ≤ length s
unfolding text_lines
few_lines s = few_parts s

-- where a line is left behind others, there are fewer of these than bytes
pub room_for_line : (text line : List ℕ) (front rest others : List (List ℕ)) (number : ℕ) → text_lines text ≡ front ++ rest → rest ≡ line ∷ others → number ≡ length front → number + 1 ≤ length text
room_for_line text line front rest others number parts left place = omega (arith, ap length parts, length-append front rest, ap length left, place, few_lines text)
