-- How many lines a text has.
use Rattle.std.proofs.Common.{◌≡◌, ◌≢◌, ◌<◌, ◌≤◌, ◌↔◌, IsTrue, nat_lt, ◌+◌, ◌==◌, if◌then◌else◌, ℕ, suc, ◌^◌, Bool, true, false, List, [], ◌∷◌, length, length-append, refl, ap, arith, inl, inr}
use Rattle.std.proofs.lemmas.Bool.{ltb-true, lt-ltb}
use Rattle.std.specs.List.{slice_split, onto_first}
use Rattle.std.proofs.lemmas.List.Splits.{length-slice_split}
use Rattle.grasp_script.specs.Scripts.{without_empty_end, text_lines}
use Rattle.grasp_script.proofs.Splitting.{no_line}
use Rattle.grasp_pool.proofs.Lists.{lt_tells}
use Rattle.grasp_model_network.specs.declared.plan.WorldPlan.{WorldPlan}
use Rattle.grasp_script_kept.specs.Scripts.{IsKeptScript, kept_texts}
use Rattle.grasp_script_kept.specs.declared.line.KeptLine.{KeptLine}
use Rattle.grasp_replay_main.specs.Limits.{line_limit}

one_more : (c : Bool) (b n : ℕ) (parts : List (List ℕ)) → 1 ≤ length parts → length (without_empty_end parts) ≤ n
    → length (without_empty_end (if c then [] ∷ parts else onto_first b parts)) ≤ n + 1
one_more c b n [] some h = absurd (omega (arith, some))
one_more true b n (line ∷ parts) some h = omega (arith, h)
one_more false b n (line ∷ []) some h = omega (arith, h)
one_more false b n (line ∷ next ∷ parts) some h = omega (arith, h)

few_parts : (s : List ℕ) → length (without_empty_end (slice_split (λ b. b == 10) s)) ≤ length s
few_parts [] = omega arith
few_parts (b ∷ s) = omega (arith, one_more (b == 10) b (length s) (slice_split (λ b. b == 10) s) (omega (arith, length-slice_split (λ b. b == 10) s)) (few_parts s))

-- a text never has more lines than bytes
pub few_lines : (s : List ℕ) → length (text_lines s) ≤ length s
unfolding text_lines
few_lines s = few_parts s

-- where a line is left, the number of all lines is greater
pub room_for_line : (text rest line : List ℕ) (others : List (List ℕ)) (count : ℕ) → count + length (text_lines rest) ≡ length (text_lines text) → text_lines rest ≡ line ∷ others
    → count + 1 ≤ length text
room_for_line text rest line others count h left = omega (arith, h, ap length left, few_lines text)

-- where nothing is left, all lines were counted
pub all_counted : (text rest : List ℕ) (count : ℕ) → count + length (text_lines rest) ≡ length (text_lines text) → length rest ≡ 0 → count ≡ length (text_lines text)
all_counted text rest count h none = omega (arith, h, ap length (no_line rest none))

-- whether there are more lines than so many
pub more_lines : (limit count : ℕ) (s : List ℕ) → count ≡ length (text_lines s) → IsTrue (nat_lt limit count) ↔ (limit < length (text_lines s))
more_lines limit count s e = (
  λ t. let more : limit < count = ltb-true limit count t in omega (arith, e),
  λ more. let less : limit < count = omega (arith, e) in lt-ltb limit count less,
)

-- a text that isn't empty has bytes
pub has_bytes : (s : List ℕ) → s ≢ [] → 1 ≤ length s
has_bytes [] some = absurd (some refl)
has_bytes (b ∷ s) some = omega arith

-- ---- the lines of a script of a network whose nodes crash

as_many_texts : (lines : List KeptLine) → length (kept_texts lines) ≡ length lines
as_many_texts [] = refl
as_many_texts (x ∷ xs) = ap (λ (n : ℕ). suc n) (as_many_texts xs)

-- a text of few lines is a script of few
pub few_kept_lines : (input : List ℕ) (plan : WorldPlan) (lines : List KeptLine) → IsKeptScript input plan lines → ¬ (line_limit < length (text_lines input)) → length lines < 2 ^ 32
few_kept_lines input plan lines script few = elim (lt_tells line_limit (length (text_lines input))) [
  | inl h ↦ absurd (few h.1)
  | inr h ↦ omega (arith, h.1, ap (λ (l : List (List ℕ)). length l) script.parts, length-append script.header (kept_texts lines), as_many_texts lines)
]
