-- A header that was read, in part or whole.
use Rattle.std.specs.Prelude.{◌≡◌, ℕ, List, [], ◌∷◌, ◌++◌, length, map, Option, None}
use Rattle.grasp_text.specs.Words.{words_of}
use Rattle.grasp_model_network.specs.Plans.{IsGoodPlan}
use Rattle.grasp_model_network.specs.declared.plan.WorldPlan.{WorldPlan}
use Rattle.grasp_script.specs.Headers.{IsLimit, nodes_words, limit_words, header_line_words, size_words, plan_told}
use Rattle.grasp_script.specs.Scripts.{text_lines, IsHeader}
use Rattle.grasp_script.specs.declared.header.HeaderLine.{HeaderLine}

-- Inside: the words of the lines of a header before its last
abbrev pub opening_words : ℕ → Option ℕ → List HeaderLine → List (List (List ℕ))
opening_words nodes size told = nodes_words nodes ∷ (size_words size ++ map header_line_words told)

-- Inside: a plan without roots and links
abbrev pub bare : ℕ → ℕ → WorldPlan
bare nodes limit = record { nodes = nodes; limit = limit; roots = []; links = [] }

-- Inside: the first line of a text tells the most bytes of a message, and this stands behind it
pub record IsSized (text : List ℕ) (limit : ℕ) (behind : List ℕ) : Type 0 where
  pub line : List ℕ
  pub parts : text_lines text ≡ line ∷ text_lines behind
  pub spelled : words_of line ≡ limit_words limit
  pub good : IsLimit limit

-- Inside: the first line of the text, where it has one, doesn't give the most bytes of a message
abbrev pub IsUnsized : List ℕ → Type 0
IsUnsized text = (line : List ℕ) (more : List (List ℕ)) (n : ℕ) → text_lines text ≡ line ∷ more → IsLimit n → ¬ (words_of line ≡ limit_words n)

-- Inside: so many lines of the text were read, which tell this plan, and the next one isn't that of the size
pub record SoFar (text rest : List ℕ) (plan : WorldPlan) (number : ℕ) : Type 0 where
  pub size : Option ℕ
  pub told : List HeaderLine
  pub front : List (List ℕ)
  pub parts : text_lines text ≡ front ++ text_lines rest
  pub is_plan : plan ≡ plan_told plan.nodes size told
  pub good : IsGoodPlan plan
  pub spelled : map words_of front ≡ opening_words plan.nodes size told
  pub unsized : size ≡ None → told ≡ [] → IsUnsized rest
  pub place : number ≡ length front

-- the header of this plan is the first so many lines of the text, and this is the text behind it
pub record HeaderRead (text rest : List ℕ) (plan : WorldPlan) (number : ℕ) : Type 0 where
  pub header : List (List ℕ)
  pub is_header : IsHeader header plan
  pub parts : text_lines text ≡ header ++ text_lines rest
  pub place : number ≡ length header

-- Inside: the second is what stands behind some bytes of the first
pub record IsBehind (text rest : List ℕ) : Type 0 where
  pub front : List ℕ
  pub parts : text ≡ front ++ rest
