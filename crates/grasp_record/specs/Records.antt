-- The lines of a record: what each is, and its words. The layout is this project's own.
use Rattle.std.specs.Prelude.{◌≡◌, ◌<◌, ◌^◌, ℕ, List, ◌∷◌, ◌++◌, codes, decimal}
use Rattle.std.specs.Str.{IsUtf8}
use Rattle.grasp_text.specs.Words.{words_of, joined}
use Rattle.grasp_model_network.specs.Plans.{IsNode}
use Rattle.grasp_record.specs.Answers.{told_words, IsAnswerTo}
use Rattle.grasp_record.specs.Inputs.{input_words, IsInput}
use Rattle.grasp_record.specs.declared.line.RecordLine.{RecordLine}

-- the node, its reading, what it took, `=`, and what it answered
abbrev pub record_words : RecordLine → List (List ℕ)
record_words x = decimal x.node ∷ decimal x.now ∷ (input_words x.input ++ codes "=" ∷ told_words x.answer)

-- the words with one blank between two of them
abbrev pub record_line : RecordLine → List ℕ
record_line x = joined (record_words x)

-- in a record of so many nodes, each part is within its range, and the answer is of the input's kind
pub record IsRecord (nodes : ℕ) (x : RecordLine) : Type 0 where
  pub node : IsNode nodes x.node
  pub now : x.now < 2 ^ 64
  pub input : IsInput nodes x.input
  pub answer : IsAnswerTo x.input x.answer

-- the line, in a record of so many nodes, means this: it is a text whose words, which stand between single blanks, are these
pub record IsRecordLine (nodes : ℕ) (line : List ℕ) (x : RecordLine) : Type 0 where
  pub ranges : IsRecord nodes x
  pub text : IsUtf8 line
  pub spelled : words_of line ≡ record_words x

-- the line means nothing
abbrev pub IsNoRecordLine : ℕ → List ℕ → Type 0
IsNoRecordLine nodes line = (x : RecordLine) → ¬ IsRecordLine nodes line x
