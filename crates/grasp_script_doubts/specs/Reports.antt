-- The reports of questions. The layout is this project's own.
use Rattle.std.specs.Prelude.{ℕ, List, [], ◌∷◌, ◌++◌, Result, Ok, Err, codes}
use Rattle.grasp_doubter.specs.declared.asking.AskFault.{AskFault}
use Rattle.grasp_doubter.specs.declared.asking.AskFault.TheVariants.{Busy, NotDoubtful, NotGiven}
use Rattle.grasp_text.specs.Line.{prefix_word}
use Rattle.grasp_text.specs.Words.{spaced}

-- whether a doubter takes a question
abbrev pub asked_words : Result (Unit {0}) AskFault → List (List ℕ)
asked_words (Ok u) = codes "ok" ∷ []
asked_words (Err (Busy prefix)) = codes "busy" ∷ prefix_word prefix ∷ []
asked_words (Err NotDoubtful) = codes "notdoubtful" ∷ []
asked_words (Err NotGiven) = codes "notgiven" ∷ []

-- the report of a question is its line, ` = ` and whether the doubter takes it
abbrev pub told_ask : List ℕ → Result (Unit {0}) AskFault → List ℕ
told_ask text asked = text ++ spaced (codes "=" ∷ asked_words asked)
