-- What is asked of a node by its control socket, and what it answers.
use Rattle.std.specs.Prelude.{◌≡◌, ℕ, Bool, true, false, ◌&&◌, nat_le, nat_eq, if◌then◌else◌, List, [], ◌∷◌, ◌++◌, All, length, drop, codes, Option, IfSome}
use Rattle.std.specs.List.{list_all, starts_with}
use Rattle.std.specs.Io.KnownBytes.{Appends, Consumes}
use Rattle.grasp_client.specs.Lines.{IsLine, ended, text_of, AreLinesOf, RunsOut, Copies}
use Rattle.grasp_client.specs.declared.task.Task.{Task}
use Rattle.grasp_client.specs.declared.task.Task.TheVariants as task
use Rattle.grasp_client.specs.declared.task.Question.{Question}
use Rattle.grasp_client.specs.declared.task.Question.TheVariants as question

-- a blank or a visible character of ASCII: 20 to 7e
abbrev pub is_printable : ℕ → Bool
is_printable b = nat_le 32 b && nat_le b 126

-- a line as the node repeats it in its answer: itself, or `?` where it isn't printable
abbrev pub echo : List ℕ → List ℕ
echo line = if list_all is_printable line then line else codes "?"

-- the second line answers the first one: it begins with that line and ` =`
abbrev pub is_answer_to : List ℕ → List ℕ → Bool
is_answer_to asked told =
    starts_with nat_eq told (echo asked) && starts_with nat_eq (drop (length (echo asked)) told) (codes " =")

-- the told lines up to the last one answer the asked line only by the last one
pub record IsAnswered (asked : List ℕ) (told : List (List ℕ)) : Type 0 where
  pub before : List (List ℕ)
  pub answer : List ℕ
  pub told_is : told ≡ before ++ answer ∷ []
  pub others : All (λ line. is_answer_to asked line ≡ false) before
  pub answers : is_answer_to asked answer ≡ true

-- the told lines answer the asked ones, each in its turn, and nothing comes behind the last answer
pub data AreAnswered : List (List ℕ) → List (List ℕ) → Type 0 where
  no_question : AreAnswered [] []
  one_more : {asked told : List (List ℕ)} {line : List ℕ} {more : List (List ℕ)} → AreAnswered asked told → IsAnswered line more
      → AreAnswered (asked ++ line ∷ []) (told ++ more)

-- the line was answered by what was copied
pub record Heard (asked : List ℕ) (left_before left_after put_before put_after : Option (List ℕ)) : Type 0 where
  pub told : List (List ℕ)
  pub copies : Copies left_before left_after put_before put_after told
  pub answered : IsAnswered asked told

-- the line was sent, and answered by what was copied
pub record TurnOf (asked : List ℕ) (sent_before sent_after left_before left_after put_before put_after : Option (List ℕ)) : Type 0 where
  pub sent : Appends sent_before sent_after (ended asked)
  pub heard : Heard asked left_before left_after put_before put_after

-- these lines were sent, and each was answered in its turn by what was copied
pub record Dialogue (asked : List (List ℕ)) (sent_before sent_after left_before left_after put_before put_after : Option (List ℕ)) : Type 0 where
  pub told : List (List ℕ)
  pub sent : Appends sent_before sent_after (text_of asked)
  pub copies : Copies left_before left_after put_before put_after told
  pub answered : AreAnswered asked told

-- the words of a question
abbrev pub question_words : Question → List ℕ
question_words question.Version = codes "version"
question_words question.State = codes "state"
question_words question.Wants = codes "wants"
question_words question.Reads = codes "reads"
question_words question.Counters = codes "counters"
question_words question.Events = codes "events"
question_words question.Stop = codes "stop"

-- what is asked for the state of a node
abbrev pub status_lines : List (List ℕ)
status_lines = codes "version" ∷ codes "state" ∷ codes "wants" ∷ codes "reads" ∷ codes "counters" ∷ []

-- the lines that a task asks, of the text that is its input
abbrev pub Asks : Task → Option (List ℕ) → List (List ℕ) → Type 0
Asks task.Status input asked = asked ≡ status_lines
Asks task.Events input asked = asked ≡ codes "events" ∷ []
Asks task.Talk input asked = IfSome input (λ text. AreLinesOf text asked)
Asks task.Stop input asked = asked ≡ codes "stop" ∷ []

-- what comes behind the last answer: nothing, but for the tasks that wait until the node ends
abbrev pub Awaits : Task → Option (List ℕ) → Option (List ℕ) → List (List ℕ) → List ℕ → Type 0
Awaits task.Status before after more rest = (more ≡ []) × (rest ≡ [])
Awaits task.Events before after more rest = RunsOut before after
Awaits task.Talk before after more rest = (more ≡ []) × (rest ≡ [])
Awaits task.Stop before after more rest = RunsOut before after

-- a whole conversation: the lines that the task asks were sent, each was answered in its turn by a line that the node said, and
-- each line that the node said was copied; behind the last one it may have said a rest that is no line
pub record Conversed (of : Task) (input sent_before sent_after left_before left_after put_before put_after : Option (List ℕ)) : Type 0 where
  pub asked : List (List ℕ)
  pub told : List (List ℕ)
  pub more : List (List ℕ)
  pub rest : List ℕ
  pub asks : Asks of input asked
  pub sent : Appends sent_before sent_after (text_of asked)
  pub answered : AreAnswered asked told
  pub taken : Consumes left_before left_after (text_of told ++ (text_of more ++ rest))
  pub put : Appends put_before put_after (text_of told ++ text_of more)
  pub are_lines : All IsLine told × All IsLine more × IsLine rest
  pub awaits : Awaits of left_before left_after more rest

-- Inside: all that the node still said was copied, but for a rest that is no line
pub record CopiesAll (left_before left_after put_before put_after : Option (List ℕ)) : Type 0 where
  pub more : List (List ℕ)
  pub rest : List ℕ
  pub taken : Consumes left_before left_after (text_of more ++ rest)
  pub put : Appends put_before put_after (text_of more)
  pub are_lines : All IsLine more × IsLine rest
  pub runs_out : RunsOut left_before left_after

-- Inside: this line was sent and answered, and all that the node still said was copied
pub record Follows (asked : List ℕ) (sent_before sent_after left_before left_after put_before put_after : Option (List ℕ)) : Type 0 where
  pub left_between : Option (List ℕ)
  pub put_between : Option (List ℕ)
  pub turn : TurnOf asked sent_before sent_after left_before left_between put_before put_between
  pub all : CopiesAll left_between left_after put_between put_after

-- Inside: the lines of the input were sent, and each was answered in its turn
pub record Talks (input sent_before sent_after left_before left_after put_before put_after : Option (List ℕ)) : Type 0 where
  pub asked : List (List ℕ)
  pub are_lines : IfSome input (λ text. AreLinesOf text asked)
  pub dialogue : Dialogue asked sent_before sent_after left_before left_after put_before put_after
