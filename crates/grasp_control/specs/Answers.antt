-- What a visitor is answered: its line, `=`, and the words of the answer. The layout is this project's own.
use Rattle.std.specs.Prelude.{ℕ, Bool, true, false, ◌&&◌, nat_le, if◌then◌else◌, List, [], ◌∷◌, ◌++◌, length, codes, decimal}
use Rattle.std.specs.List.{list_all}
use Rattle.grasp_types.specs.declared.flood.FloodRead.{FloodRead}
use Rattle.grasp_types.specs.declared.reply.ApiAnswer.{ApiAnswer}
use Rattle.grasp_types.specs.declared.reply.ApiAnswer.TheVariants as answer
use Rattle.grasp_types.specs.declared.reply.Reply.{Reply}
use Rattle.grasp_types.specs.declared.reply.Reply.TheVariants as reply
use Rattle.grasp_types.specs.declared.session.Progress.TheVariants as progress
use Rattle.grasp_text.specs.Line.{text_word}
use Rattle.grasp_text.specs.Words.{spaced}
use Rattle.grasp_script.specs.Answers.{all_flood_read_words}
use Rattle.grasp_control.specs.declared.answers.PlainAnswer.{PlainAnswer}
use Rattle.grasp_control.specs.declared.answers.PlainAnswer.TheVariants as plain

-- a blank or a visible character of ASCII: 20 to 7e
abbrev pub is_printable : ℕ → Bool
is_printable b = nat_le 32 b && nat_le b 126

abbrev pub are_printable : List ℕ → Bool
are_printable line = list_all is_printable line

-- a line as it is shown to whom it came from
abbrev pub echo : List ℕ → List ℕ
echo line = if are_printable line then line else codes "?"

-- the answer to a line, without its line end
abbrev pub answer_line : List ℕ → List (List ℕ) → List ℕ
answer_line line words = echo line ++ spaced (codes "=" ∷ words)

-- the answer to a call has nothing to tell yet
abbrev pub goes_on_after : ApiAnswer → Bool
goes_on_after answer.Searching = true
goes_on_after answer.NotYet = true
goes_on_after (answer.Polled progress.NotYet) = true
goes_on_after _ = false

-- the reply has nothing to tell yet
abbrev pub goes_on : Reply → Bool
goes_on (reply.Api answer) = goes_on_after answer
goes_on _ = false

-- the words of a plain answer
abbrev pub plain_words : PlainAnswer → List (List ℕ)
plain_words plain.Done = codes "done" ∷ []
plain_words plain.Nothing = codes "nothing" ∷ []
plain_words (plain.Taken number) = codes "ok" ∷ decimal number ∷ []
plain_words plain.Full = codes "full" ∷ []
plain_words (plain.BadLine at) = codes "error" ∷ codes "line" ∷ decimal at ∷ []
plain_words plain.Seated = codes "error" ∷ codes "seated" ∷ []
plain_words plain.Denied = codes "error" ∷ codes "denied" ∷ []

-- what a reader has read: the name of its objective, and how many floods there are before the floods
abbrev pub read_words : List ℕ → List FloodRead → List (List ℕ)
read_words name reads = codes "read" ∷ text_word name ∷ decimal (length reads) ∷ all_flood_read_words reads

-- the program and the protocol, each with its version
abbrev pub version_words : List (List ℕ)
version_words = codes "grasp_node" ∷ codes "0.2.0" ∷ codes "control" ∷ codes "1" ∷ []
