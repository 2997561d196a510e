-- What `show` makes of its input.
use Rattle.std.specs.Prelude.{◌≡◌, ℕ, ◌+◌, List, [], ◌∷◌, ◌++◌, Option, None, Some, length, option_map}
use Rattle.grasp_types.specs.declared.message.Message.{Message}
use Rattle.grasp_text.specs.Line.{line_of}
use Rattle.grasp_wire.specs.Reads.{fault_of}
use Rattle.grasp_wire.specs.Stream.{Divides, RestKind, waiting, too_long, not_message, faulty}
use Rattle.grasp_replay_main.specs.declared.exit.Finding.{Finding}
use Rattle.grasp_replay_main.specs.declared.exit.Finding.TheVariants.{Cut, Truncated}

-- the lines of the messages, each ended by a line feed
abbrev pub shown : List Message → List ℕ
shown [] = []
shown (message ∷ messages) = line_of message ++ 10 ∷ shown messages

-- the finding of a waiting rest, which so many bytes stand before: none where it is empty
abbrev pub truncated : ℕ → List ℕ → Option Finding
truncated before [] = None
truncated before (byte ∷ rest) = Some (Truncated (before + length (byte ∷ rest)))

-- the finding of a rest of this kind, which so many bytes stand before
abbrev pub rest_finding : ℕ → List ℕ → RestKind → Option Finding
rest_finding before rest waiting = truncated before rest
rest_finding before rest too_long = option_map Cut (fault_of before too_long)
rest_finding before rest not_message = option_map Cut (fault_of before not_message)
rest_finding before rest (faulty name place) = option_map Cut (fault_of before (faulty name place))

-- the output is the lines of the messages into which the input divides, and the finding is the rest's
pub record Shows (limit : ℕ) (input output : List ℕ) (finding : Option Finding) : Type 0 where
  pub messages : List Message
  pub front : List ℕ
  pub rest : List ℕ
  pub kind : RestKind
  pub parts : input ≡ front ++ rest
  pub divides : Divides input limit messages rest kind
  pub output_is : output ≡ shown messages
  pub finding_is : finding ≡ rest_finding (length front) rest kind
