-- What `pack` makes of its input.
use Rattle.std.specs.Prelude.{◌≡◌, ◌<◌, ℕ, ◌+◌, List, [], ◌∷◌, ◌++◌, Option, None, Some, All, length, map}
use Rattle.grasp_cbor.specs.Shortest.{shortest}
use Rattle.grasp_script.specs.Scripts.{text_lines}
use Rattle.grasp_types.specs.Message.{item_of}
use Rattle.grasp_types.specs.declared.message.Message.{Message}
use Rattle.grasp_text.specs.Line.{line_of, IsLineOf, IsNoLine}
use Rattle.grasp_text.specs.Place.{IsPlace}
use Rattle.grasp_wire.specs.Laws.{encoded, IsSendable}
use Rattle.grasp_replay_main.specs.declared.exit.Finding.{Finding}
use Rattle.grasp_replay_main.specs.declared.exit.Finding.TheVariants.{BadText, TooLong}

-- the line is that of a message whose shortest encoding passes the limit
pub record IsTooLongLine (limit : ℕ) (text : List ℕ) : Type 0 where
  pub message : Message
  pub is_line : IsLineOf text message
  pub long : limit < length (shortest (item_of message))

-- the finding tells why the line of this number isn't packed: it is no message's, which shows at this place, or the
-- message is too long
abbrev pub IsRefused : ℕ → List ℕ → ℕ → Finding → Type 0
IsRefused limit text number (BadText line at) = (line ≡ number) × IsNoLine text × IsPlace text at
IsRefused limit text number (TooLong line) = (line ≡ number) × IsTooLongLine limit text
IsRefused limit text number _ = ⊥

-- the next line, after so many, is refused
pub record Refuses (limit before : ℕ) (lines : List (List ℕ)) (finding : Finding) : Type 0 where
  pub text : List ℕ
  pub others : List (List ℕ)
  pub first : lines ≡ text ∷ others
  pub refused : IsRefused limit text (before + 1) finding

-- the finding tells what stands next, after so many lines: nothing where no line is left
abbrev pub StopsAt : ℕ → ℕ → List (List ℕ) → Option Finding → Type 0
StopsAt limit before lines None = lines ≡ []
StopsAt limit before lines (Some finding) = Refuses limit before lines finding

-- the line is that of a message within the limit, whose shortest encoding was appended
pub record IsPacked (limit : ℕ) (text old new : List ℕ) : Type 0 where
  pub message : Message
  pub is_line : IsLineOf text message
  pub sendable : IsSendable limit message
  pub appended : new ≡ old ++ shortest (item_of message)

-- Inside: the line of this number was packed, or refused for the reason given
abbrev pub PacksLine : ℕ → List ℕ → ℕ → List ℕ → List ℕ → Option Finding → Type 0
PacksLine limit text number old new None = IsPacked limit text old new
PacksLine limit text number old new (Some finding) = (new ≡ old) × IsRefused limit text number finding

-- the message is one whose line can be packed: its shortest encoding is within the limit
pub record CanPack (limit : ℕ) (message : Message) : Type 0 where
  pub is_line : IsLineOf (line_of message) message
  pub sendable : IsSendable limit message

-- the output is the shortest encodings of the messages whose lines come first, up to the first line that isn't packed
pub record Packs (limit : ℕ) (input output : List ℕ) (finding : Option Finding) : Type 0 where
  pub messages : List Message
  pub others : List (List ℕ)
  pub lines : text_lines input ≡ map line_of messages ++ others
  pub can : All (CanPack limit) messages
  pub output_is : output ≡ encoded messages
  pub stops : StopsAt limit (length messages) others finding
