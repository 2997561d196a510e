-- The lines of what comes and what goes. Their layout is this project's own.
use Rattle.std.specs.Prelude.{◌≡◌, ◌≢◌, ℕ, List, [], ◌∷◌, ◌++◌, Result, Ok, Err, length, codes, decimal}
use Rattle.grasp_types.specs.declared.address.Address.{Address}
use Rattle.grasp_types.specs.declared.address.Locator.{Locator}
use Rattle.grasp_types.specs.declared.message.Message.{Message}
use Rattle.grasp_text.specs.Line.{address_word, line_of, locator_words}
use Rattle.grasp_text.specs.Words.{spaced}
use Rattle.grasp_wire.specs.One.{AnswersOne}
use Rattle.grasp_wire.specs.declared.fault.CutFault.TheVariants.{OutOfMemory}
use Rattle.grasp_wire.specs.declared.fault.OneFault.{OneFault}
use Rattle.grasp_wire.specs.declared.fault.OneFault.TheVariants.{Cut}

-- the greatest size of a message that a node may be configured for, in bytes
abbrev pub most_bytes : ℕ
most_bytes = 65535

-- a line: what became of it, and its words, each behind a blank; ended by LF
abbrev pub line_text : List ℕ → List (List ℕ) → List ℕ
line_text what words = what ++ spaced words ++ 10 ∷ []

-- a datagram: its link, and its neighbour there
abbrev pub datagram_words : ℕ → ℕ → List (List ℕ)
datagram_words link neighbour = codes "datagram" ∷ decimal link ∷ decimal neighbour ∷ []

-- the words for the content of a datagram: its message, or how many bytes it has where it is none
abbrev pub content_words : ℕ → Result Message OneFault → List (List ℕ)
content_words count (Ok message) = line_of message ∷ []
content_words count (Err fault) = codes "no message in" ∷ decimal count ∷ codes "bytes" ∷ []

-- the line of a datagram of so many bytes that are decoded to this
abbrev pub datagram_line : List ℕ → ℕ → ℕ → ℕ → Result Message OneFault → List ℕ
datagram_line what link neighbour count decoded = line_text what (datagram_words link neighbour ++ content_words count decoded)

-- the line of a datagram of these bytes, which are one message or none (RFC 8990, section 2.8)
pub record IsDatagramLine (what : List ℕ) (link neighbour : ℕ) (bytes line : List ℕ) : Type 0 where
  pub decoded : Result Message OneFault
  pub answers : AnswersOne bytes most_bytes decoded
  pub sure : decoded ≢ Err (Cut OutOfMemory)
  pub line_is : line ≡ datagram_line what link neighbour (length bytes) decoded

-- the line of a message on a stream
abbrev pub message_line : List ℕ → ℕ → Message → List ℕ
message_line what stream message = line_text what (codes "message" ∷ decimal stream ∷ line_of message ∷ [])

-- the line of bytes that are no message, at this place of a direction of a stream
abbrev pub fault_line : List ℕ → ℕ → ℕ → List ℕ
fault_line what stream place = line_text what (codes "stream" ∷ decimal stream ∷ codes "no message at" ∷ decimal place ∷ [])

-- the line of a stream that a peer opened
abbrev pub opening_line : ℕ → Address → List ℕ
opening_line stream from = line_text (codes "received") (codes "opening" ∷ decimal stream ∷ address_word from ∷ [])

-- the line of a stream that is dialled
abbrev pub dial_line : List ℕ → ℕ → Locator → List ℕ
dial_line what stream to = line_text what (codes "dial" ∷ decimal stream ∷ locator_words to)

-- the line of a stream that ends
abbrev pub closing_line : List ℕ → ℕ → List ℕ
closing_line what stream = line_text what (codes "closing" ∷ decimal stream ∷ [])
