-- Which messages so many bytes hold whole.
use Rattle.std.specs.Prelude.{◌≡◌, ◌-◌, ◌≤◌, ◌<◌, ◌^◌, ℕ, List, [], ◌∷◌, All, length, take, nat_le, if◌then◌else◌}
use Rattle.grasp_cbor.specs.Shortest.{shortest}
use Rattle.grasp_types.specs.Message.{item_of}
use Rattle.grasp_types.specs.declared.message.Message.{Message}
use Rattle.grasp_wire.specs.Laws.{encoded, IsSendable}
use Rattle.grasp_wire.specs.Stream.{Divides, waiting}
use Rattle.grasp_wire.specs.Cutter.{Past, Waits}

-- the first of these messages, as many as so many bytes of their encodings hold whole
abbrev pub whole_in : ℕ → List Message → List Message
whole_in n [] = []
whole_in n (m ∷ ms) = if nat_le (length (shortest (item_of m))) n then m ∷ whole_in (n - length (shortest (item_of m))) ms else []

-- the first so many bytes of joined encodings divide into the messages that they hold whole, and a waiting rest
abbrev pub WholeFrontsDivide : Type 0
WholeFrontsDivide = (messages : List Message) (limit n : ℕ) → 0 < limit → limit < 2 ^ 64 → All (IsSendable limit) messages → n ≤ length (encoded messages)
    → (rest : List ℕ) × Divides (take n (encoded messages)) limit (whole_in n messages) rest waiting

-- a cutter that waits, and that was fed these bytes, gave these messages
abbrev pub CuttersGiveWhole : Type 0
CuttersGiveWhole = (messages : List Message) (limit n : ℕ) (past : Past) → 0 < limit → limit < 2 ^ 64 → All (IsSendable limit) messages → n ≤ length (encoded messages)
    → past.fed ≡ take n (encoded messages) → Waits limit past → past.given ≡ whole_in n messages
