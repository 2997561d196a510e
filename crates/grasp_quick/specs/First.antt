-- What `first_message` answers.
use Rattle.std.specs.Prelude.{◌≤◌, ℕ, List, Option, Some, None, Result, Ok, Err, length, take}
use Rattle.grasp_types.specs.declared.message.Message.{Message}
use Rattle.grasp_wire.specs.One.{AnswersOne}
use Rattle.grasp_wire.specs.Stream.{IsRest, waiting}
use Rattle.grasp_wire.specs.Wire.{IsWireForm}
use Rattle.grasp_wire.specs.declared.fault.CutFault.{CutFault}
use Rattle.grasp_wire.specs.declared.fault.OneFault.TheVariants.{Cut}

-- what begins the bytes: a message of so many of them, the beginning of an item, or a fault, as of a datagram
abbrev pub AnswersFront : List ℕ → ℕ → Result (Option (Message × ℕ)) CutFault → Type 0
AnswersFront bytes limit (Ok (Some p)) = IsWireForm p.0 (take p.1 bytes) limit × (p.1 ≤ length bytes)
AnswersFront bytes limit (Ok None) = IsRest bytes limit waiting
AnswersFront bytes limit (Err fault) = AnswersOne bytes limit (Err (Cut fault))
