-- The calls of visitors' agents: each is one step of the node.
use Rattle.std.specs.Prelude.{ℕ, ◌+◌, ◌-◌, ◌^◌, min, if◌then◌else◌, Bool, true, false, List, [], ◌∷◌, Option, None, Some}
use Rattle.grasp_control.specs.Answers.{goes_on}
use Rattle.grasp_core.specs.declared.node_core.NodeCore.{NodeCore}
use Rattle.grasp_crew.specs.Seats.{SeatState, seat_input, awaiting, is_left, after_goodbye}
use Rattle.grasp_crew.specs.declared.seat.Gate.{Gate}
use Rattle.grasp_crew.specs.declared.seat.Gate.TheVariants.{Passes, Seatless, Seated}
use Rattle.grasp_shared.specs.Adding.{Adds}
use Rattle.grasp_shared.specs.History.{Entry, History}
use Rattle.grasp_types.specs.declared.call.Call.{Call}
use Rattle.grasp_types.specs.declared.call.Call.TheVariants as call
use Rattle.grasp_types.specs.declared.reply.Reply.{Reply}
use Rattle.grasp_types.specs.declared.reply.Reply.TheVariants as reply

-- the node had no memory for a call
abbrev pub is_starved : Reply → Bool
is_starved reply.OutOfMemory = true
is_starved _ = false

-- the call of a seat's agent, as an entry of the history
abbrev pub seat_entry : ℕ → ℕ → SeatState → Call → Reply → Entry
seat_entry caller now s c r = record { caller = caller; now = now; input = seat_input s c; reply = r }

-- the history went on, by whatever calls
pub record GoesSome (old new : NodeCore) : Type 0 where
  pub calls : History
  pub adds : Adds old calls new

-- by a seat's gate: the call, where it passes
abbrev pub call_at : Gate → Call → Option Call
call_at Passes c = Some c
call_at Seatless c = None
call_at Seated c = None

-- by a seat's gate: the seat after a call, where it passes
abbrev pub seat_at : Gate → SeatState → SeatState → SeatState
seat_at Passes s t = t
seat_at Seatless s t = s
seat_at Seated s t = s

-- the seat waits for a call whose reply tells nothing yet
abbrev pub seat_awaiting : ℕ → List ℕ → ℕ → Call → Reply → SeatState → SeatState
seat_awaiting now line millis c r s = if goes_on r then awaiting s line c (min (now + millis) (2 ^ 64 - 1)) r else s

-- as entries of the history
abbrev pub call_made : ℕ → ℕ → SeatState → Option Call → Reply → History
call_made caller now s None r = []
call_made caller now s (Some c) r = seat_entry caller now s c r ∷ []

-- ---- of one who left

-- a visitor left, and its agent is still registered: the call that deregisters it
abbrev pub goodbye_call : SeatState → Option Call
goodbye_call s = if is_left s then Some call.DeregisterAsa else None

abbrev pub goodbye_seat : SeatState → Reply → SeatState
goodbye_seat s r = if is_left s then after_goodbye s r else s
