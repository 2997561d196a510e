-- What is done for each seat without a line of its visitor: the agent of one who left is deregistered, and a call that is awaited is made again.
use Rattle.std.specs.Prelude.{◌≡◌, ℕ, ◌+◌, ◌&&◌, nat_lt, if◌then◌else◌, Bool, List, [], ◌∷◌, ◌++◌, length, Option, None, Some}
use Rattle.grasp_control.specs.Answers.{answer_line, goes_on}
use Rattle.grasp_core.specs.declared.node_core.NodeCore.{NodeCore}
use Rattle.grasp_crew.specs.Seats.{SeatState, is_left, after_goodbye, without_await, awaiting, seat_after}
use Rattle.grasp_crew.specs.declared.seat.Awaiting.{Awaiting}
use Rattle.grasp_desk.specs.declared.desk.Told.{Told}
use Rattle.grasp_script.specs.Answers.{reply_words}
use Rattle.grasp_shared.specs.Adding.{Adds}
use Rattle.grasp_shared.specs.History.{History}
use Rattle.grasp_types.specs.declared.call.Call.{Call}
use Rattle.grasp_types.specs.declared.call.Call.TheVariants as call
use Rattle.grasp_types.specs.declared.reply.Reply.{Reply}
use Rattle.grasp_service_visits.specs.Answers.{told_to}
use Rattle.grasp_service_visits.specs.Calling.{call_made}
use Rattle.grasp_service_visits.specs.Each.{each_after, each_adds}

-- ---- a call that is awaited

abbrev pub awaited_call : Option Awaiting → Option Call
awaited_call None = None
awaited_call (Some a) = Some a.call

-- it is made once more later
abbrev pub waits_on : ℕ → Awaiting → Reply → Bool
waits_on now a r = goes_on r && nat_lt now a.until

abbrev pub resumed : ℕ → SeatState → Option Awaiting → Reply → SeatState
resumed now s None r = s
resumed now s (Some a) r = if waits_on now a r then awaiting (seat_after (without_await s) a.call r) a.line a.call a.until r else seat_after
    (without_await s) a.call r

abbrev pub resumed_told : ℕ → ℕ → Option Awaiting → Reply → List Told
resumed_told now visitor None r = []
resumed_told now visitor (Some a) r = if waits_on now a r then [] else told_to visitor (answer_line a.line (reply_words r)) ∷ []

-- ---- a seat

-- the call that is made for it
abbrev pub tend_call : SeatState → Option Call
tend_call s = if is_left s then Some call.DeregisterAsa else awaited_call s.awaits

-- the seat after the reply
abbrev pub tended : ℕ → SeatState → Reply → SeatState
tended now s r = if is_left s then after_goodbye s r else resumed now s s.awaits r

-- what its visitor is told
abbrev pub tended_told : ℕ → SeatState → Reply → List Told
tended_told now s r = if is_left s then [] else resumed_told now s.visitor s.awaits r

-- the seat while its call is made: it doesn't wait for one that is made again
abbrev pub tend_seat : SeatState → SeatState
tend_seat s = if is_left s then s else without_await s

-- ---- all seats

-- the call of one, behind so many agents
abbrev pub tend_calls : ℕ → ℕ → SeatState → Reply → History
tend_calls agents now s r = call_made (agents + s.visitor) now (tend_seat s) (tend_call s) r

-- each was seen to, in order, and these are the replies to their calls
pub record TendsAll (old : NodeCore) (seats : List SeatState) (olds : List Told) (now : ℕ) (new : NodeCore) (others : List SeatState)
    (news : List Told) : Type 0 where
  pub replies : List Reply
  pub count : length replies ≡ length seats
  pub adds : (agents : ℕ) → Adds old (each_adds (λ place. tend_calls agents now) 0 seats replies) new
  pub seats_are : others ≡ each_after (tended now) seats replies
  pub told : news ≡ olds ++ each_adds (λ place. tended_told now) 0 seats replies
