-- The seat of a visitor: the agent that it registered, its sessions, and what it waits for (RFC 8991, section 2.3).
use Rattle.std.specs.Prelude.{◌≡◌, ℕ, ◌==◌, ◌&&◌, ◌||◌, nat_lt, not, Bool, true, false, List, [], ◌∷◌, ◌++◌, drop, filter, find, length, Option, None, Some, if◌then◌else◌}
use Rattle.grasp_agent.specs.Replies.{is_again}
use Rattle.grasp_types.specs.declared.call.Call.{Call}
use Rattle.grasp_types.specs.declared.call.Call.TheVariants as call
use Rattle.grasp_types.specs.declared.refusal.ApiRefused.TheVariants as refusal
use Rattle.grasp_types.specs.declared.reply.ApiAnswer.{ApiAnswer}
use Rattle.grasp_types.specs.declared.reply.ApiAnswer.TheVariants as answer
use Rattle.grasp_types.specs.declared.reply.Reply.{Reply}
use Rattle.grasp_types.specs.declared.reply.Reply.TheVariants as reply
use Rattle.grasp_types.specs.declared.session.Handle.{Handle}
use Rattle.grasp_types.specs.declared.session.Progress.{Progress}
use Rattle.grasp_types.specs.declared.session.Progress.TheVariants as progress
use Rattle.grasp_types.specs.declared.traffic.Input.{Input}
use Rattle.grasp_types.specs.declared.traffic.Input.TheVariants as input
use Rattle.grasp_crew.specs.declared.seat.Awaiting.{Awaiting}
use Rattle.grasp_crew.specs.declared.seat.Gate.{Gate}
use Rattle.grasp_crew.specs.declared.seat.Gate.TheVariants.{Passes, Seatless, Seated}

-- the visitor's number; whether it came in by the door for guests; its agent's number, or 0; the sessions that its agent has; whether it hears
-- of events; the call that it waits for; and whether it left, and its agent is still to be deregistered
pub record SeatState : Type 0 where
  pub visitor : ℕ
  pub guest : Bool
  pub asa : ℕ
  pub handles : List Handle
  pub hears : Bool
  pub awaits : Option Awaiting
  pub leaving : Bool

abbrev pub new_seat : ℕ → Bool → SeatState
new_seat visitor guest = record { visitor = visitor; guest = guest; asa = 0; handles = []; hears = false; awaits = None; leaving = false }

-- the visitor sits here
abbrev pub is_seat_of : ℕ → SeatState → Bool
is_seat_of visitor s = s.visitor == visitor && not s.leaving

-- ---- its calls

-- the session of this handle's number, as the seat knows it; a visitor names sessions by their numbers alone
abbrev pub placed_as : Handle → Option Handle → Handle
placed_as h None = h
placed_as h (Some k) = k

abbrev pub placed : List Handle → Handle → Handle
placed ks h = placed_as h (find (λ k. k.number == h.number) ks)

-- the call, with its session as the node knows it
abbrev pub placed_call : List Handle → Call → Call
placed_call ks (call.NegotiateStep h v) = call.NegotiateStep (placed ks h) v
placed_call ks (call.NegotiateWait h m) = call.NegotiateWait (placed ks h) m
placed_call ks (call.EndNegotiate h v) = call.EndNegotiate (placed ks h) v
placed_call ks (call.SendInvalid h d) = call.SendInvalid (placed ks h) d
placed_call ks (call.Poll h) = call.Poll (placed ks h)
placed_call ks c = c

abbrev pub is_registering : Call → Bool
is_registering (call.RegisterAsa name) = true
is_registering _ = false

abbrev pub is_deregistering : Call → Bool
is_deregistering call.DeregisterAsa = true
is_deregistering _ = false

-- whether the seat can make a call: it can register an agent where it has none, and all else where it has one
abbrev pub gate_of : SeatState → Call → Gate
gate_of s c = if s.asa == 0 then (if is_registering c then Passes else Seatless) else (if is_registering c then Seated else Passes)

-- the call under its agent's number
abbrev pub seat_input : SeatState → Call → Input
seat_input s c = input.Api s.asa (placed_call s.handles c)

-- ---- after a reply

-- one session more, the 64 newest at most
abbrev pub with_handle : List Handle → Handle → List Handle
with_handle ks h = (if nat_lt (length ks) 64 then ks else drop 1 ks) ++ h ∷ []

abbrev pub without_number : List Handle → Option ℕ → List Handle
without_number ks None = ks
without_number ks (Some n) = filter (λ k. not (k.number == n)) ks

-- the number of the session that is polled
abbrev pub polled_number : Call → Option ℕ
polled_number (call.Poll h) = Some h.number
polled_number _ = None

abbrev pub seat_ended : SeatState → Option ℕ → Progress → SeatState
seat_ended s polled (progress.Ended e) = record s { handles = without_number s.handles polled }
seat_ended s polled _ = s

abbrev pub seat_answered : SeatState → Bool → Option ℕ → ApiAnswer → SeatState
seat_answered s leaves polled (answer.Asa n) = record s { asa = n }
seat_answered s leaves polled (answer.Started h) = record s { handles = with_handle s.handles h }
seat_answered s leaves polled (answer.Incoming h from o) = record s { handles = with_handle s.handles h }
seat_answered s leaves polled (answer.Polled p) = seat_ended s polled p
seat_answered s leaves polled answer.Done = if leaves then record s { asa = 0; handles = [] } else s
seat_answered s leaves polled _ = s

abbrev pub seat_replied : SeatState → Bool → Option ℕ → Reply → SeatState
seat_replied s leaves polled (reply.Api a) = seat_answered s leaves polled a
seat_replied s leaves polled _ = s

-- the seat after the reply to a call
abbrev pub seat_after : SeatState → Call → Reply → SeatState
seat_after s c r = seat_replied s (is_deregistering c) (polled_number c) r

-- ---- waiting

-- it waits, from this reply on
abbrev pub awaiting : SeatState → List ℕ → Call → ℕ → Reply → SeatState
awaiting s line c until r = record s { awaits = Some (record { line = line; call = c; until = until; last = r }) }

-- it waits no longer
abbrev pub without_await : SeatState → SeatState
without_await s = record s { awaits = None }

-- ---- leaving

-- the visitor left
abbrev pub leaving : SeatState → SeatState
leaving s = record s { awaits = None; hears = false; leaving = true }

-- the visitor left, and its agent is still registered
abbrev pub is_left : SeatState → Bool
is_left s = s.leaving && not (s.asa == 0)

-- its agent is gone, unless the call is to be made again
abbrev pub after_goodbye : SeatState → Reply → SeatState
after_goodbye s r = if is_again r then s else record s { asa = 0; handles = [] }

-- a seat is kept until its visitor left and its agent is deregistered
abbrev pub stays : SeatState → Bool
stays s = not s.leaving || not (s.asa == 0)
