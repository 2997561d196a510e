-- What is reported of an event: the step that it made, or what it told an agent of prefixes (RFC 8992, sections 4.1 and 4.2).
use Rattle.std.specs.Prelude.{◌≡◌, ℕ, Bool, max, List, Ok, Err, None, Some, length, Contains}
use Rattle.grasp_agent.specs.Calls.{next_call}
use Rattle.grasp_agent.specs.declared.want.Want.{Want}
use Rattle.grasp_agent.specs.declared.want.WantFault.{WantFault}
use Rattle.grasp_agent.specs.declared.want.WantFault.TheVariants as want_fault
use Rattle.grasp_model_network.specs.Events.{Occurs, visit_of, after_event}
use Rattle.grasp_model_network.specs.Reports.{report_of}
use Rattle.grasp_model_network.specs.Runs.{IsReached}
use Rattle.grasp_model_network.specs.Setting.{Setting, numbered}
use Rattle.grasp_model_network.specs.Visits.{Visit, Choice}
use Rattle.grasp_model_network.specs.World.{Seat, WorldState, present_life, seat_at}
use Rattle.grasp_model_network.specs.declared.event.Event.{Event}
use Rattle.grasp_model_network.specs.declared.event.Event.TheVariants as event
use Rattle.grasp_model_network.specs.declared.report.Report.{Report}
use Rattle.grasp_model_network.specs.declared.report.Report.TheVariants as report
use Rattle.grasp_pool.specs.Pools.{room_of}
use Rattle.grasp_types.specs.Prefix.{AddressBlock as Prefix}
use Rattle.grasp_types.specs.declared.address.Locator.{Locator}
use Rattle.grasp_types.specs.declared.reply.Reply.TheVariants as reply
use Rattle.grasp_types.specs.declared.traffic.Output.{Output}

-- ---- events that make a step

-- a clock: the node's own reading after it, which is the larger of the one that it had and the one that the clock shows
pub record ReadingIsTold (s : Setting) (w : WorldState) (node millis : ℕ) (c : Choice) : Type 0 where
  pub before : Seat
  pub here : seat_at w (present_life w node) ≡ Some before
  pub after : Seat
  pub there : seat_at (after_event s w (event.Clock node millis) c) (present_life w node) ≡ Some after
  pub reading : after.core.reading ≡ max before.core.reading millis
  pub told : report_of s w (event.Clock node millis) c ≡ report.Reading after.core.reading

-- a drain: how many outputs the node's step gives
pub record CountIsTold (s : Setting) (w : WorldState) (node max : ℕ) (c : Choice) : Type 0 where
  pub outputs : List Output
  pub given : c.reply ≡ reply.Outputs outputs
  pub told : report_of s w (event.Drain node max) c ≡ report.Sent (length outputs)

-- the agent of prefixes: its call, and the reply of the node's step
pub record CallIsTold (s : Setting) (w : WorldState) (node : ℕ) (hold : Bool) (c : Choice) : Type 0 where
  pub seat : Seat
  pub here : seat_at w (present_life w node) ≡ Some seat
  pub told : report_of s w (event.Agent node hold) c ≡ report.Agent (next_call seat.agent) c.reply

-- a call of another agent, a datagram, and an event of a stream
abbrev pub TellsReply : Event → Type 0
TellsReply (event.Api node asa call hold) = Unit {0}
TellsReply (event.Datagram index hold) = Unit {0}
TellsReply (event.Arrive k hold) = Unit {0}
TellsReply (event.Bytes k far count hold) = Unit {0}
TellsReply (event.Cut k far hold) = Unit {0}
TellsReply _ = ⊥

-- ---- wants

-- a want that isn't requested yet
abbrev pub fresh_want : ℕ → ℕ → Locator → Want
fresh_want wanted longest locator = record { length = wanted; longest = longest; peer = locator; session = None }

-- the agent had no want, and has this one now, which isn't requested yet
pub record WantIsTaken (s : Setting) (w : WorldState) (node wanted longest peer : ℕ) (x : WorldState) : Type 0 where
  pub seat : Seat
  pub here : seat_at w (present_life w node) ≡ Some seat
  pub idle : seat.agent.want ≡ None
  pub locator : Locator
  pub named : numbered s.peers peer ≡ Some locator
  pub want : seat_at x (present_life w node)
      ≡ Some (record seat { agent = record seat.agent { want = Some (fresh_want wanted longest locator) } })

-- the agent has a want of these lengths, or its pool has no room
abbrev pub WantFails : Seat → WantFault → Type 0
WantFails seat (want_fault.Busy wanted longest) = (w : Want) × (seat.agent.want ≡ Some w) × (w.length ≡ wanted) × (w.longest ≡ longest)
WantFails seat want_fault.Full = (seat.agent.want ≡ None) × (room_of seat.agent.pool ≡ 0)

-- whether the want was taken; where it wasn't, why, and nothing has changed
abbrev pub WantIsTold : Setting → WorldState → ℕ → ℕ → ℕ → ℕ → WorldState → Report → Type 0
WantIsTold s w node wanted longest peer x (report.Want (Ok done)) = WantIsTaken s w node wanted longest peer x
WantIsTold s w node wanted longest peer x (report.Want (Err fault)) =
    ((seat : Seat) × (seat_at w (present_life w node) ≡ Some seat) × WantFails seat fault) × (x ≡ w)
WantIsTold s w node wanted longest peer x _ = ⊥

-- ---- returns

-- the agent had no return, and has this one now, which isn't requested yet; the prefix is offered by its life, without a stream as yet
pub record ReturnIsTaken (s : Setting) (w : WorldState) (node : ℕ) (p : Prefix) (peer : ℕ) (x : WorldState) : Type 0 where
  pub seat : Seat
  pub here : seat_at w (present_life w node) ≡ Some seat
  pub idle : seat.agent.back ≡ None
  pub locator : Locator
  pub named : numbered s.peers peer ≡ Some locator
  pub after : Seat
  pub there : seat_at x (present_life w node) ≡ Some after
  pub back : after.agent.back ≡ Some (record { prefix = p; peer = locator; session = None })
  pub offered : Contains x.offers (record { node = present_life w node; prefix = p; talk = None })

-- whether the return was taken; where it wasn't, nothing has changed
abbrev pub ReturnIsTold : Setting → WorldState → ℕ → Prefix → ℕ → WorldState → Report → Type 0
ReturnIsTold s w node p peer x (report.Return (Ok done)) = ReturnIsTaken s w node p peer x
ReturnIsTold s w node p peer x (report.Return (Err fault)) = x ≡ w
ReturnIsTold s w node p peer x _ = ⊥

-- ---- all of it

pub record EventsAreReported : Type 0 where
  pub clocks : (s : Setting) (w : WorldState) (node millis : ℕ) (c : Choice) → IsReached s w → Occurs s w (event.Clock node millis) c
      → ReadingIsTold s w node millis c
  pub drains : (s : Setting) (w : WorldState) (node max : ℕ) (c : Choice) → IsReached s w → Occurs s w (event.Drain node max) c
      → CountIsTold s w node max c
  pub agents : (s : Setting) (w : WorldState) (node : ℕ) (hold : Bool) (c : Choice) → IsReached s w → Occurs s w (event.Agent node hold) c
      → CallIsTold s w node hold c
  pub replies : (s : Setting) (w : WorldState) (e : Event) (c : Choice) (v : Visit) → TellsReply e → visit_of s w e ≡ Some v
      → report_of s w e c ≡ report.Reply c.reply
  pub wants : (s : Setting) (w : WorldState) (node wanted longest peer : ℕ) (c : Choice) → IsReached s w
      → Occurs s w (event.Want node wanted longest peer) c
      → WantIsTold s w node wanted longest peer (after_event s w (event.Want node wanted longest peer) c)
      (report_of s w (event.Want node wanted longest peer) c)
  pub returns : (s : Setting) (w : WorldState) (node : ℕ) (p : Prefix) (peer : ℕ) (c : Choice) → IsReached s w
      → Occurs s w (event.Return node p peer) c
      → ReturnIsTold s w node p peer (after_event s w (event.Return node p peer) c) (report_of s w (event.Return node p peer) c)
