-- How the doubters of a network go on with it: each sees what the agent of prefixes at its node calls, calls itself as agent 2, settles what its
-- call says, and is asked.
use Rattle.std.specs.Prelude.{◌≡◌, ℕ, Bool, false, None, Some}
use Rattle.grasp_agent.specs.Calls.{next_call}
use Rattle.grasp_doubter.specs.Asking.{after_ask, ask_reply}
use Rattle.grasp_doubter.specs.Calls as doubter
use Rattle.grasp_doubter.specs.Replies.{after_take}
use Rattle.grasp_doubter.specs.Seeing.{after_saw}
use Rattle.grasp_doubter.specs.States.{DoubterState}
use Rattle.grasp_model_doubts.specs.Events.{doubt_event, doubt_report}
use Rattle.grasp_model_doubts.specs.World.{DoubtState}
use Rattle.grasp_model_doubts.specs.declared.event.DoubtEvent.TheVariants as doubt
use Rattle.grasp_model_doubts.specs.declared.report.DoubtReport.TheVariants as report
use Rattle.grasp_model_network.specs.Events.{after_event}
use Rattle.grasp_model_network.specs.Reports.{report_of}
use Rattle.grasp_model_network.specs.Setting.{Setting, numbered}
use Rattle.grasp_model_network.specs.Settling.{after_settle}
use Rattle.grasp_model_network.specs.Visits.{Choice}
use Rattle.grasp_model_network.specs.World.{Seat, WorldState, present_life, seat_at}
use Rattle.grasp_model_network.specs.declared.event.Event.{Event}
use Rattle.grasp_model_network.specs.declared.event.Event.TheVariants as event
use Rattle.grasp_model_network.specs.declared.report.Report.TheVariants as plain_report
use Rattle.grasp_types.specs.Prefix.{AddressBlock as Prefix}
use Rattle.grasp_types.specs.declared.address.Locator.{Locator}

-- the member's node and agent stand so in its present life
abbrev pub IsPresently : WorldState → ℕ → Seat → Type 0
IsPresently w node seat = seat_at w (present_life w node) ≡ Some seat

-- the network once the doubter of this member has made its next call, which came out so: it is a call of agent 2, behind which outputs are sent
abbrev pub after_its_call : Setting → WorldState → ℕ → DoubterState → Choice → WorldState
after_its_call s w node d c = after_event s w (event.Api node 2 (doubter.next_call d) false) c

pub record DoubtersFollow : Type 0 where
  -- an event that is no doubter's does what it does in a network without doubters, and is reported so
  pub plain : (s : Setting) (x : DoubtState) (e : Event) (c : Choice) → (doubt_event s x (doubt.Plain e) c).world ≡ after_event s x.world e c
  pub plain_told : (s : Setting) (x : DoubtState) (e : Event) (c : Choice) → doubt_report s x (doubt.Plain e) c ≡ report.Plain (report_of s x.world e c)
  -- where an agent of prefixes makes its next call, its doubter sees the call, the reply, and the pool that it has then
  pub sees : (s : Setting) (x : DoubtState) (node : ℕ) (hold : Bool) (c : Choice) (d : DoubterState) (before after : Seat) → numbered x.doubters node ≡ Some d
      → IsPresently x.world node before → IsPresently (after_event s x.world (event.Agent node hold) c) node after
      → numbered (doubt_event s x (doubt.Plain (event.Agent node hold)) c).doubters node
      ≡ Some (after_saw d after.agent.pool (next_call before.agent) c.reply)
  -- a doubter takes the reply to its own call, beside the agent of prefixes that its node has then
  pub takes : (s : Setting) (x : DoubtState) (node : ℕ) (c : Choice) (d : DoubterState) (seat : Seat) → numbered x.doubters node ≡ Some d
      → IsPresently (after_its_call s x.world node d c) node seat
      → numbered (doubt_event s x (doubt.Doubter node) c).doubters node ≡ Some (after_take d seat.agent c.reply).after
  -- and its node settles the prefix that the reply says, where it says one
  pub settles : (s : Setting) (x : DoubtState) (node : ℕ) (c : Choice) (d : DoubterState) (seat : Seat) (p : Prefix) → numbered x.doubters node ≡ Some d
      → IsPresently (after_its_call s x.world node d c) node seat → (after_take d seat.agent c.reply).settled ≡ Some p
      → (doubt_event s x (doubt.Doubter node) c).world ≡ after_settle (after_its_call s x.world node d c) node p
  pub leaves : (s : Setting) (x : DoubtState) (node : ℕ) (c : Choice) (d : DoubterState) (seat : Seat) → numbered x.doubters node ≡ Some d
      → IsPresently (after_its_call s x.world node d c) node seat → (after_take d seat.agent c.reply).settled ≡ None
      → (doubt_event s x (doubt.Doubter node) c).world ≡ after_its_call s x.world node d c
  pub call_told : (s : Setting) (x : DoubtState) (node : ℕ) (c : Choice) (d : DoubterState) → numbered x.doubters node ≡ Some d
      → doubt_report s x (doubt.Doubter node) c ≡ report.Plain (plain_report.Agent (doubter.next_call d) c.reply)
  -- a question is taken or not as the doubter answers, is asked where the peer listens, and changes no node
  pub asks : (s : Setting) (x : DoubtState) (node : ℕ) (p : Prefix) (peer : ℕ) (c : Choice) (d : DoubterState) (seat : Seat) (locator : Locator)
      → numbered x.doubters node ≡ Some d → IsPresently x.world node seat → numbered s.peers peer ≡ Some locator
      → (doubt_report s x (doubt.Ask node p peer) c ≡ report.Ask (ask_reply d seat.agent.pool p))
      × (numbered (doubt_event s x (doubt.Ask node p peer) c).doubters node ≡ Some (after_ask d p locator (ask_reply d seat.agent.pool p)))
      × ((doubt_event s x (doubt.Ask node p peer) c).world ≡ x.world)
