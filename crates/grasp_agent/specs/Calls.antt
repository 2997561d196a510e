-- The call that an agent of PrefixManager makes next. The names, numbers and values are this project's own.
use Rattle.std.specs.Prelude.{ℕ, false, if◌then◌else◌, List, Option, Some, None, codes}
use Rattle.grasp_types.specs.declared.call.Call.{Call}
use Rattle.grasp_types.specs.declared.call.Call.TheVariants as call
use Rattle.grasp_types.specs.declared.message.Verdict.TheVariants as verdict
use Rattle.grasp_types.specs.declared.session.Handle.{Handle}
use Rattle.grasp_agent.specs.Values.{length_value, prefix_value, return_value}
use Rattle.grasp_agent.specs.States.{AgentState, is_open, duty_of}
use Rattle.grasp_agent.specs.declared.act.Act.{Act}
use Rattle.grasp_agent.specs.declared.back.Return.{Return}
use Rattle.grasp_agent.specs.declared.act.Act.TheVariants.{Offer, Counter, Accept, Decline}
use Rattle.grasp_agent.specs.declared.decision.Reason.{Reason}
use Rattle.grasp_agent.specs.declared.decision.Reason.TheVariants.{BadValue, NoLoops, NoPrefix, TooSmall, NotTaken}
use Rattle.grasp_agent.specs.declared.duty.Duty.{Duty}
use Rattle.grasp_agent.specs.declared.duty.Duty.TheVariants as duty
use Rattle.grasp_agent.specs.declared.stage.Stage.{Stage}
use Rattle.grasp_agent.specs.declared.stage.Stage.TheVariants.{Registering, Declaring, Opening, Serving}
use Rattle.grasp_agent.specs.declared.want.Want.{Want}

-- the name of the agent
unfoldable pub agent_name : List ℕ
agent_name = codes "prefix agent"

-- the name of its objective (RFC 8992, section 5.1)
unfoldable pub objective_name : List ℕ
objective_name = codes "PrefixManager"

-- what the peer of a decline is told
abbrev pub reason_text : Reason → List ℕ
reason_text BadValue = codes "bad-value"
reason_text NoLoops = codes "no-loops"
reason_text NoPrefix = codes "no-prefix"
reason_text TooSmall = codes "too-small"
reason_text NotTaken = codes "not-taken"

-- an act is a call in its session
abbrev pub act_call : Act → Call
act_call (Offer place handle p) = call.NegotiateStep handle (prefix_value p)
act_call (Counter handle n) = call.NegotiateStep handle (length_value n)
act_call (Accept handle p) = call.EndNegotiate handle verdict.Accept
act_call (Decline handle reason) = call.EndNegotiate handle (verdict.Decline (Some (reason_text reason)))

-- the request of a want: 6 loops, and a session that times out after 60000 ms
abbrev pub want_call : Want → Call
want_call w = call.RequestNegotiate objective_name (length_value w.length) 6 60000 false w.peer

-- the request of a return, which is itself the offer: 1 loop, so that no step may follow
abbrev pub return_call : Return → Call
return_call r = call.RequestNegotiate objective_name (return_value r.prefix) 1 60000 false r.peer

-- a duty is to listen, or to ask how a session stands
abbrev pub duty_call : Duty → Call
duty_call duty.Listen = call.ListenNegotiate objective_name
duty_call (duty.Want handle) = call.Poll handle
duty_call (duty.Return handle) = call.Poll handle
duty_call (duty.Give place handle) = call.Poll handle

-- the request of a return that wasn't requested, and else the next duty
abbrev pub returning_call : Option Return → Duty → Call
returning_call None d = duty_call d
returning_call (Some r) d = by_session r.session where
  by_session : Option Handle → Call
  by_session None = return_call r
  by_session (Some h) = duty_call d

-- the request of a want that wasn't requested comes before both
abbrev pub asking_call : Option Want → Option Return → Duty → Call
asking_call None back d = returning_call back d
asking_call (Some w) back d = by_session w.session where
  by_session : Option Handle → Call
  by_session None = want_call w
  by_session (Some h) = returning_call back d

-- the act that isn't done comes before all
abbrev pub serving_call : Option Act → Option Want → Option Return → Duty → Call
serving_call None want back d = asking_call want back d
serving_call (Some act) want back d = act_call act

-- the opening calls
abbrev pub opening_call : Stage → Call
opening_call Registering = call.RegisterAsa agent_name
opening_call Declaring = call.RegisterObjective objective_name 3
opening_call Opening = call.ListenNegotiate objective_name
opening_call Serving = call.ListenNegotiate objective_name

-- the call that is made next: the opening calls come first
unfoldable pub next_call : AgentState → Call
next_call s = if is_open s.stage then serving_call s.act s.want s.back (duty_of s) else opening_call s.stage
