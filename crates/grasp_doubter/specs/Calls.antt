-- The call that a doubter makes next. Who runs it has made its opening calls.
use Rattle.std.specs.Prelude.{ℕ, Bool, true, false, if◌then◌else◌, List, Option, Some, None}
use Rattle.grasp_types.specs.declared.call.Call.{Call}
use Rattle.grasp_types.specs.declared.call.Call.TheVariants as call
use Rattle.grasp_types.specs.declared.message.Verdict.{Verdict}
use Rattle.grasp_types.specs.declared.message.Verdict.TheVariants as verdict
use Rattle.grasp_types.specs.declared.session.Handle.{Handle}
use Rattle.grasp_doubter.specs.Questions.{doubt_name, question_value, unknown_text}
use Rattle.grasp_doubter.specs.States.{DoubterState, duty_of}
use Rattle.grasp_doubter.specs.declared.asking.Ask.{Ask}
use Rattle.grasp_doubter.specs.declared.duty.DoubtAct.{DoubtAct}
use Rattle.grasp_doubter.specs.declared.duty.DoubtDuty.{DoubtDuty}
use Rattle.grasp_doubter.specs.declared.duty.DoubtDuty.TheVariants as duty

-- an acceptance means never, and anything else is unknown
abbrev pub verdict_of : Bool → Verdict
verdict_of accepts = if accepts then verdict.Accept else verdict.Decline (Some unknown_text)

-- an answer is a call in its session
abbrev pub act_call : DoubtAct → Call
act_call a = call.EndNegotiate a.handle (verdict_of a.accepts)

-- the request of a question: 1 loop, so that no step may follow, and a session that times out after 60000 ms
abbrev pub ask_call : Ask → Call
ask_call k = call.RequestNegotiate doubt_name (question_value k.address k.prefix) 1 60000 false k.peer

-- a duty is to listen, or to ask how a session stands
abbrev pub duty_call : DoubtDuty → Call
duty_call duty.Listen = call.ListenNegotiate doubt_name
duty_call (duty.Ask h) = call.Poll h
duty_call (duty.Answer place h) = call.Poll h

-- the request of a question that wasn't requested, and else the next duty
abbrev pub asking_call : Option Ask → DoubtDuty → Call
asking_call None d = duty_call d
asking_call (Some k) d = by_session k.session where
  by_session : Option Handle → Call
  by_session None = ask_call k
  by_session (Some h) = duty_call d

-- the answer that isn't given comes before all
abbrev pub serving_call : Option DoubtAct → Option Ask → DoubtDuty → Call
serving_call None k d = asking_call k d
serving_call (Some a) k d = act_call a

-- the call that is made next
unfoldable pub next_call : DoubterState → Call
next_call d = serving_call d.act d.ask (duty_of d)
