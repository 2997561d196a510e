-- Inside: the numbers that are told of an answer or a call are those of their types.
use Rattle.std.specs.Prelude.{◌<◌, ◌^◌, ℕ, length, Result, Ok, Err, IfSome}
use Rattle.std.specs.List.{AllByRecursion}
use Rattle.grasp_agent.specs.declared.back.ReturnFault.{ReturnFault}
use Rattle.grasp_agent.specs.declared.back.ReturnFault.TheVariants as back
use Rattle.grasp_agent.specs.declared.want.WantFault.{WantFault}
use Rattle.grasp_agent.specs.declared.want.WantFault.TheVariants.{Busy, Full}
use Rattle.grasp_model_network.specs.declared.report.Report.{Report}
use Rattle.grasp_model_network.specs.declared.report.Report.TheVariants as report
use Rattle.grasp_types.specs.declared.address.Locator.{Locator}
use Rattle.grasp_types.specs.declared.address.Locator.TheVariants.{V6, V4, Fqdn, Uri}
use Rattle.grasp_types.specs.declared.call.Call.{Call}
use Rattle.grasp_types.specs.declared.call.Call.TheVariants as call
use Rattle.grasp_types.specs.declared.flood.FloodRead.{FloodRead}
use Rattle.grasp_types.specs.declared.objective.Objective.{Objective}
use Rattle.grasp_types.specs.declared.reply.ApiAnswer.{ApiAnswer}
use Rattle.grasp_types.specs.declared.reply.ApiAnswer.TheVariants as api
use Rattle.grasp_types.specs.declared.reply.Reply.{Reply}
use Rattle.grasp_types.specs.declared.reply.Reply.TheVariants as reply
use Rattle.grasp_types.specs.declared.session.Outcome.{Outcome}
use Rattle.grasp_types.specs.declared.session.Outcome.TheVariants as outcome
use Rattle.grasp_types.specs.declared.session.Progress.{Progress}
use Rattle.grasp_types.specs.declared.session.Progress.TheVariants as progress
use Rattle.grasp_types.specs.declared.traffic.Output.{Output}
use Rattle.grasp_types.specs.declared.traffic.Output.TheVariants as output

-- the number is one of 64 bits
abbrev pub IsNumber : ℕ → Type 0
IsNumber n = n < 2 ^ 64

abbrev pub LocatorFits : Locator → Type 0
LocatorFits (V6 n proto port) = IsNumber port
LocatorFits (V4 n proto port) = IsNumber port
LocatorFits (Fqdn name proto port) = IsNumber port
LocatorFits (Uri text proto port) = IfSome port IsNumber

abbrev pub ObjectiveFits : Objective → Type 0
ObjectiveFits o = IsNumber o.flags × IsNumber o.loops

abbrev pub OutcomeFits : Outcome → Type 0
OutcomeFits (outcome.Agreed by o) = ObjectiveFits o
OutcomeFits (outcome.Declined by reason) = Unit {0}
OutcomeFits (outcome.Synchronized o) = ObjectiveFits o
OutcomeFits (outcome.TimedOut deadline now) = IsNumber deadline × IsNumber now
OutcomeFits outcome.Broken = Unit {0}
OutcomeFits outcome.OutOfMemory = Unit {0}
OutcomeFits (outcome.Invalid by) = Unit {0}

abbrev pub ProgressFits : Progress → Type 0
ProgressFits progress.NotYet = Unit {0}
ProgressFits (progress.Turn o) = ObjectiveFits o
ProgressFits (progress.Ended o) = OutcomeFits o

abbrev pub FloodReadFits : FloodRead → Type 0
FloodReadFits r = ObjectiveFits r.objective × IfSome r.locator LocatorFits

abbrev pub ApiFits : ApiAnswer → Type 0
ApiFits (api.Asa number) = IsNumber number
ApiFits api.Done = Unit {0}
ApiFits (api.Started handle) = IsNumber handle.number
ApiFits api.Searching = Unit {0}
ApiFits (api.Found locators) = AllByRecursion LocatorFits locators
ApiFits api.Nothing = Unit {0}
ApiFits api.NotYet = Unit {0}
ApiFits (api.Incoming handle from o) = IsNumber handle.number × ObjectiveFits o
ApiFits (api.Polled p) = ProgressFits p
ApiFits (api.Floods reads) = AllByRecursion FloodReadFits reads

abbrev pub ReplyFits : Reply → Type 0
ReplyFits (reply.Api a) = ApiFits a
ReplyFits (reply.Refused r) = Unit {0}
ReplyFits (reply.Outputs outputs) = IsNumber (length outputs)
ReplyFits reply.Taken = Unit {0}
ReplyFits reply.Turned = Unit {0}
ReplyFits reply.OutOfMemory = Unit {0}

abbrev pub WantFits : Result (Unit {0}) WantFault → Type 0
WantFits (Ok u) = Unit {0}
WantFits (Err (Busy shortest longest)) = IsNumber shortest × IsNumber longest
WantFits (Err Full) = Unit {0}

abbrev pub ReturnFits : Result (Unit {0}) ReturnFault → Type 0
ReturnFits (Ok u) = Unit {0}
ReturnFits (Err (back.Busy prefix)) = IsNumber prefix.length
ReturnFits (Err back.NotFree) = Unit {0}
ReturnFits (Err back.Full) = Unit {0}

abbrev pub ReportFits : Report → Type 0
ReportFits (report.Reply r) = ReplyFits r
ReportFits (report.Agent c r) = ReplyFits r
ReportFits report.Nothing = Unit {0}
ReportFits (report.Reading millis) = IsNumber millis
ReportFits (report.Want taken) = WantFits taken
ReportFits (report.Return taken) = ReturnFits taken
ReportFits (report.Sent outputs) = IsNumber outputs

abbrev pub OutputFits : Output → Type 0
OutputFits (output.Datagram link to bytes) = IsNumber link × IsNumber to
OutputFits (output.Dial stream to) = IsNumber stream × LocatorFits to
OutputFits (output.Send stream bytes) = IsNumber stream
OutputFits (output.Close stream) = IsNumber stream

abbrev pub CallFits : Call → Type 0
CallFits (call.RegisterObjective name flags) = IsNumber flags
CallFits (call.Discover name kind loops timeout) = IsNumber loops × IsNumber timeout
CallFits (call.RequestNegotiate name value loops timeout dry peer) = IsNumber loops × IsNumber timeout
CallFits (call.NegotiateStep handle value) = IsNumber handle.number
CallFits (call.NegotiateWait handle millis) = IsNumber handle.number × IsNumber millis
CallFits (call.EndNegotiate handle verdict) = IsNumber handle.number
CallFits (call.SendInvalid handle detail) = IsNumber handle.number
CallFits (call.Poll handle) = IsNumber handle.number
CallFits (call.Synchronize name loops timeout peer) = IsNumber loops × IsNumber timeout
CallFits (call.Flood name value ttl loops) = IsNumber ttl × IsNumber loops
CallFits _ = Unit {0}
