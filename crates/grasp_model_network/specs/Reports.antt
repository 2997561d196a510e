-- What is reported of an event.
use Rattle.std.specs.Prelude.{Option, None, Some}
use Rattle.grasp_agent.specs.Calls.{next_call}
use Rattle.grasp_model_network.specs.EventSteps.{wanting_reply, returning_reply, sent_count}
use Rattle.grasp_model_network.specs.Events.{visit_of}
use Rattle.grasp_model_network.specs.Setting.{Setting}
use Rattle.grasp_model_network.specs.Visits.{Visit, Choice}
use Rattle.grasp_model_network.specs.World.{WorldState, present_life}
use Rattle.grasp_model_network.specs.declared.event.Event.{Event}
use Rattle.grasp_model_network.specs.declared.event.Event.TheVariants as event
use Rattle.grasp_model_network.specs.declared.report.Report.{Report}
use Rattle.grasp_model_network.specs.declared.report.Report.TheVariants as report

-- the node's reading, the agent's call and its reply, how many outputs were sent, or the reply to what came in
abbrev pub report_visit : Event → Visit → Choice → Report
report_visit (event.Clock node millis) v c = report.Reading c.after.reading
report_visit (event.Want node length longest peer) v c = report.Nothing
report_visit (event.Return node prefix peer) v c = report.Nothing
report_visit (event.Agent node hold) v c = report.Agent (next_call v.seat.agent) c.reply
report_visit (event.Api node asa call hold) v c = report.Reply c.reply
report_visit (event.Datagram index hold) v c = report.Reply c.reply
report_visit (event.Arrive stream hold) v c = report.Reply c.reply
report_visit (event.Bytes stream far count hold) v c = report.Reply c.reply
report_visit (event.Cut stream far hold) v c = report.Reply c.reply
report_visit (event.Drain node max) v c = report.Sent (sent_count v max)

-- whether a want or a return was taken; and nothing where what the event names isn't there
abbrev pub report_none : WorldState → Event → Report
report_none w (event.Want node length longest peer) = report.Want (wanting_reply w (present_life w node))
report_none w (event.Return node prefix peer) = report.Return (returning_reply w (present_life w node) prefix)
report_none w _ = report.Nothing

abbrev pub report_by : WorldState → Event → Choice → Option Visit → Report
report_by w e c None = report_none w e
report_by w e c (Some v) = report_visit e v c

unfoldable pub report_of : Setting → WorldState → Event → Choice → Report
report_of s w e c = report_by w e c (visit_of s w e)
