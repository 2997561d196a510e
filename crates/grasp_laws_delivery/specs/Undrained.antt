-- The network after an event's step, before the drain behind it.
use Rattle.std.specs.Prelude.{◌≡◌, true, Some}
use Rattle.grasp_model_network.specs.Events.{Occurs, visit_of, after_visit}
use Rattle.grasp_model_network.specs.Runs.{IsReached}
use Rattle.grasp_model_network.specs.Setting.{Setting}
use Rattle.grasp_model_network.specs.Visits.{Visit, Choice}
use Rattle.grasp_model_network.specs.World.{WorldState}
use Rattle.grasp_model_network.specs.declared.event.Event.{Event}
use Rattle.grasp_model_network.specs.declared.event.Event.TheVariants as event

-- the event, with nothing sent behind it
abbrev pub undrained : Event → Event
undrained (event.Clock node millis) = event.Clock node millis
undrained (event.Want node length longest peer) = event.Want node length longest peer
undrained (event.Return node prefix peer) = event.Return node prefix peer
undrained (event.Agent node hold) = event.Agent node true
undrained (event.Api node asa call hold) = event.Api node asa call true
undrained (event.Datagram index hold) = event.Datagram index true
undrained (event.Arrive stream hold) = event.Arrive stream true
undrained (event.Bytes stream far count hold) = event.Bytes stream far count true
undrained (event.Cut stream far hold) = event.Cut stream far true
undrained (event.Drain node max) = event.Drain node max

-- turns lead to it too: to the network that the event leads to where it is undrained
abbrev pub UndrainedAreReached : Type 0
UndrainedAreReached = (s : Setting) (w : WorldState) (e : Event) (c : Choice) (v : Visit) → IsReached s w → Occurs s w e c → visit_of s w e ≡ Some v → IsReached s (after_visit s w e v c)
