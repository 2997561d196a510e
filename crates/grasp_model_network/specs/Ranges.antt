-- The ranges of what calls carry: texts are UTF-8, values have an encoding, and numbers are within the ranges of their types.
use Rattle.std.specs.Prelude.{◌≤◌, ◌<◌, ◌^◌, IfSome}
use Rattle.std.specs.Str.{IsUtf8}
use Rattle.grasp_types.specs.Message.{IsVerdict}
use Rattle.grasp_types.specs.Objective.{IsValue}
use Rattle.grasp_types.specs.declared.call.Call.{Call}
use Rattle.grasp_types.specs.declared.call.Call.TheVariants as call

-- each part of a call from which a message is made is within the range of its type
abbrev pub IsCall : Call → Type 0
IsCall (call.RegisterAsa name) = Unit {0}
IsCall call.DeregisterAsa = Unit {0}
IsCall (call.RegisterObjective name flags) = IsUtf8 name × (flags ≤ 15)
IsCall (call.DeregisterObjective name) = Unit {0}
IsCall (call.Discover name kind loops timeout) = IsUtf8 name × (loops < 2 ^ 8)
IsCall (call.RequestNegotiate name value loops timeout dry peer) = IsUtf8 name × IsValue value × (loops < 2 ^ 8)
IsCall (call.ListenNegotiate name) = Unit {0}
IsCall (call.StopListenNegotiate name) = Unit {0}
IsCall (call.NegotiateStep handle value) = IsValue value
IsCall (call.NegotiateWait handle millis) = millis < 2 ^ 32
IsCall (call.EndNegotiate handle verdict) = IsVerdict verdict
IsCall (call.SendInvalid handle detail) = IfSome detail IsValue
IsCall (call.Poll handle) = Unit {0}
IsCall (call.Synchronize name loops timeout peer) = IsUtf8 name × (loops < 2 ^ 8)
IsCall (call.ListenSynchronize name value) = IsValue value
IsCall (call.StopListenSynchronize name) = Unit {0}
IsCall (call.Flood name value ttl loops) = IsUtf8 name × IsValue value × (ttl < 2 ^ 32) × (loops < 2 ^ 8)
IsCall (call.GetFlood name) = Unit {0}
IsCall (call.ExpireFlood name initiator) = Unit {0}
