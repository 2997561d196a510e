-- What the agent of a node calls is in range.
use Rattle.std.proofs.Common.{◌≤◌, ◌<◌, ◌^◌, arith, None, Some}
use Rattle.grasp_laws_agent.proofs.LawNext.{next_calls_are}
use Rattle.grasp_laws_agent.proofs.LawSending.{calls_are_short}
use Rattle.grasp_agent.specs.Calls.{act_call, duty_call, opening_call, next_call}
use Rattle.grasp_agent.specs.Kept.{IsKept}
use Rattle.grasp_agent.specs.Reopening.{MayReopen}
use Rattle.grasp_laws_agent.specs.Next.{NextIs, opens, acts, requests, hands_back, does}
use Rattle.grasp_laws_agent.specs.Sending.{IsShortCall, IsShortVerdict}
use Rattle.grasp_agent.specs.States.{AgentState}
use Rattle.grasp_agent.specs.declared.act.Act.{Act}
use Rattle.grasp_agent.specs.declared.act.Act.TheVariants.{Offer}
use Rattle.grasp_agent.specs.declared.duty.Duty.{Duty}
use Rattle.grasp_agent.specs.declared.duty.Duty.TheVariants as duty
use Rattle.grasp_agent.specs.declared.stage.Stage.{Stage}
use Rattle.grasp_agent.specs.declared.stage.Stage.TheVariants.{Declaring}
use Rattle.grasp_pool.proofs.Opening.{reopened_pool}
use Rattle.grasp_pool.specs.Functions.{pool_of_image}
use Rattle.grasp_pool.specs.Pools.{IsPool}
use Rattle.grasp_pool.specs.declared.image.PoolImage.{PoolImage}
use Rattle.grasp_laws_network.proofs.Begun.{reopened}
use Rattle.grasp_model_network.specs.Ranges.{IsCall}
use Rattle.grasp_types.specs.Message.{IsVerdict}
use Rattle.grasp_types.specs.declared.call.Call.{Call}
use Rattle.grasp_types.specs.declared.call.Call.TheVariants as call
use Rattle.grasp_types.specs.declared.message.Verdict.{Verdict}
use Rattle.grasp_types.specs.declared.message.Verdict.TheVariants as verdict

-- the flags and the loop count of the call are small
abbrev pub IsModest : Call → Type 0
IsModest (call.RegisterObjective name flags) = flags ≤ 15
IsModest (call.RequestNegotiate name value loops timeout dry peer) = loops < 2 ^ 8
IsModest _ = Unit {0}

small_loops : 6 < 2 ^ 8
small_loops = omega arith

small_loop : 1 < 2 ^ 8
small_loop = omega arith

small_flags : 3 ≤ 15
small_flags = omega arith

of_act : (a : Act) → IsModest (act_call a)
of_act (Offer place handle p) = tt
of_act _ = tt

of_duty : (d : Duty) → IsModest (duty_call d)
of_duty duty.Listen = tt
of_duty _ = tt

of_stage : (s : Stage) → IsModest (opening_call s)
of_stage Declaring = small_flags
of_stage _ = tt

modest_call : (s : AgentState) (c : Call) → NextIs s c → IsModest c
modest_call s _ (opens shut) = of_stage s.stage
modest_call s _ (acts a serves is) = of_act a
modest_call s _ (requests w next is none) = small_loops
modest_call s _ (hands_back r next is none) = small_loop
modest_call s _ (does d next is) = of_duty d

-- ---- a short call is in range

verdict_is : (v : Verdict) → IsShortVerdict v → IsVerdict v
verdict_is verdict.Accept h = tt
verdict_is (verdict.Decline None) h = tt
verdict_is (verdict.Decline (Some reason)) h = h.utf8

short_is : (it : Call) → IsShortCall it → IsModest it → IsCall it
short_is (call.RegisterObjective name flags) h k = (h.utf8, k)
short_is (call.Discover name kind loops timeout) h k = absurd h
short_is (call.RequestNegotiate name value loops timeout dry peer) h k = (h.0.utf8, h.1.value, k)
short_is (call.NegotiateStep handle value) h k = h.value
short_is (call.NegotiateWait handle millis) h k = absurd h
short_is (call.EndNegotiate handle v) h k = verdict_is v h
short_is (call.SendInvalid handle detail) h k = absurd h
short_is (call.Synchronize name loops timeout peer) h k = absurd h
short_is (call.ListenSynchronize name value) h k = absurd h
short_is (call.Flood name value ttl loops) h k = absurd h
short_is _ h k = tt

pub agent_call_is : (s : AgentState) → IsKept s → IsCall (next_call s)
agent_call_is s k = short_is (next_call s) (calls_are_short s k) (modest_call s (next_call s) (next_calls_are s))

-- the pool of an image by which an agent may be opened anew
pub image_pool : (a : AgentState) (image : PoolImage) → MayReopen a image → IsPool (pool_of_image image)
image_pool a image may = reopened_pool image (reopened a image may)
