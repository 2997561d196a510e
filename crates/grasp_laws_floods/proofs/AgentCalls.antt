-- The agent of a node floods nothing and searches for nothing.
use Rattle.std.proofs.Common.{◌≡◌, refl, ℕ, ◌≤◌, arith, None}
use Rattle.grasp_laws_agent.proofs.LawNext.{next_calls_are}
use Rattle.grasp_laws_agent.specs.Next.{NextIs, opens, acts, requests, hands_back, does}
use Rattle.grasp_agent.specs.Calls.{act_call, duty_call, opening_call, next_call}
use Rattle.grasp_agent.specs.States.{AgentState}
use Rattle.grasp_agent.specs.declared.act.Act.{Act}
use Rattle.grasp_agent.specs.declared.act.Act.TheVariants.{Offer}
use Rattle.grasp_agent.specs.declared.duty.Duty.{Duty}
use Rattle.grasp_agent.specs.declared.duty.Duty.TheVariants as duty
use Rattle.grasp_agent.specs.declared.stage.Stage.{Stage}
use Rattle.grasp_agent.specs.declared.stage.Stage.TheVariants.{Declaring}
use Rattle.grasp_model_node.specs.Node.{NodeState}
use Rattle.grasp_laws_node.specs.Relays.{own_message}
use Rattle.grasp_types.specs.declared.call.Call.{Call}
use Rattle.grasp_types.specs.declared.call.Call.TheVariants as call
use Rattle.grasp_types.specs.declared.reply.ApiAnswer.{ApiAnswer}
use Rattle.grasp_laws_floods.proofs.Ranges.{IsInRange}

-- neither a flood nor a search, and with flags where it registers
abbrev pub IsAgentCall : Call → Type 0
IsAgentCall (call.RegisterObjective name flags) = flags ≤ 15
IsAgentCall (call.Discover name kind loops timeout) = ⊥
IsAgentCall (call.Flood name value ttl loops) = ⊥
IsAgentCall _ = Unit {0}

small_flags : 3 ≤ 15
small_flags = omega arith

of_act : (a : Act) → IsAgentCall (act_call a)
of_act (Offer place handle p) = tt
of_act _ = tt

of_duty : (d : Duty) → IsAgentCall (duty_call d)
of_duty duty.Listen = tt
of_duty _ = tt

of_stage : (s : Stage) → IsAgentCall (opening_call s)
of_stage Declaring = small_flags
of_stage _ = tt

by_next : (s : AgentState) (c : Call) → NextIs s c → IsAgentCall c
by_next s _ (opens shut) = of_stage s.stage
by_next s _ (acts a serves is) = of_act a
by_next s _ (requests w next is none) = tt
by_next s _ (hands_back r next is none) = tt
by_next s _ (does d next is) = of_duty d

pub agent_calls : (s : AgentState) → IsAgentCall (next_call s)
agent_calls s = by_next s (next_call s) (next_calls_are s)

pub call_in_range : (it : Call) → IsAgentCall it → IsInRange it
call_in_range (call.RegisterObjective name flags) k = k
call_in_range (call.Discover name kind loops timeout) k = absurd k
call_in_range (call.Flood name value ttl loops) k = absurd k
call_in_range _ k = tt

-- so nothing goes to neighbours for it
pub begins_nothing : (n : NodeState) (asa : ℕ) (it : Call) (a : ApiAnswer) → IsAgentCall it → own_message n asa it a ≡ None
begins_nothing n asa (call.Discover name kind loops timeout) a k = absurd k
begins_nothing n asa (call.Flood name value ttl loops) a k = absurd k
begins_nothing n asa _ a k = refl
