-- The next call of an agent of PrefixManager, as a view: which call it is, and why.
use Rattle.std.specs.Prelude.{◌≡◌, false, true, slice_get, Some, None}
use Rattle.grasp_types.specs.declared.call.Call.{Call}
use Rattle.grasp_agent.specs.Calls.{act_call, want_call, return_call, duty_call, opening_call, next_call}
use Rattle.grasp_agent.specs.States.{AgentState, is_open, want_session, back_session}
use Rattle.grasp_agent.specs.declared.act.Act.{Act}
use Rattle.grasp_agent.specs.declared.back.Return.{Return}
use Rattle.grasp_agent.specs.declared.duty.Duty.{Duty}
use Rattle.grasp_agent.specs.declared.duty.Duty.TheVariants as duty
use Rattle.grasp_agent.specs.declared.giving.Giving.{Giving}
use Rattle.grasp_agent.specs.declared.want.Want.{Want}
use Rattle.grasp_laws_agent.specs.Moves.{IsNext, IsRequesting, IsReturning}

-- the duty is one of the agent's: to listen, to poll the session of its want or that of its return, or to poll the giving session at this place
abbrev pub IsDuty : AgentState → Duty → Type 0
IsDuty s duty.Listen = Unit {0}
IsDuty s (duty.Want h) = want_session s.want ≡ Some h
IsDuty s (duty.Return h) = back_session s.back ≡ Some h
IsDuty s (duty.Give place h) = (g : Giving) × (slice_get s.giving place ≡ Some g) × (g.handle ≡ h)

-- this call is the agent's next one: an opening call, its act, the request of its want, that of its return, or a duty
pub data NextIs (s : AgentState) : Call → Type 0 where
  opens : is_open s.stage ≡ false → NextIs s (opening_call s.stage)
  acts : (a : Act) → is_open s.stage ≡ true → s.act ≡ Some a → NextIs s (act_call a)
  requests : (w : Want) → IsRequesting s → s.want ≡ Some w → w.session ≡ None → NextIs s (want_call w)
  hands_back : (r : Return) → IsReturning s → s.back ≡ Some r → r.session ≡ None → NextIs s (return_call r)
  does : (d : Duty) → IsNext s d → IsDuty s d → NextIs s (duty_call d)

-- each agent's next call is one of these
abbrev pub NextCallsAre : Type 0
NextCallsAre = (s : AgentState) → NextIs s (next_call s)
