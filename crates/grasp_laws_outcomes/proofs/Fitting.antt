-- The events of a script's lines may be asked for.
use Rattle.std.proofs.Common.{◌≡◌, ◌≢◌, ◌∙◌, sym, subst, arith, tests, ℕ, ◌==◌, nat_le, true, length, map}
use Rattle.std.proofs.lemmas.List.{length-map}
use Rattle.grasp_types.specs.declared.call.Call.{Call}
use Rattle.grasp_types.specs.declared.call.Call.TheVariants.{RegisterAsa, RegisterObjective, Discover, RequestNegotiate, NegotiateStep, NegotiateWait, EndNegotiate, SendInvalid, Synchronize, ListenSynchronize, Flood}
use Rattle.grasp_laws_network.proofs.GoodPlans.{count_numbers, member_count}
use Rattle.grasp_model_network.specs.Events.{IsFit, IsFitAmong}
use Rattle.grasp_model_network.specs.Ranges as ranges
use Rattle.grasp_model_network.specs.Setting.{numbers_from, script_locator, script_setting}
use Rattle.grasp_model_network.specs.World.{WorldState, present_life}
use Rattle.grasp_model_network.specs.declared.event.Event.{Event}
use Rattle.grasp_model_network.specs.declared.event.Event.TheVariants as event
use Rattle.grasp_model_network.specs.declared.plan.WorldPlan.{WorldPlan}
use Rattle.grasp_script.specs.Acts.{IsEvent}
use Rattle.grasp_script.specs.Calls.{IsCall, may_call}
use Rattle.grasp_model_script.specs.LineRuns.{placed_call, placed_event}
use Rattle.grasp_laws_outcomes.specs.Scripts.{ScriptEventsFit}

-- what a call carries stays within its ranges where its session gets a place
call_fits : (nodes : ℕ) (w : WorldState) (life : ℕ) (c : Call) → IsCall nodes c → ranges.IsCall (placed_call w life c)
call_fits nodes w life (RegisterObjective name flags) h = h
call_fits nodes w life (Discover name kind loops timeout) h = (h.0, h.1)
call_fits nodes w life (RequestNegotiate name value loops timeout dry peer) h = (h.0, h.1, h.2)
call_fits nodes w life (NegotiateStep handle value) h = h.1
call_fits nodes w life (NegotiateWait handle millis) h = h.1
call_fits nodes w life (EndNegotiate handle verdict) h = h.1
call_fits nodes w life (SendInvalid handle detail) h = h.1
call_fits nodes w life (Synchronize name loops timeout peer) h = (h.0, h.1)
call_fits nodes w life (ListenSynchronize name value) h = h.1
call_fits nodes w life (Flood name value ttl loops) h = h
call_fits nodes w life _ h = tt

-- ---- no call is made as agent 1

two_more : (asa : ℕ) → nat_le 2 asa ≡ true → asa ≡ 1 → ⊥
two_more asa h one = absurd (grind (arith, tests))

none_yet : (asa : ℕ) → (asa == 0) ≡ true → asa ≡ 1 → ⊥
none_yet asa h one = absurd (grind (arith, tests))

not_own : (asa : ℕ) (c : Call) → may_call asa c ≡ true → asa ≢ 1
not_own asa (RegisterAsa name) h = none_yet asa h
not_own asa _ h = two_more asa h

-- ---- events

event_among : (n : ℕ) (w : WorldState) (e : Event) → IsEvent n e → IsFitAmong n n (placed_event w e)
event_among n w (event.Clock node millis) h = h.0
event_among n w (event.Want node least longest peer) h = (h.0, h.2, h.1)
event_among n w (event.Return node prefix peer) h = (h.0, h.2, h.1)
event_among n w (event.Agent node hold) h = h
event_among n w (event.Api node asa call hold) h = (h.0, not_own asa call h.3, call_fits n w (present_life w node) call h.2)
event_among n w (event.Drain node max) h = h.0
event_among n w _ h = tt

-- a script's wants and returns can name each of its nodes
peer_count : (plan : WorldPlan) → length (map script_locator (numbers_from 1 plan.nodes)) ≡ plan.nodes
peer_count plan = length-map (numbers_from 1 plan.nodes) script_locator ∙ count_numbers 1 plan.nodes

pub script_events_fit : ScriptEventsFit
unfolding script_setting
script_events_fit plan w e h =
    subst (λ (k : ℕ). IsFitAmong k (length (map script_locator (numbers_from 1 plan.nodes))) (placed_event w e)) (sym (member_count plan))
    (subst (λ (k : ℕ). IsFitAmong plan.nodes k (placed_event w e)) (sym (peer_count plan)) (event_among plan.nodes w e h))
