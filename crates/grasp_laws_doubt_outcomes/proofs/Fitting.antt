-- What the lines of a script do may be asked for.
use Rattle.std.proofs.Common.{◌≡◌, ◌≢◌, ◌∙◌, sym, subst, ℕ, ◌==◌, ◌||◌, false, length, Some}
use Rattle.std.proofs.lemmas.Bool.{true≢false}
use Rattle.std.proofs.lemmas.List.{length-map}
use Rattle.std.proofs.lemmas.Option.{none-some, same_Some}
use Rattle.grasp_laws_network.proofs.GoodPlans.{count_numbers, member_count}
use Rattle.grasp_laws_outcomes.specs.Scripts.{ScriptEventsFit}
use Rattle.grasp_model_doubts.specs.Events.{IsDoubtFit, IsPlain}
use Rattle.grasp_model_doubts.specs.World.{DoubtState}
use Rattle.grasp_model_doubts.specs.declared.event.DoubtEvent.{DoubtEvent}
use Rattle.grasp_model_doubts.specs.declared.event.DoubtEvent.TheVariants as doubt
use Rattle.grasp_model_network.specs.Plans.{IsNode}
use Rattle.grasp_model_network.specs.Setting.{numbers_from, script_locator, script_setting}
use Rattle.grasp_model_network.specs.World.{WorldState}
use Rattle.grasp_model_network.specs.declared.event.Event.{Event}
use Rattle.grasp_model_network.specs.declared.event.Event.TheVariants as event
use Rattle.grasp_model_network.specs.declared.plan.WorldPlan.{WorldPlan}
use Rattle.grasp_model_script.specs.LineRuns.{placed_event}
use Rattle.grasp_model_script_doubts.specs.LineRuns.{plain_event}
use Rattle.grasp_script.specs.Acts.{IsAct}
use Rattle.grasp_script.specs.declared.line.LineAct.{LineAct}
use Rattle.grasp_script.specs.declared.line.LineAct.TheVariants.{Event as Happens, State}
use Rattle.grasp_script_doubts.specs.Lines.{is_own_call, makes_own}
use Rattle.grasp_script_doubts.specs.declared.line.DoubtLineAct.TheVariants as act
use Rattle.grasp_laws_doubt_outcomes.specs.Scripts.{DoubtScriptEventsFit}

node_fits : (plan : WorldPlan) (node : ℕ) → IsNode plan.nodes node → IsNode (length (script_setting plan).members) node
unfolding script_setting
node_fits plan node is = subst (λ (n : ℕ). IsNode n node) (sym (member_count plan)) is

-- a script's questions can name each of its nodes
peer_fits : (plan : WorldPlan) (peer : ℕ) → IsNode plan.nodes peer → IsNode (length (script_setting plan).peers) peer
unfolding script_setting
peer_fits plan peer is = subst (λ (n : ℕ). IsNode n peer) (sym (length-map (numbers_from 1 plan.nodes) script_locator ∙ count_numbers 1 plan.nodes)) is

not_two : (asa : ℕ) → (asa == 1) || (asa == 2) ≡ false → asa ≢ 2
not_two asa own same = true≢false (subst (λ (a : ℕ). (a == 1) || (a == 2) ≡ false) same own)

-- it is no call of a doubter
others_call : (w : WorldState) (e : Event) → is_own_call e ≡ false → IsPlain (placed_event w e)
others_call w (event.Api node asa call hold) own = not_two asa own
others_call w _ own = tt

act_fits : ScriptEventsFit → (plan : WorldPlan) (x : DoubtState) (a : LineAct) (e : DoubtEvent) → IsAct plan.nodes a → makes_own a ≡ false → plain_event x.world a ≡ Some e
    → IsDoubtFit (script_setting plan) x e
act_fits fits plan x (Happens y) e is own same =
    subst (λ (z : DoubtEvent). IsDoubtFit (script_setting plan) x z) (same_Some (doubt.Plain (placed_event x.world y)) e same) (fits plan x.world y is, others_call x.world y own)
act_fits fits plan x (State node) e is own same = absurd (none-some e same)

pub doubt_script_events_fit : ScriptEventsFit → DoubtScriptEventsFit
doubt_script_events_fit fits plan x (act.Plain a) e is same = act_fits fits plan x a e is.0 is.1 same
doubt_script_events_fit fits plan x (act.Doubter node) e is same =
    subst (λ (z : DoubtEvent). IsDoubtFit (script_setting plan) x z) (same_Some (doubt.Doubter node) e same) (node_fits plan node is)
doubt_script_events_fit fits plan x (act.Ask node p peer) e is same =
    subst (λ (z : DoubtEvent). IsDoubtFit (script_setting plan) x z) (same_Some (doubt.Ask node p peer) e same) (node_fits plan node is.0, peer_fits plan peer is.2)
