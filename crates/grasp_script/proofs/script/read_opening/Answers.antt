use Rattle.std.proofs.Common.{inl, inr, sym, subst}
use Rattle.grasp_model_network.specs.declared.plan.WorldPlan.{WorldPlan}
use Rattle.grasp_script.specs.Reads.{SoFar}
use Rattle.grasp_script.specs.Scripts.{text_lines}
use Rattle.grasp_script.proofs.Openings.{if_none}
use Rattle.grasp_script.proofs.ScriptLaws.{unfit_no_script}
use Rattle.grasp_script.proofs.SoFar.{nodes_unfit, nodes_missing, unsized_begun, sized_begun}
use Rattle.grasp_script.proofs.Splitting.{behind_both}
use Rattle.grasp_script.proofs.script.read_opening.Goals as goal

pub returns-in_err-line-clause-none : goal.returns-in_err-line-clause-none
returns-in_err-line-clause-none c = let missing = nodes_missing c.args.text.now c.in_err-line.ensures.none in if_none c.from_residual.result missing.none

pub returns-in_err-line-clause-place : goal.returns-in_err-line-clause-place
returns-in_err-line-clause-place c = if_none c.from_residual.result (inr (nodes_missing c.args.text.now c.in_err-line.ensures.none))

pub returns-in_err-nodes-clause-none : goal.returns-in_err-nodes-clause-none
returns-in_err-nodes-clause-none c = if_none c.from_residual-in_err-nodes.result (unfit_no_script c.args.text.now 1 (nodes_unfit c.args.text.now c.in_ok-line.line.now (text_lines c.in_ok-line.middle.now) c.in_ok-line.ensures.line c.in_err-nodes.ensures.none))

pub returns-in_err-nodes-clause-place : goal.returns-in_err-nodes-clause-place
returns-in_err-nodes-clause-place c = if_none c.from_residual-in_err-nodes.result (inl (nodes_unfit c.args.text.now c.in_ok-line.line.now (text_lines c.in_ok-line.middle.now) c.in_ok-line.ensures.line c.in_err-nodes.ensures.none))

pub returns-in-Some-clause-some : goal.returns-in-Some-clause-some
returns-in-Some-clause-some c = subst (λ (p : WorldPlan). SoFar c.args.text.now c.in-Some.rest.now p 2) (sym c.bare_plan.ensures) (sized_begun c.args.text.now c.in_ok-line.middle.now c.in-Some.rest.now c.in_ok-line.line.now c.in_ok-nodes.nodes c.in-Some.limit c.in_ok-line.ensures.line c.in_ok-nodes.ensures.found c.in_ok-nodes.ensures.good c.in-Some.ensures.some)

pub returns-in-None-clause-some : goal.returns-in-None-clause-some
returns-in-None-clause-some c = subst (λ (p : WorldPlan). SoFar c.args.text.now c.in_ok-line.middle.now p 1) (sym c.bare_plan-in-None.ensures) (unsized_begun c.args.text.now c.in_ok-line.middle.now c.in_ok-line.line.now c.in_ok-nodes.nodes c.in_ok-line.ensures.line c.in_ok-nodes.ensures.found c.in_ok-nodes.ensures.good c.in-None.ensures.none)

pub returns-in-Some-clause-behind : goal.returns-in-Some-clause-behind
returns-in-Some-clause-behind c =
    behind_both c.args.text.now c.in_ok-line.middle.now c.in-Some.rest.now c.in_ok-line.ensures.behind c.in-Some.ensures.behind
