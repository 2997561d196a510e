use Rattle.std.proofs.Common.{◌++◌, ◌-◌, ◌∙◌, List, map, sym, ap, arith, append-nil}
use Rattle.std.proofs.lemmas.List.Elements.{All-push}
use Rattle.grasp_model_node.specs.Declines.{Declining, declines_of}
use Rattle.grasp_core.specs.Planned.{planned_as, IsPlanned}
use Rattle.grasp_core.proofs.Planning.{none_left, no_more, one_more}
use Rattle.grasp_core.proofs.declining.add_declines.Goals as goal

pub loop-left-preserved : goal.loop-left-preserved
loop-left-preserved c = record {
  plan = λ z st.
      rw c.in_ok-push.ensures.items
      (one_more z c.args.name.now c.loop-left.plan.items c.in_ok-plan_decline.field-0 c.loop-left.left (c.loop-left.left - 1) c.loop-left.above c.in-Some.handle (map planned_as c.args.plan.now.items ++ declines_of z c.args.name.now) (omega arith) (c.in-Some.ensures.reply z st) (c.in_ok-plan_decline.ensures.plan z st)
      (c.loop-left.invariant.plan z st));
  planned = λ all. rw c.in_ok-push.ensures.items (All-push IsPlanned c.loop-left.plan.items c.in_ok-plan_decline.field-0 (c.loop-left.invariant.planned all) c.in_ok-plan_decline.ensures.planned);
}

pub returns-in_default-clause-plan : goal.returns-in_default-clause-plan
returns-in_default-clause-plan c = λ z st.
    sym (append-nil (map planned_as c.loop-left.plan.items))
    ∙ (ap (λ (l : List Declining). map planned_as c.loop-left.plan.items ++ l) (sym (no_more z c.args.name.now c.loop-left.left c.loop-left.above (omega arith) (sym c.in_default.is ∙ c.untaken_above.ensures.reply z st))) ∙ c.loop-left.invariant.plan z st)

pub returns-clause-plan : goal.returns-clause-plan
returns-clause-plan c = λ z st.
    sym (append-nil (map planned_as c.loop-left.plan.items))
    ∙ (ap (λ (l : List Declining). map planned_as c.loop-left.plan.items ++ l) (sym (none_left z c.args.name.now c.loop-left.left c.loop-left.above (omega arith))) ∙ c.loop-left.invariant.plan z st)
