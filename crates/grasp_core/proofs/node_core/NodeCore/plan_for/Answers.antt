use Rattle.std.proofs.Common.{◌∙◌, map, sym, ap}
use Rattle.grasp_asa.specs.Answers.{names_of}
use Rattle.grasp_asa.specs.Registrations.{Registrations}
use Rattle.grasp_core.specs.Planned.{planned_as}
use Rattle.grasp_model_node.specs.RegistryCalls.{declines_for}
use Rattle.grasp_core.proofs.Planning.{next_name, last_name}
use Rattle.grasp_core.proofs.node_core.NodeCore.plan_for.Goals as goal

pub loop-i-preserved : goal.loop-i-preserved
loop-i-preserved c = record {
  plan = λ z st.
      let names = names_of c.args.self.now.registry c.args.asa in
      next_name z names c.loop-i.i c.in-Some.name.now (map planned_as c.loop-i.plan.items) (map planned_as c.add_declines.new.plan.items) (declines_for z names) (sym c.in-Some.ensures) (c.in_ok-add_declines.ensures.plan z st) (c.loop-i.invariant.plan z st);
  planned = c.in_ok-add_declines.ensures.planned c.loop-i.invariant.planned;
}

pub returns-in_default-clause-plan : goal.returns-in_default-clause-plan
returns-in_default-clause-plan c = λ n h.
    let names = names_of c.args.self.now.registry c.args.asa in
    last_name n.sessions names c.loop-i.i (map planned_as c.loop-i.plan.items) (declines_for n.sessions names) (sym c.in_default.ensures) (c.loop-i.invariant.plan n.sessions h.sessions)
    ∙ ap (λ (r : Registrations). declines_for n.sessions (names_of r c.args.asa)) h.registrations
