use Rattle.std.proofs.Common.{◌≡◌, ◌∙◌, Some, None, sym, ap, subst}
use Rattle.grasp_pool.specs.Holdings.{Holding}
use Rattle.grasp_agent.specs.Kept.{IsKept}
use Rattle.grasp_agent.specs.States.{AgentState}
use Rattle.grasp_agent.specs.Stored.{state_of}
use Rattle.grasp_agent.specs.declared.act.Act.TheVariants as act
use Rattle.grasp_agent.proofs.Keeping.{act_stands, kept_gaining}
use Rattle.grasp_agent.proofs.prefix_agent.PrefixAgent.act_done.Goals as goal

pub invariant_of-self : goal.invariant_of-self
invariant_of-self c =
    let s : AgentState = state_of c.self.inside
    in let e : s.act ≡ Some (act.Accept c.in-Accept.handle c.in-Accept.prefix) = ap (λ (s : AgentState). s.act) c.self.view_is ∙ c.requires ∙ ap Some c.in-Accept.is
    in record {
      kept = subst (λ (h : Holding). IsKept (record s { act = None; pool = h }))
          (sym c.gain-gained.ensures.after)
          (kept_gaining s c.in-Accept.prefix (act_stands s (act.Accept c.in-Accept.handle c.in-Accept.prefix) e c.self.invariant.kept).1 c.self.invariant.kept);
      giving = c.self.invariant.giving;
      cursor = c.self.invariant.cursor;
    }
