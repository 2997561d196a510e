use Rattle.std.proofs.Common.{Contains, sym, subst}
use Rattle.grasp_pool.specs.Holdings.{Holding}
use Rattle.grasp_agent.specs.Kept.{IsKept}
use Rattle.grasp_agent.specs.States.{AgentState}
use Rattle.grasp_agent.specs.Stored.{state_of}
use Rattle.grasp_agent.proofs.Returning.{kept_settling}
use Rattle.grasp_agent.proofs.prefix_agent.PrefixAgent.settle.Goals as goal

kept : (c : goal.After-settle) → IsKept (record (state_of c.self.inside) { pool = c.settle.new.self })
kept c =
    let s : AgentState = state_of c.self.inside
    in let has : Contains s.pool.doubtful c.args.prefix = subst (λ (x : AgentState). Contains x.pool.doubtful c.args.prefix) (sym c.self.view_is) c.requires
    in subst (λ (h : Holding). IsKept (record s { pool = h })) (sym c.settle.ensures.after) (kept_settling s c.args.prefix has c.self.invariant.kept)

pub invariant_of-self : goal.invariant_of-self
invariant_of-self c = record { kept = kept c; giving = c.self.invariant.giving; cursor = c.self.invariant.cursor }

pub returns-clause-kept : goal.returns-clause-kept
returns-clause-kept c = kept c
