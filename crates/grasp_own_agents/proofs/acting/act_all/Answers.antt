use Rattle.std.proofs.Common.{◌<◌, length, arith}
use Rattle.std.proofs.lemmas.Result.{err_from_is_err_and}
use Rattle.grasp_own_agents.proofs.Calls.{acts_cut, acts_next}
use Rattle.grasp_own_agents.proofs.acting.act_all.Goals as goal

pub returns-in_err-act : goal.returns-in_err-act
returns-in_err-act g c =
    let p = err_from_is_err_and c.from_residual.result c.from_residual.ensures.1 in
    rw p.1 (acts_cut g.A.Agent _ _ _ _ _ _ c.loop-i.invariant c.in_err-act.ensures)

pub loop-i-preserved : goal.loop-i-preserved
loop-i-preserved g c =
    let h : c.loop-i.i < length c.loop-i.agents = omega arith in
    acts_next g.A.Agent c.loop-i.i c.args.core.now c.loop-i.core c.act.new.core c.args.agents.now c.loop-i.agents c.index-agents-i.result c.act.new.agent c.loop-i.invariant h c.in_ok-act.ensures
