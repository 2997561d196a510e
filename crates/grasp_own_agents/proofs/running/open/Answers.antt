use Rattle.std.proofs.lemmas.Result.{err_from_is_err_and}
use Rattle.grasp_own_agents.proofs.Turns.{opened_more, opened_some}
use Rattle.grasp_own_agents.proofs.running.open.Goals as goal

pub returns-in_err-act_all : goal.returns-in_err-act_all
returns-in_err-act_all g c =
    let p = err_from_is_err_and c.from_residual.result c.from_residual.ensures.1 in
    rw p.1 (opened_some g.A.Agent _ _ _ _ _ _ c.loop-i.invariant c.in_err-act_all.ensures)

pub loop-i-preserved : goal.loop-i-preserved
loop-i-preserved g c = opened_more g.A.Agent _ _ _ _ _ _ _ c.loop-i.invariant c.in_ok-act_all.ensures
