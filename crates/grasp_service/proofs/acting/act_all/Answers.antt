use Rattle.std.proofs.Common.{◌<◌, length, arith}
use Rattle.std.proofs.lemmas.Result.{err_from_is_err_and}
use Rattle.grasp_service.proofs.Deeds.{acts_cut, acts_next}
use Rattle.grasp_service.proofs.acting.act_all.Goals as goal

pub returns-in_err-act : goal.returns-in_err-act
returns-in_err-act g c =
    let p = err_from_is_err_and c.from_residual.result c.from_residual.ensures.1 in
    let h : c.loop-i.i < length c.loop-i.crew = omega arith in
    rw (p.1, p.2)
    (acts_cut g.B.Disk.stands g.B.Disk.faults c.loop-i.i _ _ _ _ c.loop-i.crew _ _ _ _ c.index-crew-i.result _ c.loop-i.invariant h c.in_err-act.ensures)

pub loop-i-preserved : goal.loop-i-preserved
loop-i-preserved g c =
    let h : c.loop-i.i < length c.loop-i.crew = omega arith in
    acts_next g.B.Disk.stands g.B.Disk.faults c.loop-i.i c.args.core.now c.loop-i.core c.act.new.core c.args.crew.now c.loop-i.crew
    c.args.shelf.now c.loop-i.shelf c.act.new.shelf c.args.now c.index-crew-i.result c.act.new.servant c.loop-i.invariant h c.in_ok-act.ensures
