use Rattle.std.proofs.lemmas.Result.{on_err_weaker}
use Rattle.grasp_cbor.proofs.Facts.Options.{on_err}
use Rattle.grasp_store.proofs.Asking.{filling_fails, opening_fails}
use Rattle.grasp_store.proofs.storing.fill.Goals as goal

pub returns-in_err-put-clause-failed : goal.returns-in_err-put-clause-failed
returns-in_err-put-clause-failed g c =
    on_err c.from_residual.result
    (filling_fails (g.D.Disk.stands c.args.disk.now) (g.D.Disk.stands c.put.new.disk) (g.D.Disk.stands c.put.new.disk) c.args.place c.args.body.now c.gate.result c.gate.ensures c.in_err-put.ensures.failed)

pub returns-clause-failed : goal.returns-clause-failed
returns-clause-failed g c =
    on_err_weaker c.put-2.result
    (opening_fails (g.D.Disk.stands c.args.disk.now) (g.D.Disk.stands c.put.new.disk) (g.D.Disk.stands c.put-2.new.disk) c.args.place c.args.body.now c.gate.result c.gate-2.result c.gate.ensures
    c.gate-2.ensures c.in_ok-put.ensures.done)
    c.put-2.ensures.failed
