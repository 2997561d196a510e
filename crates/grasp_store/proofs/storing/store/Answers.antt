use Rattle.std.proofs.lemmas.Result.{on_err_weaker}
use Rattle.grasp_cbor.proofs.Facts.Options.{on_err}
use Rattle.grasp_store.proofs.Asking.{clearing_fails, storing_fails}
use Rattle.grasp_store.proofs.storing.store.Goals as goal

pub returns-in_err-clear-clause-failed : goal.returns-in_err-clear-clause-failed
returns-in_err-clear-clause-failed g c =
    on_err c.from_residual.result
    (clearing_fails (g.D.Disk.stands c.args.disk.now) (g.D.Disk.stands c.clear.new.disk) (g.D.Disk.stands c.clear.new.disk) c.args.place c.args.body.now c.args.is_open c.in_err-clear.ensures.failed)

pub returns-clause-failed : goal.returns-clause-failed
returns-clause-failed g c =
    on_err_weaker c.fill.result
    (storing_fails (g.D.Disk.stands c.args.disk.now) (g.D.Disk.stands c.clear.new.disk) (g.D.Disk.stands c.fill.new.disk) c.args.place c.args.body.now c.args.is_open c.in_ok-clear.ensures.done)
    c.fill.ensures.failed
