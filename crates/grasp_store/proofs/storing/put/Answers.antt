use Rattle.grasp_cbor.proofs.Facts.Options.{on_err}
use Rattle.grasp_disk.specs.Calls.{more, wrote}
use Rattle.std.proofs.Common.{true}
use Rattle.grasp_store.proofs.Asking.{write_fails, sync_fails}
use Rattle.grasp_store.proofs.storing.put.Goals as goal

pub returns-in_err-write-clause-failed : goal.returns-in_err-write-clause-failed
returns-in_err-write-clause-failed g c =
    on_err c.from_residual.result (λ log stands. write_fails (g.D.Disk.stands c.write.new.self) log c.args.at c.args.bytes.now (c.in_err-write.ensures.spoilt log stands))

pub returns-in_err-sync-clause-failed : goal.returns-in_err-sync-clause-failed
returns-in_err-sync-clause-failed g c =
    on_err c.from_residual-in_err-sync.result (λ log stands. sync_fails (g.D.Disk.stands c.sync.new.self) log c.args.at c.args.bytes.now
    (c.in_err-sync.ensures.asked (more log (wrote c.args.at c.args.bytes.now true)) (c.in_ok-write.ensures.written log stands)))
