use Rattle.std.proofs.Common.{◌∙◌, ℕ, ap, true}
use Rattle.grasp_cbor.proofs.Facts.Options.{on_err}
use Rattle.grasp_disk.specs.Calls.{bytes_of, more, piece, read, synced}
use Rattle.grasp_store.proofs.Asking.{first_sync_fails, first_read_fails, second_read_fails}
use Rattle.grasp_store.proofs.opening.read_slots.Goals as goal

pub returns-in_err-sync-clause-failed : goal.returns-in_err-sync-clause-failed
returns-in_err-sync-clause-failed g c =
    on_err c.from_residual.result (λ log stands. first_sync_fails (g.D.Disk.stands c.sync.new.self) log (c.in_err-sync.ensures.asked log stands))

pub returns-in_err-read-clause-failed : goal.returns-in_err-read-clause-failed
returns-in_err-read-clause-failed g c =
    on_err c.from_residual-in_err-read.result (λ log stands. first_read_fails (g.D.Disk.stands c.read.new.self) log
    (c.in_err-read.ensures.asked (more log (synced true)) (c.in_ok-sync.ensures.asked log stands)))

pub returns-in_err-read-2-clause-failed : goal.returns-in_err-read-2-clause-failed
returns-in_err-read-2-clause-failed g c =
    on_err c.from_residual-in_err-read-2.result (λ log stands. second_read_fails (g.D.Disk.stands c.read-2.new.self) log
    (c.in_err-read-2.ensures.asked (more (more log (synced true)) (read true)) (c.in_ok-read.ensures.asked (more log (synced true)) (c.in_ok-sync.ensures.asked log stands))))

pub returns-clause-gives_first : goal.returns-clause-gives_first
returns-clause-gives_first g c = λ log stands.
    c.in_ok-read.ensures.gives (more log (synced true)) (c.in_ok-sync.ensures.asked log stands) ∙ ap (λ (n : ℕ). piece (bytes_of log) 0 n) c.requires.first

pub returns-clause-gives_second : goal.returns-clause-gives_second
returns-clause-gives_second g c = λ log stands.
    c.in_ok-read-2.ensures.gives (more (more log (synced true)) (read true)) (c.in_ok-read.ensures.asked (more log (synced true)) (c.in_ok-sync.ensures.asked log stands))
    ∙ ap (λ (n : ℕ). piece (bytes_of log) 70000 n) c.requires.second
