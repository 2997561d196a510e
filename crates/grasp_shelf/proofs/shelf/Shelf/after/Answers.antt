use Rattle.std.proofs.Common.{◌≡◌, Some, refl, rules}
use Rattle.grasp_shelf.proofs.Keeping.{behind_kept}
use Rattle.grasp_shelf.proofs.shelf.Shelf.after.Goals as goal

pub returns-clause-kept : goal.returns-clause-kept
returns-clause-kept g c =
    let was : c.args.self.now.keeper ≡ Some c.in-Some.keeper = search rules in
    let e = c.after.ensures in
    behind_kept g.B.Disk.stands g.B.Disk.faults c.args.self.now _ c.in-Some.keeper c.after.new.self was refl c.args.agent.now c.after.result e.done e.failed
    e.answers e.stops e.never_falls
