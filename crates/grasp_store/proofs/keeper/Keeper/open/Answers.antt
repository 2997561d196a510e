use Rattle.std.proofs.Common.{subst, sym}
use Rattle.grasp_store.specs.Keeping.{KeeperState, Opens}
use Rattle.grasp_store.proofs.Openings.{keeper_opens}
use Rattle.grasp_store.proofs.keeper.Keeper.open.Goals as goal

pub returns-in-Ok-clause-opened : goal.returns-in-Ok-clause-opened
returns-in-Ok-clause-opened g c = λ log stands size.
    subst (λ (k : KeeperState g.row.D.Denot). Opens g.D.Disk.stands c.args.roots.now k c.in-Ok.begun.agent log) (sym c.with.ensures)
    (keeper_opens g.D.Disk.stands c.args.roots.now log size c.begin.new.disk c.in-Ok.begun.position c.in-Ok.begun.memory.image c.in-Ok.begun.agent (c.in-Ok.ensures.begun log stands size))
