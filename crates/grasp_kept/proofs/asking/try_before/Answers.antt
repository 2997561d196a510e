use Rattle.grasp_kept.proofs.Keepers.{fails_for_disk}
use Rattle.grasp_kept.proofs.asking.try_before.Goals as goal

pub unreachable-requires : goal.unreachable-requires
unreachable-requires c =
    let g = c.requires.goes in
    c.in_default.not-DiskFault (fails_for_disk c.args.keeper.now c.before-2.new.self g.roots g.log _ c.in-Err.fault g.keeps g.few c.in-Err.ensures.answers)
