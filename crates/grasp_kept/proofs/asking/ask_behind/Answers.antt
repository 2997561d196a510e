use Rattle.std.proofs.Common.{ap, Err}
use Rattle.grasp_disk.specs.Memory.{log_from}
use Rattle.grasp_kept.proofs.Failing.{behind_goes}
use Rattle.grasp_kept.proofs.Keepers.{fails_for_disk, saved_keeps}
use Rattle.grasp_kept.proofs.asking.ask_behind.Goals as goal

pub unreachable-requires : goal.unreachable-requires
unreachable-requires c =
    let n = c.requires in
    behind_goes c.args.keeper.now c.after.new.self c.args.agent.now n
    (c.in-Err.ensures.failed (ap Err (fails_for_disk c.args.keeper.now c.after.new.self n.roots (log_from n.bytes) _ c.in-Err.field-0 n.keeps n.few c.in-Err.ensures.answers)))

pub returns : goal.returns
returns c = λ roots bytes keeps. saved_keeps roots c.after.new.self bytes _ _ (c.in-Ok.ensures.done roots (log_from bytes) keeps)
