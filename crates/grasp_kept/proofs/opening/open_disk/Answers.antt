use Rattle.grasp_disk.specs.Memory.{log_from}
use Rattle.grasp_kept.proofs.Keepers.{only_memory, opened_keeps}
use Rattle.grasp_kept.proofs.opening.open_disk.Goals as goal

pub unreachable-requires : goal.unreachable-requires
unreachable-requires c =
    let d = c.requires.can in
    c.in_default.not-OutOfMemory (only_memory c.args.roots.now c.in-Err.unopened.disk d.bytes c.in-Err.unopened.fault d.sound c.requires.roots (c.in-Err.ensures.refused (log_from d.bytes) d.stands d.sound.size))

pub returns-in-Ok : goal.returns-in-Ok
returns-in-Ok c = λ bytes stands sound. opened_keeps c.args.roots.now c.in-Ok.keeper _ bytes (c.in-Ok.ensures.opened (log_from bytes) stands sound.size)
