use Rattle.grasp_kept.proofs.Begun.{begin_stops, begins_anew, can_open, turn_asked}
use Rattle.grasp_kept.proofs.beginning.begin_anew.Goals as goal

pub open_disk-requires-clause-can : goal.open_disk-requires-clause-can
open_disk-requires-clause-can c =
    can_open c.args.world.now c.args.keeper c.args.node c.args.left c.args.roots.now c.close-disk.result c.crash.new.self c.close-disk.ensures c.crash.ensures.leaves c.requires.can

pub turn-requires : goal.turn-requires
turn-requires c =
    turn_asked c.args.world.now c.args.keeper c.args.node c.args.left c.args.roots.now c.close-disk.result c.crash.new.self c.close-disk.ensures c.crash.ensures.leaves
    c.in-Ok.keeper c.in-Ok.ensures c.in-Ok-image-2.begun c.in-Ok-image-2.ensures c.requires.can

pub returns-in-Ok-turn : goal.returns-in-Ok-turn
returns-in-Ok-turn c =
    begins_anew c.args.world.now c.args.keeper c.args.node c.args.left c.args.roots.now c.close-disk.result c.crash.new.self c.close-disk.ensures c.crash.ensures.leaves
    c.in-Ok.keeper c.in-Ok.ensures c.in-Ok-image-2.begun c.in-Ok-image-2.ensures c.turn.new.self c.in-Ok-turn.field-0 c.in-Ok-turn.ensures c.in-Ok-image.image c.in-Ok-image.ensures

pub returns-in-Err : goal.returns-in-Err
returns-in-Err c =
    begin_stops c.args.world.now c.args.keeper c.args.node c.args.left c.args.roots.now c.close-disk.result c.crash.new.self c.close-disk.ensures c.crash.ensures.leaves
    c.in-Ok.keeper c.in-Ok.ensures c.in-Ok-image-2.begun c.in-Ok-image-2.ensures c.turn.new.self c.in-Err.stop c.in-Err.ensures
