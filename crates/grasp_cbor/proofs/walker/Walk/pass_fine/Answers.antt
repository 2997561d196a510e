use Rattle.std.proofs.Common.{◌≡◌, ◌/◌, ◌%◌, ◌≤◌, None, length, ◌∙◌, arith}
use Rattle.grasp_cbor.specs.Step.{width_of}
use Rattle.grasp_cbor.specs.Walking.{open_levels}
use Rattle.grasp_cbor.proofs.Levels.{length-levels_in}
use Rattle.grasp_cbor.proofs.Rooms.{begins_with_room}
use Rattle.grasp_cbor.proofs.Passing.{run_wide}
use Rattle.grasp_cbor.proofs.walker.Walk.pass_fine.Goals as goal

pub pass_small-requires-clause-room : goal.pass_small-requires-clause-room
pass_small-requires-clause-room c =
    let range = c.args.self.now.in_range in
    rw c.of.ensures (begins_with_room (open_levels c.args.self.now) None c.args.self.now.depth (c.args.first / 32) (c.args.first % 32) (length-levels_in c.args.self.now.depth c.args.self.now.levels) (omega arith) (omega arith) (omega arith) c.requires.fine)

pub returns-then-pass_item-clause-passed : goal.returns-then-pass_item-clause-passed
returns-then-pass_item-clause-passed c =
    let old = c.args.self.now in
    let size = c.from-size.result in
    let width : size ≡ width_of (c.args.first % 32) = c.from-size.ensures ∙ c.width_at.ensures in
    let wide : 24 ≤ c.args.first % 32 = c.if-info-lt24.false in
    let low : c.args.first ≤ 27 = c.if-first-gt27.false in
    let inside : size ≤ length c.args.rest.now = c.if-rest-size.false in
    run_wide (open_levels old) old.string old.stage c.args.first c.args.rest.now size c.requires.stage c.requires.string c.requires.fine wide low width inside
    ∙ c.if-pass_item.ensures.moves
