use Rattle.std.proofs.Common.{rules, ◌≤◌, ◌+◌, length}
use Rattle.grasp_replay_main.proofs.Counting.{room_for_line, all_counted}
use Rattle.grasp_replay_main.proofs.lines.count_lines.Goals as goal

pub overflow_add-count : goal.overflow_add-count
overflow_add-count c =
    let room : c.loop-rest.count + 1 ≤ length c.args.text.now = room_for_line c.args.text.now c.loop-rest.rest.now c.split_line.result.0.now _ c.loop-rest.count c.loop-rest.invariant c.split_line.ensures.first in
    search rules

pub returns : goal.returns
returns c = all_counted c.args.text.now c.loop-rest.rest.now c.loop-rest.count c.loop-rest.invariant (search rules)
