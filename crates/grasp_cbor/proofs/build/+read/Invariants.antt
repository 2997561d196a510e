use Rattle.std.proofs.Common.{◌≡◌, ◌+◌, ◌*◌, ◌-◌, length}
use Rattle.grasp_cbor.specs.Item.{items_of, pairs_of}
use Rattle.grasp_cbor.specs.Build.{many_with, pair_with, open_with, alone, item_at, with_front}
use Rattle.grasp_cbor.proofs.Takes.{IsBytes}
use Rattle.grasp_cbor.proofs.build.+read.Given as goal

abbrev pub decreases-read_whole : goal.decreases-read_whole
decreases-read_whole l = 8 * l.depth + 2

abbrev pub decreases-read_content : goal.decreases-read_content
decreases-read_content l = 8 * l.depth + 1

abbrev pub decreases-read_nested : goal.decreases-read_nested
decreases-read_nested l = 8 * l.depth

abbrev pub decreases-read_parts : goal.decreases-read_parts
decreases-read_parts l = 8 * l.depth + 5

abbrev pub decreases-read_items : goal.decreases-read_items
decreases-read_items l = 8 * l.depth + 4

abbrev pub decreases-read_pairs : goal.decreases-read_pairs
decreases-read_pairs l = 8 * l.depth + 4

abbrev pub decreases-read_pair : goal.decreases-read_pair
decreases-read_pair l = 8 * l.depth + 3

abbrev pub invariant-read_items-loop : goal.invariant-read_items-loop
invariant-read_items-loop l =
    with_front (items_of l.items) (many_with (item_at l.depth) (l.count - l.counter) l.rest) ≡ many_with (item_at l.depth) l.count l.bytes

abbrev pub invariant-read_pairs-loop : goal.invariant-read_pairs-loop
invariant-read_pairs-loop l =
    with_front (pairs_of l.pairs) (many_with (pair_with (item_at l.depth)) (l.count - l.counter) l.rest) ≡ many_with (pair_with (item_at l.depth)) l.count l.bytes

abbrev pub decreases-read_opened : goal.decreases-read_opened
decreases-read_opened l = 8 * l.depth + 1

abbrev pub decreases-read_open_items : goal.decreases-read_open_items
decreases-read_open_items l = 8 * l.depth + 4

abbrev pub decreases-read_open_pairs : goal.decreases-read_open_pairs
decreases-read_open_pairs l = 8 * l.depth + 4

abbrev pub invariant-read_open_items-loop-after : goal.invariant-read_open_items-loop-after
invariant-read_open_items-loop-after l = (with_front (items_of l.items) (open_with (alone (item_at l.depth)) l.rest) ≡ open_with (alone (item_at l.depth))
    l.bytes) × IsBytes l.rest

abbrev pub decreases-read_open_items-loop-after : goal.decreases-read_open_items-loop-after
decreases-read_open_items-loop-after l = length l.rest

abbrev pub invariant-read_open_pairs-loop-after : goal.invariant-read_open_pairs-loop-after
invariant-read_open_pairs-loop-after l = (with_front (pairs_of l.pairs) (open_with (alone (pair_with (item_at l.depth))) l.rest) ≡ open_with
    (alone (pair_with (item_at l.depth))) l.bytes) × IsBytes l.rest

abbrev pub decreases-read_open_pairs-loop-after : goal.decreases-read_open_pairs-loop-after
decreases-read_open_pairs-loop-after l = length l.rest
