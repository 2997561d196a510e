use Rattle.std.proofs.Common.{◌≡◌, ◌+◌, ◌<◌, ◌≤◌, rules, arith}
use Rattle.grasp_store.specs.Slots.{free_count, doubtful_count}
use Rattle.grasp_store.proofs.Entries.{good_where_few, good_never}
use Rattle.grasp_store.proofs.slot.is_good.Goals as goal

pub returns-then-count-le-MOST_ENTRIES : goal.returns-then-count-le-MOST_ENTRIES
returns-then-count-le-MOST_ENTRIES c =
    let n = c.free_count.result + c.doubtful_count.result
    in let is : c.free_count.result + c.doubtful_count.result ≡ free_count c.args.bytes.now + doubtful_count c.args.bytes.now = omega (arith, c.free_count.ensures.is, c.doubtful_count.ensures.is)
    in let few : c.free_count.result + c.doubtful_count.result ≤ 4096 = search rules
    in good_where_few c.args.bytes.now n is few c.are_disjoint.result c.are_disjoint.ensures

pub returns-else-count-le-MOST_ENTRIES : goal.returns-else-count-le-MOST_ENTRIES
returns-else-count-le-MOST_ENTRIES c =
    let n = c.free_count.result + c.doubtful_count.result
    in let is : c.free_count.result + c.doubtful_count.result ≡ free_count c.args.bytes.now + doubtful_count c.args.bytes.now = omega (arith, c.free_count.ensures.is, c.doubtful_count.ensures.is)
    in let many : 4096 < c.free_count.result + c.doubtful_count.result = search rules
    in (λ t. absurd (search rules), λ good. absurd (good_never c.args.bytes.now n is many good))
