use Rattle.std.proofs.Common.{rules, arith}
use Rattle.grasp_quick.proofs.PackedLines.{whole_packs}
use Rattle.grasp_quick.proofs.packed.packed_line.Goals as goal

pub returns-then-len-limit : goal.returns-then-len-limit
returns-then-len-limit c =
    whole_packs c.args.limit c.args.line.now c.in_ok-rest.rest.now c.clear.new.self c.quick_bytes.new.bytes c.in_ok-rest.ensures (search rules)
    c.clear.ensures (first_of (search rules, omega arith))
