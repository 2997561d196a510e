use Rattle.std.proofs.Common.{rules}
use Rattle.grasp_quick.proofs.PackedWords.{value_found}
use Rattle.grasp_quick.proofs.packed.words.pack_value.Goals as goal

pub returns : goal.returns
returns c =
    value_found c.args.digits.now c.args.bytes.now c.put_front_bytes-count.new.self c.bytes.result.now c.in_ok-behind.behind.now
    c.put_front_bytes-count.result c.len-start.result
    c.put_front_bytes-count.ensures c.len-start.ensures c.bytes.ensures c.in_ok-behind.ensures (search rules)
