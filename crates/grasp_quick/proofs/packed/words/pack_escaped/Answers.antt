use Rattle.grasp_quick.proofs.PackedWords.{plain_found}
use Rattle.grasp_quick.proofs.packed.words.pack_escaped.Goals as goal

pub returns : goal.returns
returns c =
    plain_found c.args.escaped.now c.args.bytes.now c.put_string.new.self c.front_plain-plain.result c.front_plain-plain.ensures.plain
    c.in_ok-put_string.ensures
