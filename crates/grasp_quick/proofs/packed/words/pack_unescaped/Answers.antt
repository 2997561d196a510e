use Rattle.grasp_quick.proofs.PackedWords.{unescaped_found}
use Rattle.grasp_quick.proofs.packed.words.pack_unescaped.Goals as goal

pub returns : goal.returns
returns c =
    unescaped_found c.args.escaped.now c.in_ok-rest.rest.now c.args.bytes.now c.put_head.new.self c.put_unescaped.new.bytes c.bytes.result.now
    c.count_unescaped-count.result c.len-start.result
    c.in_ok-put_head.ensures c.len-start.ensures c.in_ok-rest.ensures c.bytes.ensures c.in-Ok.ensures.cases.1
