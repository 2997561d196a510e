use Rattle.std.proofs.Common.{rules}
use Rattle.grasp_quick.proofs.PackedWords.{number_packs}
use Rattle.grasp_quick.proofs.packed.words.pack_number.Goals as goal

pub returns : goal.returns
returns c =
    number_packs c.args.most c.in_ok-number.number c.args.line.now c.in_ok-word.word.now c.in_ok-number.rest.now c.args.bytes.now c.put_head.new.self
    c.in_ok-word.ensures c.in_ok-number.ensures (search rules) c.in_ok-put_head.ensures
