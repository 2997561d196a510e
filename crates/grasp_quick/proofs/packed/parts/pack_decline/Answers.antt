use Rattle.grasp_quick.proofs.PackedLines.{decline_packs}
use Rattle.grasp_quick.proofs.packed.parts.pack_decline.Goals as goal

pub returns : goal.returns
returns c =
    decline_packs c.args.line.now c.in_ok-rest.rest.now c.args.bytes.now c.put_head.new.self c.put_head-2.new.self c.in_ok-rest.ensures
    c.in_ok-put_head.ensures c.in_ok-put_head-2.ensures
