use Rattle.grasp_quick.proofs.Spelled.{found_is}
use Rattle.grasp_quick.proofs.PackedLines.{decline_for_packs}
use Rattle.grasp_quick.proofs.packed.parts.pack_reason.Goals as goal

pub returns : goal.returns
returns c = found_is _ _ c.pack_text.result c.pack_text.ensures (λ rest h.
    decline_for_packs c.args.line.now c.in_ok-rest.rest.now rest.now c.args.bytes.now c.put_head.new.self c.put_head-2.new.self c.pack_text.new.bytes
    c.in_ok-rest.ensures c.in_ok-put_head.ensures c.in_ok-put_head-2.ensures h)
