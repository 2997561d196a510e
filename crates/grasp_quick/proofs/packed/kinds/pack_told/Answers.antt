use Rattle.grasp_quick.proofs.Spelled.{found_is}
use Rattle.grasp_quick.proofs.PackedLines.{told_packs}
use Rattle.grasp_quick.proofs.packed.kinds.pack_told.Goals as goal

pub returns : goal.returns
returns c = found_is _ _ c.pack_objective.result c.pack_objective.ensures (λ rest h.
    told_packs c.args.kind c.args.line.now c.in_ok-rest.rest.now rest.now c.args.bytes.now c.put_head.new.self c.put_head-2.new.self
    c.pack_number.new.bytes c.pack_objective.new.bytes
    c.in_ok-put_head.ensures c.in_ok-put_head-2.ensures c.in_ok-rest.ensures h)
