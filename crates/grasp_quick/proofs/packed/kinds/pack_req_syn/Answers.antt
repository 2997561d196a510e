use Rattle.grasp_quick.proofs.Spelled.{found_is}
use Rattle.grasp_quick.proofs.PackedLines.{req_syn_packs}
use Rattle.grasp_quick.proofs.packed.kinds.pack_req_syn.Goals as goal

pub returns : goal.returns
returns c = found_is _ _ c.pack_told.result c.pack_told.ensures (λ rest h.
    req_syn_packs c.args.line.now c.in_ok-rest.rest.now rest.now c.args.bytes.now c.pack_told.new.bytes c.in_ok-rest.ensures h)
