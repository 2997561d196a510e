use Rattle.grasp_quick.proofs.Spelled.{found_is}
use Rattle.grasp_quick.proofs.MessageLines.{headed}
use Rattle.grasp_quick.proofs.parts.spell_verdict.Goals as goal

pub returns : goal.returns
returns c = found_is _ _ c.spell_verdict_of.result c.spell_verdict_of.ensures (λ rest h.
    headed c.in_ok-count.count c.in_ok-kind.kind _ _ _ c.args.bytes.now c.in_ok-count.rest.now c.in_ok-kind.rest.now rest.now c.args.line.now c.spell_verdict_of.new.line c.in_ok-count.ensures.some c.in_ok-kind.ensures.some h)
