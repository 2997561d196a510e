use Rattle.grasp_quick.proofs.Spelled.{found_is}
use Rattle.grasp_quick.proofs.Sequence.{known_port}
use Rattle.grasp_quick.proofs.places.spell_port_or_null.Goals as goal

pub returns : goal.returns
returns c = found_is _ _ c.below.result c.below.ensures (λ rest h. known_port c.args.bytes.now rest.now c.args.line.now c.below.new.line h)
