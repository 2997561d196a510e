use Rattle.grasp_quick.proofs.Spelled.{found_is}
use Rattle.grasp_quick.proofs.Sequence.{known_proto}
use Rattle.grasp_quick.proofs.places.spell_proto_or_null.Goals as goal

pub returns : goal.returns
returns c = found_is _ _ c.spell_proto.result c.spell_proto.ensures (λ rest h. known_proto c.args.bytes.now rest.now c.args.line.now c.spell_proto.new.line h)
