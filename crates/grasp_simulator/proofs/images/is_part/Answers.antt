use Rattle.std.proofs.Common.{rules}
use Rattle.grasp_simulator.proofs.ImageParts.{never, inside_of, meets_of, too_short}
use Rattle.grasp_simulator.proofs.images.is_part.Goals as goal

pub returns-then-length : goal.returns-then-length
returns-then-length c = never (λ inside. too_short c.args.whole c.args.prefix c.length.result c.length-2.result c.length-2.ensures.valid c.length.ensures.value c.length-2.ensures.value (search rules) inside)

pub returns : goal.returns
returns c = (
  λ t. inside_of c.args.whole c.args.prefix c.length-2.ensures.valid c.length.ensures.valid (search rules) (c.overlaps.ensures.0 t),
  λ inside. c.overlaps.ensures.1 (meets_of c.args.whole c.args.prefix inside),
)
