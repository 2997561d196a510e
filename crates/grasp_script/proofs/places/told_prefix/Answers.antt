use Rattle.grasp_script.proofs.WordReaders.{prefix_told}
use Rattle.grasp_script.proofs.places.told_prefix.Goals as goal

pub returns : goal.returns
returns c = prefix_told c.args.word.now c.prefix.result c.prefix.ensures.found c.prefix.ensures.valid c.prefix.ensures.none
