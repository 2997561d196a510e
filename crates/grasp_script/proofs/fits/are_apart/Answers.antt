use Rattle.std.proofs.Common.{refl}
use Rattle.grasp_pool.specs.Roots.{block_of}
use Rattle.grasp_script.proofs.Openings.{right_of}
use Rattle.grasp_script.proofs.fits.are_apart.Goals as goal

pub returns-else-last_address-second : goal.returns-else-last_address-second
returns-else-last_address-second c = right_of (block_of c.args.first) (block_of c.args.second) c.last_address.result c.last_address-else-last_address-second.result c.last_address.ensures c.last_address-else-last_address-second.ensures c.if-last_address-second.false _ refl
