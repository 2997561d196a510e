use Rattle.grasp_pool.proofs.Opening.{clash_of}
use Rattle.grasp_pool.proofs.roots.first_root_clash.Goals as goal

pub returns : goal.returns
returns c = clash_of c.args.roots.now c.first_clash.result c.first_clash.ensures
