use Rattle.grasp_pool.proofs.Opening.{roots_disjoint}
use Rattle.grasp_pool.proofs.roots.fill_roots.Goals as goal

pub fill-requires-clause-disjoint : goal.fill-requires-clause-disjoint
fill-requires-clause-disjoint c = roots_disjoint c.args.roots.now c.requires.valid c.requires.apart
