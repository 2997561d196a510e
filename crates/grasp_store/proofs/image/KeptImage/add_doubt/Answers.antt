use Rattle.std.proofs.Common.{Contains, subst}
use Rattle.grasp_pool.specs.declared.image.PoolImage.{PoolImage}
use Rattle.grasp_store.proofs.image.KeptImage.add_doubt.Goals as goal

pub insert_prefix-requires-clause-is_new : goal.insert_prefix-requires-clause-is_new
insert_prefix-requires-clause-is_new c = λ q has. c.requires.is_new q (subst (λ (i : PoolImage). Contains i.doubtful q) c.self.view_is has)
