use Rattle.grasp_doubter.proofs.Listed.{listed_test}
use Rattle.grasp_doubter.proofs.prefixes.is_reserved.Goals as goal

pub returns : goal.returns
returns c = listed_test c.is_reserved.result c.args.pool.now.reserved c.args.prefix c.is_reserved.ensures
