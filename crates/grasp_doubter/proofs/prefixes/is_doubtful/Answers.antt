use Rattle.grasp_doubter.proofs.Listed.{listed_test}
use Rattle.grasp_doubter.proofs.prefixes.is_doubtful.Goals as goal

pub returns : goal.returns
returns c = listed_test c.is_doubtful.result c.args.pool.now.doubtful c.args.prefix c.is_doubtful.ensures
