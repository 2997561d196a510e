use Rattle.std.proofs.Common.{rules}
use Rattle.grasp_cbor.proofs.Facts.Options.{on_err}
use Rattle.grasp_discovery.proofs.Cache.{some_live}
use Rattle.grasp_discovery.proofs.cached.CachedLocators.live.Goals as goal

pub returns-in_err-with_one_more-clause-wanted : goal.returns-in_err-with_one_more-clause-wanted
returns-in_err-with_one_more-clause-wanted c = on_err c.from_residual.result (some_live c.args.now c.args.self.now c.loop-cached.cached-index c.cached-item.result (search rules) (search rules) c.if-now-cached.true)
