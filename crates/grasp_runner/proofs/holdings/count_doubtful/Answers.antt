use Rattle.std.proofs.Common.{sym, ◌∙◌}
use Rattle.std.proofs.lemmas.Option.{none-some}
use Rattle.grasp_runner.proofs.Holding.{ends_here, goes_on}
use Rattle.grasp_runner.proofs.holdings.count_doubtful.Goals as goal

pub loop-i-preserved : goal.loop-i-preserved
loop-i-preserved c = goes_on c.args.pool.now.doubtful c.loop-i.i c.loop-i.invariant (λ none. none-some _ (sym none ∙ sym c.in-Some.ensures.at))

pub returns-in-None-clause-count : goal.returns-in-None-clause-count
returns-in-None-clause-count c = ends_here c.args.pool.now.doubtful c.loop-i.i c.loop-i.invariant (sym c.in-None.ensures.at)
