use Rattle.std.proofs.Common.{ap, ◌∙◌, arith, length}
use Rattle.grasp_runner.proofs.Holding.{count_more, counted_all, node_of, nothing_counted}
use Rattle.grasp_runner.proofs.holdings.count_held.Goals as goal

pub loop-before-init : goal.loop-before-init
loop-before-init c = (nothing_counted c.args.world.now (λ agent. length agent.pool.free) _ (omega arith), omega arith)

pub agent-requires : goal.agent-requires
agent-requires c = node_of c.args.world.now c.args.nodes c.loop-before.before c.requires (omega arith)

pub loop-before-preserved : goal.loop-before-preserved
loop-before-preserved c = (
  count_more c.args.world.now (λ agent. length agent.pool.free) c.args.nodes c.loop-before.before _ _ c.agent.result.now c.requires (omega arith) c.loop-before.invariant.0 c.agent.ensures
      (c.count_free-held.ensures.count ∙ ap (λ pool. length pool.free) c.pool.ensures.pool),
  omega (arith, c.loop-before.invariant.1, c.count_free-held.ensures.most),
)

pub returns : goal.returns
returns c = counted_all c.args.world.now (λ agent. length agent.pool.free) c.args.nodes c.loop-before.before _ c.requires (omega arith) c.loop-before.invariant.0
