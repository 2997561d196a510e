use Rattle.std.proofs.Common.{rules}
use Rattle.grasp_pool.proofs.Opening.{no_root, valid_more, all_valid, if_some}
use Rattle.grasp_pool.proofs.roots.first_bad.Goals as goal

pub loop-i-preserved : goal.loop-i-preserved
loop-i-preserved c = valid_more c.args.roots.now c.loop-i.i no_root c.loop-i.invariant c.loop-i-test.true
    (if_some c.of.result _ c.is_none.result c.of.ensures.valid c.is_none.ensures c.if-is_none.false)

pub returns : goal.returns
returns c = all_valid c.args.roots.now c.loop-i.i (search rules) c.loop-i.invariant
