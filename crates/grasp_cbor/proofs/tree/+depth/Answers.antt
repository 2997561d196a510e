use Rattle.std.proofs.Common.{arith}
use Rattle.grasp_cbor.proofs.Depths.{items_depth_more, pairs_depth_more}
use Rattle.grasp_cbor.proofs.tree.+depth.Goals as goal

pub Items::deepest-loop-item-preserved : goal.Items::deepest-loop-item-preserved
Items::deepest-loop-item-preserved t c = omega (arith, items_depth_more c.deref-item-items.result.now c.loop-item.item-index c.item-item.result c.loop-item-test.true c.item-item.is)

pub Pairs::deepest-loop-key-preserved : goal.Pairs::deepest-loop-key-preserved
Pairs::deepest-loop-key-preserved t c = omega (arith, pairs_depth_more c.deref-key-items.result.now c.loop-key.key-index c.loop-key-item.result c.loop-key-test.true c.loop-key-item.is)
