use Rattle.grasp_cbor.specs.Item.{data_item_of}
use Rattle.grasp_cbor.specs.Shortest.{shortest}
use Rattle.grasp_cbor.proofs.Behind.{some_behind, none_behind}
use Rattle.grasp_cbor.proofs.compare.behind_shortest.Goals as goal

pub returns-clause-some : goal.returns-clause-some
returns-clause-some c = some_behind (shortest (data_item_of c.args.item.now)) c.args.bytes.now c.behind_item.result c.behind_item.ensures

pub returns-clause-none : goal.returns-clause-none
returns-clause-none c = none_behind (shortest (data_item_of c.args.item.now)) c.args.bytes.now c.behind_item.result c.behind_item.ensures
