use Rattle.std.proofs.Common.{sym, ap, ◌∙◌}
use Rattle.grasp_cbor.specs.Item.{data_item_of, items_of}
use Rattle.grasp_cbor.proofs.Views.{data_item_of-List}
use Rattle.grasp_agent.specs.Values.{array_parts}
use Rattle.grasp_agent.proofs.Reading.{parts_again}
use Rattle.grasp_doubter.proofs.question.parts_in.Goals as goal

pub returns-in-List : goal.returns-in-List
returns-in-List c =
    let is = ap data_item_of c.in-List.is ∙ data_item_of-List c.in-List.parts
    in sym (ap array_parts (sym c.item.ensures.value ∙ is) ∙ parts_again (items_of c.in-List.parts))
