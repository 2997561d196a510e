use Rattle.std.proofs.Common.{sym, ap, ◌∙◌}
use Rattle.grasp_cbor.specs.Item.{data_item_of, items_of}
use Rattle.grasp_cbor.proofs.Views.{data_item_of-List}
use Rattle.grasp_wire.specs.Reading.{parts_in}
use Rattle.grasp_wire.proofs.Parts.{parts_in-array_of}
use Rattle.grasp_wire.proofs.reading.scalars.parts_of.Goals as goal

pub returns-in-List : goal.returns-in-List
returns-in-List c = let is = ap data_item_of c.in-List.is ∙ data_item_of-List c.in-List.parts in sym (ap parts_in is ∙ parts_in-array_of (items_of c.in-List.parts))
