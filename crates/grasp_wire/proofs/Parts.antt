-- The parts of arrays.
use Rattle.std.proofs.Common.{◌≡◌, Some, List, ap}
use Rattle.grasp_cbor.proofs.Again.{items_in-data_items}
use Rattle.grasp_cbor.specs.DataItem.{DataItem, array_of}
use Rattle.grasp_wire.specs.Reading.{parts_in}

pub parts_in-array_of : (ts : List DataItem) → parts_in (array_of ts) ≡ Some ts
parts_in-array_of ts = ap Some (items_in-data_items ts)
