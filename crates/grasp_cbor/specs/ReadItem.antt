-- What the answers of `read_item` say.
use Rattle.std.specs.Prelude.{Option, Some, None, Result, Ok, Err}
use Rattle.grasp_cbor.specs.Item.{data_item_of}
use Rattle.grasp_cbor.specs.Ending.{Ending, whole, partial, too_long, faulty}
use Rattle.grasp_cbor.specs.declared.walker.FaultName.TheVariants as name
use Rattle.grasp_cbor.specs.declared.read.ReadItem.{ReadItem}
use Rattle.grasp_cbor.specs.declared.read.ReadItem.TheVariants.{Whole, Partial}
use Rattle.grasp_cbor.specs.declared.read.ItemFault.{ItemFault}
use Rattle.grasp_cbor.specs.declared.read.ItemFault.TheVariants.{Malformed, NotText, TooDeep, TooLong, OutOfMemory}

-- the ending that a fault tells: none for want of memory
abbrev pub fault_ending : ItemFault → Option Ending
fault_ending (Malformed at) = Some (faulty name.Malformed at)
fault_ending (NotText at) = Some (faulty name.NotText at)
fault_ending (TooDeep at) = Some (faulty name.TooDeep at)
fault_ending TooLong = Some too_long
fault_ending OutOfMemory = None

-- the ending that an answer tells: none for want of memory
abbrev pub ending_of : Result ReadItem ItemFault → Option Ending
ending_of (Ok (Whole item used)) = Some (whole (data_item_of item) used)
ending_of (Ok Partial) = Some partial
ending_of (Err fault) = fault_ending fault
