-- What the faults of a cutter tell.
use Rattle.std.specs.Prelude.{ℕ, ◌+◌, Option, Some, None}
use Rattle.grasp_cbor.specs.declared.walker.FaultName.{FaultName}
use Rattle.grasp_cbor.specs.declared.walker.FaultName.TheVariants as name
use Rattle.grasp_wire.specs.declared.fault.CutFault.{CutFault}
use Rattle.grasp_wire.specs.declared.fault.CutFault.TheVariants.{Malformed, NotText, TooDeep, TooLong, NotMessage}
use Rattle.grasp_wire.specs.Stream.{RestKind, waiting, too_long, not_message, faulty}

-- the fault of this name at this place
abbrev pub named : FaultName → ℕ → CutFault
named name.Malformed at = Malformed at
named name.NotText at = NotText at
named name.TooDeep at = TooDeep at

-- the fault that a rest has which so many bytes stand before: none while it is waiting
abbrev pub fault_of : ℕ → RestKind → Option CutFault
fault_of before waiting = None
fault_of before too_long = Some (TooLong before)
fault_of before not_message = Some (NotMessage before)
fault_of before (faulty name place) = Some (named name (before + place))
