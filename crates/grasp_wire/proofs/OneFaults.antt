-- Faults of all bytes of a datagram.
use Rattle.std.proofs.Common.{ℕ, List, Err, refl}
use Rattle.grasp_cbor.specs.ItemReader.{EndsWith}
use Rattle.grasp_cbor.specs.declared.walker.FaultName.TheVariants as name
use Rattle.grasp_cbor.specs.declared.read.ItemFault.{ItemFault}
use Rattle.grasp_cbor.specs.declared.read.ItemFault.TheVariants.{Malformed, NotText, TooDeep, TooLong, OutOfMemory}
use Rattle.grasp_wire.specs.declared.fault.OneFault.TheVariants.{Cut}
use Rattle.grasp_wire.specs.ReadOn.{cut_of}
use Rattle.grasp_wire.specs.Stream.{too_long, faulty}
use Rattle.grasp_wire.specs.One.{AnswersOne}

-- a fault of all the bytes
pub fault_alone : (bytes : List ℕ) (limit : ℕ) (f : ItemFault) → EndsWith bytes limit f → AnswersOne bytes limit (Err (Cut (cut_of 0 f)))
fault_alone bytes limit (Malformed at) h = record { kind = faulty name.Malformed at; kind_is = h; fault_is = refl }
fault_alone bytes limit (NotText at) h = record { kind = faulty name.NotText at; kind_is = h; fault_is = refl }
fault_alone bytes limit (TooDeep at) h = record { kind = faulty name.TooDeep at; kind_is = h; fault_is = refl }
fault_alone bytes limit TooLong h = record { kind = too_long; kind_is = h; fault_is = refl }
fault_alone bytes limit OutOfMemory h = absurd h
