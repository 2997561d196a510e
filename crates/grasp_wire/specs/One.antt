-- What `decode_one` answers.
use Rattle.std.specs.Prelude.{◌≡◌, ◌<◌, ℕ, List, Some, Result, Ok, Err, length, take}
use Rattle.grasp_cbor.specs.DataItem.{DataItem}
use Rattle.grasp_cbor.specs.Ending.{IsWhole}
use Rattle.grasp_types.specs.declared.message.Message.{Message}
use Rattle.grasp_wire.specs.declared.fault.CutFault.{CutFault}
use Rattle.grasp_wire.specs.declared.fault.CutFault.TheVariants.{OutOfMemory}
use Rattle.grasp_wire.specs.declared.fault.OneFault.{OneFault}
use Rattle.grasp_wire.specs.declared.fault.OneFault.TheVariants.{Cut, Truncated, Trailing}
use Rattle.grasp_wire.specs.Wire.{IsWireForm}
use Rattle.grasp_wire.specs.Stream.{RestKind, IsRest, waiting}
use Rattle.grasp_wire.specs.Reads.{fault_of}

-- the bytes have this fault
pub record HasFaultAlone (bytes : List ℕ) (limit : ℕ) (fault : CutFault) : Type 0 where
  pub kind : RestKind
  pub kind_is : IsRest bytes limit kind
  pub fault_is : fault_of 0 kind ≡ Some fault

-- all bytes are the beginning of an item, and fewer than the limit
pub record IsTruncated (bytes : List ℕ) (limit at : ℕ) : Type 0 where
  pub waits : IsRest bytes limit waiting
  pub at_is : at ≡ length bytes

-- a message of so many bytes begins the bytes, and others follow
pub record HasTrailing (bytes : List ℕ) (limit at : ℕ) : Type 0 where
  pub message : Message
  pub form : IsWireForm message (take at bytes) limit
  pub more : at < length bytes

-- a whole item begins the bytes
pub record BeginsWithItem (bytes : List ℕ) (limit : ℕ) : Type 0 where
  pub item : DataItem
  pub used : ℕ
  pub whole : IsWhole bytes limit item used

-- the answer is so; memory is wanted for a whole item alone
abbrev pub AnswersOne : List ℕ → ℕ → Result Message OneFault → Type 0
AnswersOne bytes limit (Ok message) = IsWireForm message bytes limit
AnswersOne bytes limit (Err (Cut OutOfMemory)) = BeginsWithItem bytes limit
AnswersOne bytes limit (Err (Cut fault)) = HasFaultAlone bytes limit fault
AnswersOne bytes limit (Err (Truncated at)) = IsTruncated bytes limit at
AnswersOne bytes limit (Err (Trailing at)) = HasTrailing bytes limit at

-- Inside: an item of so many bytes begins the bytes, or the answer is so
abbrev pub AnswersFirst : List ℕ → ℕ → Result ℕ OneFault → Type 0
AnswersFirst bytes limit (Ok used) = (item : DataItem) × IsWhole bytes limit item used
AnswersFirst bytes limit (Err fault) = AnswersOne bytes limit (Err fault)
