-- What the code keeps of a stream that is cut.
use Rattle.std.specs.Prelude.{◌≡◌, ℕ, ◌+◌, ◌-◌, List, ◌++◌, Option, Some, None, Result, Ok, Err, length, take, drop}
use Rattle.grasp_cbor.specs.Bytes.{AllBytes}
use Rattle.grasp_cbor.specs.DataItem.{DataItem}
use Rattle.grasp_cbor.specs.Ending.{IsWhole, IsPartial}
use Rattle.grasp_types.specs.declared.message.Message.{Message}
use Rattle.grasp_wire.specs.declared.fault.CutFault.{CutFault}
use Rattle.grasp_wire.specs.declared.fault.CutFault.TheVariants.{Malformed, NotText, TooDeep, TooLong, NotMessage, OutOfMemory}
use Rattle.grasp_wire.specs.declared.cutter.Cutter.{Cutter}
use Rattle.grasp_wire.specs.Wire.{IsWireForm, AreWireForms}
use Rattle.grasp_wire.specs.Stream.{RestKind, IsRest}
use Rattle.grasp_wire.specs.Reads.{fault_of}
use Rattle.grasp_wire.specs.Cutter.{Past, HasFault, lasting}

-- the greatest length of a message
abbrev pub cut_limit : Cutter → ℕ
cut_limit c = c.limit

-- how many bytes were fed
abbrev pub fed_count : Cutter → ℕ
fed_count c = c.fed

-- the bytes that are kept
abbrev pub rest_of : Cutter → List ℕ
rest_of c = drop c.start c.held.items

-- how many of them there are
abbrev pub waiting_count : Cutter → ℕ
waiting_count c = length (rest_of c)

-- how many bytes of the stream were taken
abbrev pub taken_count : Cutter → ℕ
taken_count c = c.taken

-- Inside: how many bytes of the stream were taken where this fault was met
abbrev pub taken_with : ℕ → CutFault → ℕ
taken_with limit (Malformed at) = at + 1
taken_with limit (NotText at) = at + 1
taken_with limit (TooDeep at) = at + 1
taken_with limit (TooLong at) = at + limit
taken_with limit (NotMessage at) = at
taken_with limit OutOfMemory = 0

-- Inside: how many bytes stand before these
abbrev pub before_of : Cutter → ℕ
before_of c = c.fed - length (rest_of c)

-- the messages that were given come first, and the rest is kept
pub record KeepsRest (c : Cutter) (past : Past) : Type 0 where
  pub front : List ℕ
  pub forms : AreWireForms past.given front (cut_limit c)
  pub parts : past.fed ≡ front ++ rest_of c

-- the rest is kept until its fault is known
abbrev pub KeepsUp : Option CutFault → Cutter → Past → Type 0
KeepsUp None c past = KeepsRest c past
KeepsUp (Some fault) c past = HasFault (cut_limit c) past fault

-- the cutter saw this
pub record Stands (c : Cutter) (past : Past) : Type 0 where
  pub bytes : AllBytes past.fed
  pub count : fed_count c ≡ length past.fed
  pub fault : past.fault ≡ c.fault
  pub keeps : KeepsUp past.fault c past

-- Inside: the same bytes are kept of as many, with the same limit
pub record IsSame (old new : Cutter) : Type 0 where
  pub rest : rest_of new ≡ rest_of old
  pub count : fed_count new ≡ fed_count old
  pub limit : cut_limit new ≡ cut_limit old

-- Inside: the rest, which so many bytes stand before, has this fault
pub record IsFaultOf (rest : List ℕ) (limit before : ℕ) (fault : CutFault) : Type 0 where
  pub kind : RestKind
  pub kind_is : IsRest rest limit kind
  pub fault_is : fault_of before kind ≡ Some fault

-- Inside: what begins the rest: an item of so many bytes, the beginning of one, or a fault
abbrev pub AnswersFound : List ℕ → ℕ → ℕ → Result (Option ℕ) CutFault → Type 0
AnswersFound rest limit before (Ok (Some used)) = (item : DataItem) × IsWhole rest limit item used
AnswersFound rest limit before (Ok None) = IsPartial rest limit
AnswersFound rest limit before (Err (NotMessage at)) = ⊥
AnswersFound rest limit before (Err fault) = IsFaultOf rest limit before fault × (lasting fault ≡ Some fault)

-- Inside: how many bytes of the stream were taken then
abbrev pub TakesFound : ℕ → ℕ → ℕ → Result (Option ℕ) CutFault → ℕ → Type 0
TakesFound limit before fed (Ok (Some used)) taken = taken ≡ before + used
TakesFound limit before fed (Ok None) taken = taken ≡ fed
TakesFound limit before fed (Err fault) taken = taken ≡ taken_with limit fault

-- Inside: what an item of so many bytes is: a message, or none
abbrev pub AnswersItem : List ℕ → ℕ → ℕ → ℕ → Result Message CutFault → Type 0
AnswersItem rest limit before used (Ok message) = IsWireForm message (take used rest) limit
AnswersItem rest limit before used (Err OutOfMemory) = Unit {0}
AnswersItem rest limit before used (Err (NotMessage at)) = IsFaultOf rest limit before (NotMessage at)
AnswersItem rest limit before used (Err fault) = ⊥

-- Inside: the fault that lasts after an answer
abbrev pub fault_in : {A : Type 0} → Result A CutFault → Option CutFault
fault_in (Ok x) = None
fault_in (Err fault) = lasting fault
