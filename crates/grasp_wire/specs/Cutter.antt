-- What a cutter stands for, and what it answers.
use Rattle.std.specs.Prelude.{◌≡◌, ℕ, ◌+◌, List, [], ◌∷◌, ◌++◌, Option, Some, None, Result, Ok, Err, length}
use Rattle.grasp_cbor.specs.DataItem.{DataItem}
use Rattle.grasp_cbor.specs.Ending.{IsWhole}
use Rattle.grasp_types.specs.declared.message.Message.{Message}
use Rattle.grasp_wire.specs.declared.fault.CutFault.{CutFault}
use Rattle.grasp_wire.specs.declared.fault.CutFault.TheVariants.{Malformed, NotText, TooDeep, TooLong, NotMessage, OutOfMemory}
use Rattle.grasp_wire.specs.Wire.{AreWireForms}
use Rattle.grasp_wire.specs.Stream.{Divides, RestKind, waiting}
use Rattle.grasp_wire.specs.Reads.{fault_of}

-- the bytes that were fed since the beginning, the messages that were given, and the fault that was answered, but for
-- want of memory
pub record Past : Type 0 where
  pub fed : List ℕ
  pub given : List Message
  pub fault : Option CutFault

-- before the first byte
abbrev pub no_past : Past
no_past = record { fed = []; given = []; fault = None }

-- after this piece was fed
abbrev pub after_feed : Past → List ℕ → Past
after_feed past piece = record past { fed = past.fed ++ piece }

-- the fault lasts: every fault but want of memory does
abbrev pub lasting : CutFault → Option CutFault
lasting (Malformed at) = Some (Malformed at)
lasting (NotText at) = Some (NotText at)
lasting (TooDeep at) = Some (TooDeep at)
lasting (TooLong at) = Some (TooLong at)
lasting (NotMessage at) = Some (NotMessage at)
lasting OutOfMemory = None

-- after this fault, or what stood before where it doesn't last
abbrev pub fault_after : Option CutFault → Option CutFault → Option CutFault
fault_after before None = before
fault_after before (Some fault) = Some fault

-- after this answer was given
abbrev pub after_next : Past → Result (Option Message) CutFault → Past
after_next past (Ok (Some message)) = record past { given = past.given ++ message ∷ [] }
after_next past (Ok None) = past
after_next past (Err fault) = record past { fault = fault_after past.fault (lasting fault) }

-- the stream begins with the wire forms of these messages
pub record BeginsWith (stream : List ℕ) (limit : ℕ) (messages : List Message) : Type 0 where
  pub front : List ℕ
  pub rest : List ℕ
  pub forms : AreWireForms messages front limit
  pub parts : stream ≡ front ++ rest

-- all messages of the stream were given, and its rest is waiting
pub record Waits (limit : ℕ) (past : Past) : Type 0 where
  pub rest : List ℕ
  pub divides : Divides past.fed limit past.given rest waiting

-- all messages of the stream were given, and its rest, which so many bytes stand before, has this fault
pub record HasFault (limit : ℕ) (past : Past) (fault : CutFault) : Type 0 where
  pub front : List ℕ
  pub rest : List ℕ
  pub kind : RestKind
  pub parts : past.fed ≡ front ++ rest
  pub divides : Divides past.fed limit past.given rest kind
  pub fault_is : fault_of (length front) kind ≡ Some fault

-- a whole item stands behind the messages that were given
pub record HasWhole (limit : ℕ) (past : Past) : Type 0 where
  pub front : List ℕ
  pub rest : List ℕ
  pub item : DataItem
  pub used : ℕ
  pub forms : AreWireForms past.given front limit
  pub parts : past.fed ≡ front ++ rest
  pub whole : IsWhole rest limit item used

-- what is answered before a fault lasts: the next message of the stream, none while its rest is waiting, or the fault
-- of the rest; memory is wanted for a whole item alone
abbrev pub Finds : ℕ → Past → Result (Option Message) CutFault → Type 0
Finds limit past (Ok (Some message)) = BeginsWith past.fed limit (past.given ++ message ∷ [])
Finds limit past (Ok None) = Waits limit past
Finds limit past (Err OutOfMemory) = HasWhole limit past
Finds limit past (Err fault) = HasFault limit past fault

-- a fault that lasts is answered again
abbrev pub AnswersNext : ℕ → Past → Option CutFault → Result (Option Message) CutFault → Type 0
AnswersNext limit past None result = Finds limit past result
AnswersNext limit past (Some fault) result = result ≡ Err fault

-- so many bytes of the stream are those up to the end of the item that stands behind the messages that were given
pub record TakesItem (limit : ℕ) (past : Past) (taken : ℕ) : Type 0 where
  pub front : List ℕ
  pub rest : List ℕ
  pub item : DataItem
  pub used : ℕ
  pub forms : AreWireForms past.given front limit
  pub parts : past.fed ≡ front ++ rest
  pub whole : IsWhole rest limit item used
  pub taken_is : taken ≡ length front + used

-- how many bytes of the stream were taken for an answer: all that were fed while its rest is waiting; those up to the end of an
-- item, whether it is a message, none, or not yet known to be one for want of memory; as many as a message may have, of one that
-- is too long; or all up to and with the one that has the fault
abbrev pub TakesTo : ℕ → Past → Result (Option Message) CutFault → ℕ → Type 0
TakesTo limit past (Ok None) taken = taken ≡ length past.fed
TakesTo limit past (Ok (Some message)) taken = TakesItem limit past taken
TakesTo limit past (Err OutOfMemory) taken = TakesItem limit past taken
TakesTo limit past (Err (NotMessage at)) taken = TakesItem limit past taken
TakesTo limit past (Err (TooLong at)) taken = taken ≡ at + limit
TakesTo limit past (Err (Malformed at)) taken = taken ≡ at + 1
TakesTo limit past (Err (NotText at)) taken = taken ≡ at + 1
TakesTo limit past (Err (TooDeep at)) taken = taken ≡ at + 1

-- how many bytes of the stream were taken once this is answered: after a fault that lasts, as many as before
abbrev pub Takes : ℕ → Past → Option CutFault → Result (Option Message) CutFault → ℕ → ℕ → Type 0
Takes limit past None result before taken = TakesTo limit past result taken
Takes limit past (Some fault) result before taken = taken ≡ before

-- so many bytes stand behind the messages that were given
pub record HasRest (limit : ℕ) (past : Past) (count : ℕ) : Type 0 where
  pub front : List ℕ
  pub rest : List ℕ
  pub forms : AreWireForms past.given front limit
  pub parts : past.fed ≡ front ++ rest
  pub count_is : count ≡ length rest

-- the number counts the bytes of the rest; it is none after a fault that lasts
abbrev pub CountsRest : ℕ → Past → Option CutFault → ℕ → Type 0
CountsRest limit past None count = HasRest limit past count
CountsRest limit past (Some fault) count = count ≡ 0
