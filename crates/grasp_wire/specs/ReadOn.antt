-- Inside: how the code reads on behind bytes that were read before.
use Rattle.std.specs.Prelude.{◌≡◌, ℕ, ◌+◌, ◌-◌, ◌<◌, ◌≤◌, Bool, true, false, List, [], ◌++◌, Option, Some, None, Result, Ok, Err, length, take}
use Rattle.grasp_cbor.specs.Bytes.{AllBytes}
use Rattle.grasp_cbor.specs.DataItem.{DataItem}
use Rattle.grasp_cbor.specs.Ending.{IsWhole, IsPartial}
use Rattle.grasp_cbor.specs.ItemReader.{Reading, EndsWith, fault_of, reader_limit}
use Rattle.grasp_cbor.specs.declared.item_reader.ItemReader.{ItemReader}
use Rattle.grasp_cbor.specs.declared.read.ItemFault.{ItemFault}
use Rattle.grasp_cbor.specs.declared.read.ItemFault.TheVariants as item_fault
use Rattle.grasp_wire.specs.declared.fault.CutFault.{CutFault}
use Rattle.grasp_wire.specs.declared.fault.CutFault.TheVariants.{Malformed, NotText, TooDeep, TooLong, OutOfMemory}

-- the reader took these bytes since the last whole item, met no fault, and they can go on within its limit
pub record IsOpen (reader : ItemReader) (bytes : List ℕ) : Type 0 where
  pub reading : Reading reader bytes
  pub no_fault : fault_of reader ≡ None
  pub are_bytes : AllBytes bytes
  pub waits : IsPartial bytes (reader_limit reader)

-- the reader is at the end of these bytes: it took them since the last whole item, or they are a whole item
abbrev pub IsAt : Bool → ItemReader → List ℕ → Type 0
IsAt false reader bytes = IsOpen reader bytes
IsAt true reader bytes = IsOpen reader [] × ((item : DataItem) × IsWhole bytes (reader_limit reader) item (length bytes))

-- the place in a fault of an item, or 0
abbrev pub place_in : ItemFault → ℕ
place_in (item_fault.Malformed at) = at
place_in (item_fault.NotText at) = at
place_in (item_fault.TooDeep at) = at
place_in item_fault.TooLong = 0
place_in item_fault.OutOfMemory = 0

-- how many bytes of an item were taken where this fault was met
abbrev pub taken_at : ℕ → ItemFault → ℕ
taken_at limit (item_fault.Malformed at) = at + 1
taken_at limit (item_fault.NotText at) = at + 1
taken_at limit (item_fault.TooDeep at) = at + 1
taken_at limit item_fault.TooLong = limit
taken_at limit item_fault.OutOfMemory = 0

-- the bytes end with this fault, which was met behind the first so many
pub record MeetsFault (front bytes : List ℕ) (limit : ℕ) (fault : ItemFault) : Type 0 where
  pub ends : EndsWith bytes limit fault
  pub later : length front < taken_at limit fault
  pub inside : taken_at limit fault ≤ length bytes

-- how many more bytes were taken behind so many
abbrev pub taken_more : ℕ → List ℕ → ℕ → Result (Option ℕ) ItemFault → ℕ
taken_more read more limit (Ok (Some used)) = used
taken_more read more limit (Ok None) = length more
taken_more read more limit (Err fault) = taken_at limit fault - read

-- how many bytes of the rest are taken then
abbrev pub taken_of : List ℕ → ℕ → Result (Option ℕ) ItemFault → ℕ
taken_of rest limit (Ok (Some used)) = used
taken_of rest limit (Ok None) = length rest
taken_of rest limit (Err fault) = taken_at limit fault

-- how reading more bytes behind these ends: with an item that takes so many of them, with none yet, or with a fault
abbrev pub AnswersRead : List ℕ → List ℕ → ℕ → Result (Option ℕ) ItemFault → Type 0
AnswersRead bytes more limit (Ok (Some used)) = (used ≤ length more) × ((item : DataItem) × IsWhole (bytes ++ more) limit item (length bytes + used))
AnswersRead bytes more limit (Ok None) = IsPartial (bytes ++ more) limit
AnswersRead bytes more limit (Err fault) = MeetsFault bytes (bytes ++ more) limit fault

-- what the reader stands for afterwards: no bytes after a whole item
abbrev pub IsOpenAfter : ItemReader → List ℕ → Result (Option ℕ) ItemFault → Type 0
IsOpenAfter reader bytes (Ok (Some used)) = IsOpen reader []
IsOpenAfter reader bytes (Ok None) = IsOpen reader bytes
IsOpenAfter reader bytes (Err fault) = Unit {0}

-- how reading all of a rest ends of which so many bytes were read: with an item of so many bytes, with none yet, or with a fault
abbrev pub AnswersRest : ℕ → List ℕ → ℕ → Result (Option ℕ) ItemFault → Type 0
AnswersRest read rest limit (Ok (Some used)) = (read ≤ used) × ((item : DataItem) × IsWhole rest limit item used)
AnswersRest read rest limit (Ok None) = IsPartial rest limit
AnswersRest read rest limit (Err fault) = MeetsFault (take read rest) rest limit fault

-- the reader is at the end of these bytes, and its limit is this, until a fault is known
abbrev pub IsReadTo : Option CutFault → Bool → ItemReader → ℕ → List ℕ → Type 0
IsReadTo None whole reader limit bytes = IsAt whole reader bytes × (reader_limit reader ≡ limit)
IsReadTo (Some fault) whole reader limit bytes = Unit {0}

-- a fault of an item, as a stream has it in which so many bytes stand before
abbrev pub cut_of : ℕ → ItemFault → CutFault
cut_of before (item_fault.Malformed at) = Malformed (before + at)
cut_of before (item_fault.NotText at) = NotText (before + at)
cut_of before (item_fault.TooDeep at) = TooDeep (before + at)
cut_of before item_fault.TooLong = TooLong before
cut_of before item_fault.OutOfMemory = OutOfMemory
