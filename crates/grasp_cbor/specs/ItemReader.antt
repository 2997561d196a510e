-- What an `ItemReader` stands for, and what it answers.
use Rattle.std.specs.Prelude.{◌≡◌, ℕ, List, [], ◌∷◌, ◌++◌, Option, Some, None, Result, Ok, Err, IsSomeAnd, length, take}
use Rattle.grasp_cbor.specs.DataItem.{DataItem}
use Rattle.grasp_cbor.specs.Ending.{IsEnding, IsWhole, IsPartial}
use Rattle.grasp_cbor.specs.ReadItem.{fault_ending}
use Rattle.grasp_cbor.specs.Walking.{Took, limit_of, count_of}
use Rattle.grasp_cbor.specs.declared.read.ItemFault.{ItemFault}
use Rattle.grasp_cbor.specs.declared.walker.Taken.{Taken}
use Rattle.grasp_cbor.specs.declared.walker.Taken.TheVariants.{More, Whole}
use Rattle.grasp_cbor.specs.declared.walker.Walk.{Walk}
use Rattle.grasp_cbor.specs.declared.item_reader.ItemReader.{ItemReader}

-- the greatest length of an item
abbrev pub reader_limit : ItemReader → ℕ
reader_limit r = limit_of r.walk

-- reading the bytes ends with this fault
abbrev pub EndsWith : List ℕ → ℕ → ItemFault → Type 0
EndsWith bytes limit fault = IsSomeAnd (fault_ending fault) (IsEnding bytes limit)

-- the fault that it keeps, if it met one
abbrev pub fault_of : ItemReader → Option ItemFault
fault_of r = r.fault

abbrev pub Keeps : Option ItemFault → Walk → List ℕ → Type 0
Keeps None walk bytes = Took walk bytes
Keeps (Some fault) walk bytes = EndsWith bytes (limit_of walk) fault × (count_of walk ≡ length bytes)

-- the reader stands for these bytes: those that it took since the last whole item, up to and with one that met a fault
abbrev pub Reading : ItemReader → List ℕ → Type 0
Reading r bytes = Keeps r.fault r.walk bytes

-- the bytes of which the next answer speaks: after a fault none is taken
abbrev pub bytes_with : Option ItemFault → List ℕ → ℕ → List ℕ
bytes_with None bytes byte = bytes ++ byte ∷ []
bytes_with (Some fault) bytes byte = bytes

-- the bytes that it stands for after it passed over so many of these: after a fault none is taken
abbrev pub bytes_passed : Option ItemFault → List ℕ → List ℕ → ℕ → List ℕ
bytes_passed None bytes more passed = bytes ++ take passed more
bytes_passed (Some fault) bytes more passed = bytes

-- reading all of the bytes, up to the one that was just taken, ends as the answer says
abbrev pub AnswersTaken : List ℕ → ℕ → Result Taken ItemFault → Type 0
AnswersTaken bytes limit (Ok More) = IsPartial bytes limit
AnswersTaken bytes limit (Ok Whole) = (item : DataItem) × IsWhole bytes limit item (length bytes)
AnswersTaken bytes limit (Err fault) = EndsWith bytes limit fault

-- the bytes that the reader stands for afterwards: none after a whole item
abbrev pub bytes_after : List ℕ → Result Taken ItemFault → List ℕ
bytes_after bytes (Ok More) = bytes
bytes_after bytes (Ok Whole) = []
bytes_after bytes (Err fault) = bytes

-- the fault of an answer, if it is one
abbrev pub fault_in : Result Taken ItemFault → Option ItemFault
fault_in (Ok taken) = None
fault_in (Err fault) = Some fault
