-- Laws on encodings, on their beginnings and on faults.
use Rattle.std.specs.Prelude.{◌≡◌, ◌≤◌, ◌<◌, ◌^◌, ◌⊎◌, ℕ, List, [], ◌∷◌, ◌++◌, length, take}
use Rattle.grasp_cbor.specs.declared.walker.FaultName.{FaultName}
use Rattle.grasp_cbor.specs.DataItem.{DataItem, depth_of}
use Rattle.grasp_cbor.specs.Encodable.{IsEncodable}
use Rattle.grasp_cbor.specs.Encodes.{Encodes}
use Rattle.grasp_cbor.specs.Shortest.{shortest}
use Rattle.grasp_cbor.specs.Bytes.{AllBytes}
use Rattle.grasp_cbor.specs.CanGoOn.{IsItem, CanGoOn}
use Rattle.grasp_cbor.specs.Front.{Spot, Front, IsNamed}
use Rattle.grasp_cbor.specs.FaultAt.{FaultAt}
use Rattle.grasp_cbor.specs.Ending.{Ending, IsEnding}

-- the shortest encoding of an item is one of its encodings, where its numbers are in range and it nests at most 16 deep
abbrev pub ShortestEncodes : Type 0
ShortestEncodes = (item : DataItem) → IsEncodable item → depth_of item ≤ 16 → Encodes item (shortest item)

-- what fewer than 2 ^ 64 bytes encode has its numbers in range
abbrev pub EncodedAreEncodable : Type 0
EncodedAreEncodable = (item : DataItem) (bytes : List ℕ) → AllBytes bytes → length bytes < 2 ^ 64 → Encodes item bytes → IsEncodable item

-- bytes encode at most one item, and no encoding begins another
abbrev pub EncodingsAreApart : Type 0
EncodingsAreApart = (a b : DataItem) (s t more other : List ℕ) → Encodes a s → Encodes b t → s ++ more ≡ t ++ other → (a ≡ b) × (s ≡ t)

-- a front can go on
abbrev pub FrontsCanGoOn : Type 0
FrontsCanGoOn = (bytes : List ℕ) (spot : Spot) → Front bytes spot → CanGoOn bytes

-- what can go on is a front
abbrev pub WhatCanGoOnIsFront : Type 0
WhatCanGoOnIsFront = (bytes : List ℕ) → CanGoOn bytes → (spot : Spot) × Front bytes spot

-- the next byte of a front stands at one spot
abbrev pub FrontsHaveOneSpot : Type 0
FrontsHaveOneSpot = (bytes : List ℕ) (a b : Spot) → Front bytes a → Front bytes b → a ≡ b

-- a byte is taken behind these bytes: with it they are an item or can go on to one
abbrev pub Takes : List ℕ → ℕ → Type 0
Takes bytes byte = CanGoOn (bytes ++ byte ∷ []) ⊎ IsItem 16 (bytes ++ byte ∷ [])

-- at a front a byte is taken, or it has a fault
abbrev pub BytesAreTakenOrFaulty : Type 0
BytesAreTakenOrFaulty = (bytes : List ℕ) (spot : Spot) (byte : ℕ) → Front bytes spot → byte < 256 → Takes bytes byte ⊎ ((name : FaultName) × IsNamed spot byte name)

-- at a front a byte that is taken has no fault
abbrev pub TakenBytesAreNotFaulty : Type 0
TakenBytesAreNotFaulty = (bytes : List ℕ) (spot : Spot) (byte : ℕ) (name : FaultName) → Front bytes spot → Takes bytes byte → ¬ IsNamed spot byte name

-- bytes have at most one fault, at one place
abbrev pub FaultsAreAlone : Type 0
FaultsAreAlone = (bytes : List ℕ) (p q : ℕ) (a b : FaultName) → AllBytes bytes → FaultAt bytes p a → FaultAt bytes q b → (p ≡ q) × (a ≡ b)

-- all that comes before a fault can go on, so its place is the first one
abbrev pub FaultsAreFirst : Type 0
FaultsAreFirst = (bytes : List ℕ) (place k : ℕ) (name : FaultName) → AllBytes bytes → FaultAt bytes place name → k ≤ place → CanGoOn (take k bytes)

-- reading bytes within a limit has an ending
abbrev pub SomeEnding : Type 0
SomeEnding = (bytes : List ℕ) (limit : ℕ) → AllBytes bytes → (ending : Ending) × IsEnding bytes limit ending

-- reading bytes within a limit has at most one ending
abbrev pub OneEnding : Type 0
OneEnding = (bytes : List ℕ) (limit : ℕ) (a b : Ending) → AllBytes bytes → IsEnding bytes limit a → IsEnding bytes limit b → a ≡ b
