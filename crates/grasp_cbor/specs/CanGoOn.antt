-- Which bytes are an item, and which can go on to one.
use Rattle.std.specs.Prelude.{ℕ, ◌≤◌, List, [], ◌∷◌, ◌++◌}
use Rattle.grasp_cbor.specs.Bytes.{AllBytes}
use Rattle.grasp_cbor.specs.DataItem.{DataItem, depth_of}
use Rattle.grasp_cbor.specs.Encodes.{IsEncoding}

-- the bytes are an encoding of some item that nests so deep at most
pub record IsItem (depth : ℕ) (s : List ℕ) : Type 0 where
  pub item : DataItem
  pub encoding : IsEncoding item s
  pub within : depth_of item ≤ depth

-- some bytes that aren't empty complete these to an item that nests so deep at most
abbrev pub CanGoOnWithin : ℕ → List ℕ → Type 0
CanGoOnWithin depth s = (next : ℕ) × (more : List ℕ) × IsItem depth (s ++ next ∷ more) × AllBytes (next ∷ more)

-- some bytes that aren't empty complete these to an item: a beginning of well-formed data that isn't whole
-- (RFC 8949, section 1.2 and appendix F)
abbrev pub CanGoOn : List ℕ → Type 0
CanGoOn s = CanGoOnWithin 16 s

-- each is an item that nests so deep at most
abbrev pub AreItems : ℕ → List (List ℕ) → Type 0
AreItems depth [] = Unit {0}
AreItems depth (w ∷ ws) = IsItem depth w × AreItems depth ws
