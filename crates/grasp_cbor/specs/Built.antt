-- Inside: what it means that an item was made of bytes.
use Rattle.std.specs.Prelude.{◌≡◌, ◌≤◌, ℕ, List, ◌++◌}
use Rattle.grasp_cbor.specs.DataItem.{DataItem, depth_of}
use Rattle.grasp_cbor.specs.Encodes.{IsEncoding}

-- the bytes are an encoding of the item, which is so deep at most, and then the rest
pub record IsBuilt (depth : ℕ) (s : List ℕ) (item : DataItem) (rest : List ℕ) : Type 0 where
  pub front : List ℕ
  pub encoding : IsEncoding item front
  pub parts : s ≡ front ++ rest
  pub within : depth_of item ≤ depth
