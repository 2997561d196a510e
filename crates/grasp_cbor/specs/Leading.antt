-- What leads bytes: an item, the head of an array or a string of definite length, and then the rest (RFC 8949, section 3).
use Rattle.std.specs.Prelude.{◌≡◌, ℕ, List, ◌++◌}
use Rattle.grasp_cbor.specs.DataItem.{DataItem}
use Rattle.grasp_cbor.specs.Head.{IsHead}
use Rattle.grasp_cbor.specs.Encodes.{IsDefiniteString, IsEncoding}
use Rattle.grasp_cbor.specs.declared.heads.StringKind.{StringKind}
use Rattle.grasp_cbor.specs.declared.heads.StringKind.TheVariants.{Bytes, Text}

-- the bytes are an encoding of the item, and then the rest
pub record Leads (item : DataItem) (bytes rest : List ℕ) : Type 0 where
  pub front : List ℕ
  pub encoding : IsEncoding item front
  pub parts : bytes ≡ front ++ rest

-- the bytes are a head of an array of definite length of so many items, and then the rest (RFC 8949, section 3.2.2)
pub record LeadsArray (count : ℕ) (bytes rest : List ℕ) : Type 0 where
  pub head : List ℕ
  pub opens : IsHead 4 count head
  pub parts : bytes ≡ head ++ rest

-- the bytes are a string of definite length of this kind and content, and then the rest (RFC 8949, section 3.1)
pub record LeadsString (kind : StringKind) (content bytes rest : List ℕ) : Type 0 where
  pub front : List ℕ
  pub string : IsDefiniteString kind content front
  pub parts : bytes ≡ front ++ rest

-- the bytes are a byte string of definite length, and then the rest
abbrev pub LeadsBytes : List ℕ → List ℕ → List ℕ → Type 0
LeadsBytes content bytes rest = LeadsString Bytes content bytes rest

-- the bytes are a text string of definite length, and then the rest
abbrev pub LeadsText : List ℕ → List ℕ → List ℕ → Type 0
LeadsText content bytes rest = LeadsString Text content bytes rest
