-- Which bytes encode a data item (RFC 8949, section 3).
use Rattle.std.specs.Prelude.{◌≡◌, ◌⊎◌, ℕ, ◌+◌, ◌*◌, ◌^◌, ◌<◌, ◌≤◌, ◌∷◌, List, [], ◌++◌, length}
use Rattle.std.specs.Int.{w16, w32, w64, to_be_bytes}
use Rattle.std.specs.Str.{IsUtf8}
use Rattle.grasp_cbor.specs.Bytes.{joined}
use Rattle.grasp_cbor.specs.Simple.{IsSimple}
use Rattle.grasp_cbor.specs.DataItem.{DataItem, DataItems, DataPairs, unsigned, negative, byte_string, text_string, array, mapping, tagged, simple_value, half_float, single_float, double_float, no_items, item_and, no_pairs, pair_and, item_count, pair_count, depth_of}
use Rattle.grasp_cbor.specs.Head.{IsHead, simple_head}
use Rattle.grasp_cbor.specs.declared.heads.StringKind.{StringKind}
use Rattle.grasp_cbor.specs.declared.heads.StringKind.TheVariants.{Bytes, Text}

-- the major type of a kind of string
abbrev pub string_major : StringKind → ℕ
string_major Bytes = 2
string_major Text = 3

-- what a string of this kind may hold: a text holds UTF-8 (RFC 8949, section 3.1)
abbrev pub IsContent : StringKind → List ℕ → Type 0
IsContent Bytes content = Unit {0}
IsContent Text content = IsUtf8 content

-- a string of definite length: a head with its length, and then its content (RFC 8949, section 3.1)
pub record IsDefiniteString (kind : StringKind) (content s : List ℕ) : Type 0 where
  pub head : List ℕ
  pub opens : IsHead (string_major kind) (length content) head
  pub fine : IsContent kind content
  pub form : s ≡ head ++ content

-- strings of definite length of one kind, with these contents, one after another
abbrev pub AreChunks : StringKind → List (List ℕ) → List ℕ → Type 0
AreChunks kind [] s = s ≡ []
AreChunks kind (c ∷ cs) s = (first rest : List ℕ) × IsDefiniteString kind c first × AreChunks kind cs rest × (s ≡ first ++ rest)

-- a string of indefinite length: an initial byte, chunks of the same kind, of which the content is joined, and a break
-- (RFC 8949, section 3.2.3)
pub record IsIndefiniteString (kind : StringKind) (content s : List ℕ) : Type 0 where
  pub chunks : List (List ℕ)
  pub body : List ℕ
  pub each : AreChunks kind chunks body
  pub joins : content ≡ joined chunks
  pub form : s ≡ (32 * string_major kind + 31) ∷ (body ++ 255 ∷ [])

-- a string of either form
abbrev pub IsString : StringKind → List ℕ → List ℕ → Type 0
IsString kind content s = IsDefiniteString kind content s ⊎ IsIndefiniteString kind content s

abbrev mutual
  -- the bytes are an encoding of the item, however deep it nests, with heads of any size (RFC 8949, section 3.1), and arrays
  -- and maps of definite length or up to a break (section 3.2.2)
  pub IsEncoding : DataItem → List ℕ → Type 0
  IsEncoding (unsigned n) s = IsHead 0 n s
  IsEncoding (negative n) s = IsHead 1 n s
  IsEncoding (byte_string bs) s = IsString Bytes bs s
  IsEncoding (text_string bs) s = IsString Text bs s
  IsEncoding (array ts) s =
      ((head rest : List ℕ) × IsHead 4 (item_count ts) head × AreEncodings ts rest × (s ≡ head ++ rest))
      ⊎ ((rest : List ℕ) × AreEncodings ts rest × (s ≡ 159 ∷ (rest ++ 255 ∷ [])))
  IsEncoding (mapping es) s =
      ((head rest : List ℕ) × IsHead 5 (pair_count es) head × ArePairEncodings es rest × (s ≡ head ++ rest))
      ⊎ ((rest : List ℕ) × ArePairEncodings es rest × (s ≡ 191 ∷ (rest ++ 255 ∷ [])))
  IsEncoding (tagged n t) s = (head rest : List ℕ) × IsHead 6 n head × IsEncoding t rest × (s ≡ head ++ rest)
  IsEncoding (simple_value n) s = IsSimple n × (n < 2 ^ 8) × (s ≡ simple_head n)
  IsEncoding (half_float n) s = (n < 2 ^ 16) × (s ≡ 249 ∷ to_be_bytes w16 n)
  IsEncoding (single_float n) s = (n < 2 ^ 32) × (s ≡ 250 ∷ to_be_bytes w32 n)
  IsEncoding (double_float n) s = (n < 2 ^ 64) × (s ≡ 251 ∷ to_be_bytes w64 n)

  -- encodings of the items, one after another
  pub AreEncodings : DataItems → List ℕ → Type 0
  AreEncodings no_items s = s ≡ []
  AreEncodings (item_and t ts) s = (first rest : List ℕ) × IsEncoding t first × AreEncodings ts rest × (s ≡ first ++ rest)

  -- encodings of the keys and values, one after another
  pub ArePairEncodings : DataPairs → List ℕ → Type 0
  ArePairEncodings no_pairs s = s ≡ []
  ArePairEncodings (pair_and k v es) s = (key value rest : List ℕ) × IsEncoding k key × IsEncoding v value × ArePairEncodings es rest × (s ≡ (key ++ value) ++ rest)

-- the bytes are an encoding of the item, which nests at most 16 deep
pub record Encodes (item : DataItem) (s : List ℕ) : Type 0 where
  pub encoding : IsEncoding item s
  pub within : depth_of item ≤ 16
