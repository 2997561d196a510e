-- The head of a data item: its major type, from 0 to 7, and its argument (RFC 8949, section 3).
use Rattle.std.specs.Prelude.{◌≡◌, ℕ, ◌+◌, ◌*◌, ◌^◌, ◌<◌, List, [], ◌∷◌, nat_lt, if◌then◌else◌}
use Rattle.std.specs.Int.{w16, w32, w64, to_be_bytes}

-- where the argument of a head stands: in the initial byte, or in 1, 2, 4 or 8 bytes after it
pub data HeadSize : Type 0 where
  direct : HeadSize
  one_byte : HeadSize
  two_bytes : HeadSize
  four_bytes : HeadSize
  eight_bytes : HeadSize

-- what the argument of a head of this size is below
abbrev pub argument_limit : HeadSize → ℕ
argument_limit direct = 24
argument_limit one_byte = 2 ^ 8
argument_limit two_bytes = 2 ^ 16
argument_limit four_bytes = 2 ^ 32
argument_limit eight_bytes = 2 ^ 64

-- the head of this size, most significant byte first (RFC 8949, section 3)
abbrev pub sized_head : HeadSize → ℕ → ℕ → List ℕ
sized_head direct major n = (32 * major + n) ∷ []
sized_head one_byte major n = (32 * major + 24) ∷ n ∷ []
sized_head two_bytes major n = (32 * major + 25) ∷ to_be_bytes w16 n
sized_head four_bytes major n = (32 * major + 26) ∷ to_be_bytes w32 n
sized_head eight_bytes major n = (32 * major + 27) ∷ to_be_bytes w64 n

-- the bytes are a head of this major type and argument, of any size that holds the argument (RFC 8949, section 3)
abbrev pub IsHead : ℕ → ℕ → List ℕ → Type 0
IsHead major n bytes = (size : HeadSize) × (n < argument_limit size) × (bytes ≡ sized_head size major n)

-- the smallest size that holds an argument
unfoldable pub shortest_size : ℕ → HeadSize
shortest_size n = if nat_lt n 24 then direct else (if nat_lt n (2 ^ 8) then one_byte else (if nat_lt n (2 ^ 16) then two_bytes else (if nat_lt n (2 ^ 32) then four_bytes else eight_bytes)))

-- the shortest head (RFC 8949, section 4.2.1)
unfoldable pub shortest_head : ℕ → ℕ → List ℕ
shortest_head major n = sized_head (shortest_size n) major n

-- the one encoding of a simple value: from 32 on its number follows the initial byte (RFC 8949, section 3.3)
abbrev pub simple_head : ℕ → List ℕ
simple_head n = if nat_lt n 24 then (224 + n) ∷ [] else 248 ∷ n ∷ []
