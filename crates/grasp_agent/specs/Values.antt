-- The value of PrefixManager: the length of a prefix, and the prefix's address where one is offered (RFC 8992, section 5.1). That true behind
-- both gives the prefix back is this project's own
use Rattle.std.specs.Prelude.{ℕ, Bool, false, ◌^◌, ◌%◌, ◌==◌, ◌&&◌, nat_le, nat_lt, if◌then◌else◌, List, [], ◌∷◌, length, slice_get, Option, Some, None}
use Rattle.std.specs.Int.{to_be_bytes, from_be_bytes, w128}
use Rattle.grasp_cbor.specs.DataItem.{DataItem, unsigned, byte_string, array, simple_value, array_of, items_in}
use Rattle.grasp_types.specs.Prefix.{AddressBlock as Prefix, size_of}

-- a value that asks for a prefix of this length
abbrev pub length_value : ℕ → DataItem
length_value n = array_of (unsigned n ∷ [])

-- a value that offers this prefix
abbrev pub prefix_value : Prefix → DataItem
prefix_value p = array_of (unsigned p.length ∷ byte_string (to_be_bytes w128 p.address) ∷ [])

-- a value that gives this prefix back: the third part is true
abbrev pub return_value : Prefix → DataItem
return_value p = array_of (unsigned p.length ∷ byte_string (to_be_bytes w128 p.address) ∷ simple_value 21 ∷ [])

-- the parts of the array that an item is
abbrev pub array_parts : DataItem → Option (List DataItem)
array_parts (array ts) = Some (items_in ts)
array_parts _ = None

-- the parts of the array that a value is, where there is one
abbrev pub parts_in : Option DataItem → Option (List DataItem)
parts_in None = None
parts_in (Some t) = array_parts t

-- the number that an item is
abbrev pub number_of : DataItem → Option ℕ
number_of (unsigned n) = Some n
number_of _ = None

abbrev pub number_in : Option DataItem → Option ℕ
number_in None = None
number_in (Some t) = number_of t

-- the byte string that an item is
abbrev pub bytes_of : DataItem → Option (List ℕ)
bytes_of (byte_string bs) = Some bs
bytes_of _ = None

abbrev pub bytes_in : Option DataItem → Option (List ℕ)
bytes_in None = None
bytes_in (Some t) = bytes_of t

-- the number, where it is the length of a prefix
abbrev pub length_in : Option ℕ → Option ℕ
length_in None = None
length_in (Some n) = if nat_le 1 n && nat_le n 128 then Some n else None

-- the length that stands first
abbrev pub length_at : List DataItem → Option ℕ
length_at parts = length_in (number_in (slice_get parts 0))

-- the number of 16 bytes, the most significant first
abbrev pub address_in : Option (List ℕ) → Option ℕ
address_in None = None
address_in (Some bs) = if length bs == 16 then Some (from_be_bytes w128 bs) else None

-- the address that stands second
abbrev pub address_at : List DataItem → Option ℕ
address_at parts = address_in (bytes_in (slice_get parts 1))

-- the length, where an address stands beside it
abbrev pub beside : Option ℕ → Option ℕ → Option ℕ
beside None n = None
beside (Some a) n = n

-- the length that a value asks for: it is [length], or [length, 16 bytes], whose address is ignored
unfoldable pub asked_in : Option DataItem → Option ℕ
asked_in value = by_parts (parts_in value) where
  by_parts : Option (List DataItem) → Option ℕ
  by_parts None = None
  by_parts (Some parts) = if length parts == 1 then length_at parts else (if length parts == 2 then beside (address_at parts) (length_at parts) else None)

-- the prefix of this length and this address, where the address has 128 bits and none past the length is set
abbrev pub prefix_in : Option ℕ → Option ℕ → Option Prefix
prefix_in None a = None
prefix_in (Some n) None = None
prefix_in (Some n) (Some a) = if nat_lt a (2 ^ 128) && a % size_of n == 0 then Some (record { address = a; length = n }) else None

-- the prefix that a value offers: it is [length, 16 bytes]
unfoldable pub offered_in : Option DataItem → Option Prefix
offered_in value = by_parts (parts_in value) where
  by_parts : Option (List DataItem) → Option Prefix
  by_parts None = None
  by_parts (Some parts) = if length parts == 2 then prefix_in (length_at parts) (address_at parts) else None

-- the item is the simple value true
abbrev pub is_true_item : DataItem → Bool
is_true_item (simple_value n) = n == 21
is_true_item _ = false

abbrev pub is_true_in : Option DataItem → Bool
is_true_in None = false
is_true_in (Some t) = is_true_item t

-- the prefix that a value gives back: it is [length, 16 bytes, true]
unfoldable pub returned_in : Option DataItem → Option Prefix
returned_in value = by_parts (parts_in value) where
  by_parts : Option (List DataItem) → Option Prefix
  by_parts None = None
  by_parts (Some parts) = if length parts == 3 && is_true_in (slice_get parts 2) then prefix_in (length_at parts) (address_at parts) else None
