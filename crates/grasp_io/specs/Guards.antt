-- Ranges of addresses.
use Rattle.std.specs.Prelude.{ℕ, ◌-◌, ◌^◌, ◌/◌, ◌==◌, Bool, false, min}
use Rattle.grasp_types.specs.declared.address.Address.{Address}
use Rattle.grasp_types.specs.declared.address.Address.TheVariants.{V4, V6}
use Rattle.grasp_io.specs.declared.guard.AddressRange.{AddressRange}

-- two numbers of so many bits have the same first bits
abbrev pub same_first : ℕ → ℕ → ℕ → ℕ → Bool
same_first bits length x y = x / 2 ^ (bits - min length bits) == y / 2 ^ (bits - min length bits)

-- the address is of the same family and has the same first bits
abbrev pub is_in_of : Address → ℕ → Address → Bool
is_in_of (V4 first) length (V4 other) = same_first 32 length first other
is_in_of (V4 first) length (V6 other) = false
is_in_of (V6 first) length (V4 other) = false
is_in_of (V6 first) length (V6 other) = same_first 128 length first other

-- the address is in the range
abbrev pub is_in : AddressRange → Address → Bool
is_in range address = is_in_of range.address range.length address
