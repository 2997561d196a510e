-- Prefixes of addresses, and the addresses that lie in them (RFC 4291, section 2.3).
use Rattle.std.specs.Prelude.{◌≡◌, ℕ, ◌+◌, ◌-◌, ◌*◌, ◌<◌, ◌≤◌, ◌^◌}

-- a prefix as contracts see it: its first address, and how many leading bits are fixed
pub record AddressBlock : Type 0 where
  pub address : ℕ
  pub length : ℕ

-- how many of the 2 ^ 128 addresses have the same first `length` bits
abbrev pub size_of : ℕ → ℕ
size_of length = 2 ^ (128 - length)

-- x is a multiple of n
abbrev pub IsMultiple : ℕ → ℕ → Type 0
IsMultiple n x = (k : ℕ) × (x ≡ k * n)

-- 1 to 128 bits of an address are fixed, and no bit past them is set
pub record IsPrefix (address length : ℕ) : Type 0 where
  pub least : 1 ≤ length
  pub most : length ≤ 128
  pub within : address < 2 ^ 128
  pub aligned : IsMultiple (size_of length) address

-- the set of the prefix's addresses, from its first to its last number
abbrev pub span_of : AddressBlock → ℕ → Type 0
span_of p a = (p.address ≤ a) × (a < p.address + size_of p.length)

-- the two have an address in common
abbrev pub Overlap : AddressBlock → AddressBlock → Type 0
Overlap p q = (a : ℕ) × (span_of p a × span_of q a)
