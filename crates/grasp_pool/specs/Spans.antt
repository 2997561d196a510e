-- The addresses of prefixes, and of lists of them (RFC 4291, section 2.3).
use Rattle.std.specs.Prelude.{ℕ, List, Contains}
use Rattle.grasp_types.specs.Prefix.{AddressBlock as Prefix, IsPrefix, span_of, size_of}

-- the prefix's length is 1 to 128, and no bit of its address past the length is set
abbrev pub IsValid : Prefix → Type 0
IsValid p = IsPrefix p.address p.length

-- how many addresses it has
abbrev pub size : Prefix → ℕ
size p = size_of p.length

-- the two have no address in common
abbrev pub Apart : Prefix → Prefix → Type 0
Apart p q = (a : ℕ) → span_of p a → ¬ span_of q a

-- some prefix of the list has the address
abbrev pub Covers : List Prefix → ℕ → Type 0
Covers ps a = (p : Prefix) × Contains ps p × span_of p a
