-- The numbers of simple values (RFC 8949, section 3.3).
use Rattle.std.specs.Prelude.{ℕ, ◌<◌, ◌≤◌, ◌⊎◌}

-- a number of one byte is that of a simple value: 24 to 31 are reserved
abbrev pub IsSimple : ℕ → Type 0
IsSimple n = (n < 24) ⊎ (32 ≤ n)
