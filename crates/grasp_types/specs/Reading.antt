-- Readings of a node's clock, in milliseconds.
use Rattle.std.specs.Prelude.{ℕ, ◌+◌, ◌-◌, ◌^◌, min}

-- the reading after so many milliseconds, at most the greatest u64
abbrev pub reading_after : ℕ → ℕ → ℕ
reading_after now millis = min (now + millis) (2 ^ 64 - 1)
