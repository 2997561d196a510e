-- The program's limits.
use Rattle.std.specs.Prelude.{ℕ}

-- the most bytes that an input may have
abbrev pub input_limit : ℕ
input_limit = 16777216

-- the most bytes that a message may have (RFC 8990, section 2.6)
abbrev pub message_limit : ℕ
message_limit = 2048

-- the most lines that a script may have
abbrev pub line_limit : ℕ
line_limit = 200000
