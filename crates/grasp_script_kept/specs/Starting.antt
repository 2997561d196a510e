-- Inside: whether a header may have ended.
use Rattle.std.specs.Prelude.{ℕ, Bool, List, codes}
use Rattle.std.specs.List.{list_any}
use Rattle.std.specs.Str.{bytes_eq}

-- the line is that with which a header ends
abbrev pub is_start : List ℕ → Bool
is_start line = bytes_eq line (codes "start")

-- one of these lines is
unfoldable pub has_start : List (List ℕ) → Bool
has_start lines = list_any is_start lines
