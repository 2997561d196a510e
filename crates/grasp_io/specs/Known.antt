-- What is known of the bytes that a source has left and of those that a sink was given. `None` tells nothing.
-- `Keeps`, `Appends`, `Consumes` and `IsAtEnd` are the standard library's.
use Rattle.std.specs.Prelude.{◌≡◌, ◌↔◌, ℕ, ◌-◌, List, [], ◌++◌, length, take, drop, Option, None, Some, ⊤}

-- a read gave 0 bytes exactly where nothing was left
abbrev pub EndsExactly : Option (List ℕ) → ℕ → Type 0
EndsExactly None n = ⊤
EndsExactly (Some rest) n = (n ≡ 0) ↔ (rest ≡ [])

-- what is left now is the end of what was left before
abbrev pub IsEndOf : Option (List ℕ) → Option (List ℕ) → Type 0
IsEndOf None new = ⊤
IsEndOf (Some old) None = ⊥
IsEndOf (Some old) (Some new) = new ≡ drop (length old - length new) old

-- what was written grew by a front of these bytes, and nothing else
abbrev pub AppendsFront : Option (List ℕ) → Option (List ℕ) → List ℕ → Type 0
AppendsFront None new bytes = ⊤
AppendsFront (Some old) None bytes = ⊥
AppendsFront (Some old) (Some new) bytes = new ≡ old ++ take (length new - length old) bytes

-- of these bytes a front was written, and the rest is held
abbrev pub Passes : Option (List ℕ) → Option (List ℕ) → List ℕ → List ℕ → Type 0
Passes None new held bytes = ⊤
Passes (Some old) None held bytes = ⊥
Passes (Some old) (Some new) held bytes =
    (new ≡ old ++ take (length new - length old) bytes) × (held ≡ drop (length new - length old) bytes)
