-- UTF-8 from left to right: what a text owes until its character ends.
use Rattle.std.specs.Prelude.{◌≡◌, ℕ, ◌-◌, Bool, false, ◌||◌, nat_lt, nat_le, ◌==◌, List, [], ◌∷◌, ◌++◌, length, Option, Some, None, if◌then◌else◌}
use Rattle.std.specs.Str.{IsUtf8}
use Rattle.grasp_cbor.specs.declared.utf8.Owed.{Owed}

-- so many bytes are owed, and the next is from a to b
abbrev pub owing : ℕ → ℕ → ℕ → Owed
owing n a b = record { need = n; low = a; high = b }

abbrev pub ready : Owed
ready = owing 0 128 191

-- after the first byte of a character
unfoldable pub lead : ℕ → Option Owed
lead b =
    if nat_lt b 128 then Some ready else (if nat_lt b 194 then None else (if nat_lt b 224 then Some (owing 1 128 191) else (if nat_lt b 240 then Some (owing 2 (if b == 224 then 160 else 128) (if b == 237 then 159 else 191)) else (if nat_lt b 245 then Some (owing 3 (if b == 240 then 144 else 128) (if b == 244 then 143 else 191)) else None))))

unfoldable pub owed_after : Owed → ℕ → Option Owed
owed_after o b = if o.need == 0 then lead b else (if nat_lt b o.low || nat_lt o.high b then None else Some (owing (o.need - 1) 128 191))

abbrev pub owed_of : Option Owed → List ℕ → Option Owed
owed_of None s = None
owed_of (Some o) [] = Some o
owed_of (Some o) (b ∷ bs) = owed_of (owed_after o b) bs

abbrev pub owes_within : Option Owed → ℕ → Bool
owes_within None left = false
owes_within (Some o) left = nat_le o.need left

-- so many bytes can make UTF-8 of these
unfoldable pub can_end : List ℕ → ℕ → Bool
can_end s left = owes_within (owed_of (Some ready) s) left

-- what that means
abbrev pub CanEnd : List ℕ → ℕ → Type 0
CanEnd s left = (more : List ℕ) × (length more ≡ left) × IsUtf8 (s ++ more)
