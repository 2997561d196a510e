-- Inside: what a place takes to which the bytes of a message go.
use Rattle.std.specs.Prelude.{◌≡◌, ◌+◌, ◌<◌, ℕ, List, ◌++◌, Result, Ok, Err, length}
use Rattle.grasp_cbor.specs.Extends.{Extends}

-- what a place holds: the bytes that it keeps, and how much room it has for more
pub record Place : Type 0 where
  pub bytes : List ℕ
  pub room : ℕ

-- These bytes were taken by a place: one that keeps bytes has them at its end, one that counts them has so much less room. Or they
-- weren't: one that counts has too little room. The old bytes stand in front.
abbrev pub Puts : {E : Type 0} → Type 0 → Type 0 → Place → Place → List ℕ → Result (Unit {0}) E → Type 0
Puts keeps counts old new bytes (Ok done) = (keeps → new.bytes ≡ old.bytes ++ bytes) × (counts → new.room + length bytes ≡ old.room) × Extends old.bytes new.bytes
Puts keeps counts old new bytes (Err fault) = (counts → old.room < length bytes) × Extends old.bytes new.bytes
