-- Facts of messages and of bytes that several crates use.
use Rattle.std.proofs.Common.{List, [], ◌≡◌, ◌++◌, refl, ◌∷◌, ◌≤◌, length, arith}
use Rattle.grasp_types.specs.declared.flood.FloodPart.{FloodPart}
use Rattle.grasp_types.specs.declared.message.Message.{Message}

-- a list is empty where it is empty with another after it
pub append_none : (a b : List Message) → [] ≡ a ++ b → a ≡ []
append_none [] b e = refl
append_none (m ∷ a) b e = absurd (cc)

-- a list of one part has one at least
pub some_part : (part : FloodPart) → 1 ≤ length (part ∷ [])
some_part part = omega arith
