-- What the answers of a node's desk say.
use Rattle.std.specs.Prelude.{◌≡◌, ◌+◌, ◌⊎◌, ℕ, List, Option, ⊤}
use Rattle.grasp_io.specs.Faults.{Rose}
use Rattle.grasp_io.specs.Told.{Stays, Grows, MayGrow}
use Rattle.grasp_desk.specs.declared.desk.Told.{Told}
use Rattle.grasp_desk.specs.declared.desk.Visiting.{Visiting}
use Rattle.grasp_desk.specs.declared.desk.Visiting.TheVariants.{Came, Line, Left, Nothing, OutOfMemory}

-- a visitor that came has the next number, which no earlier one had
abbrev pub IsNext : ℕ → ℕ → Visiting → Type 0
IsNext old new (Came visitor guest) = (visitor ≡ old + 1) × (new ≡ old + 1)
IsNext old new (Line visitor line) = new ≡ old
IsNext old new (Left visitor) = new ≡ old
IsNext old new Nothing = new ≡ old
IsNext old new OutOfMemory = new ≡ old

-- what came so far grows by this, where something came
abbrev pub Gives : Option (List Visiting) → Option (List Visiting) → Visiting → Type 0
Gives old new (Came visitor guest) = Grows old new (Came visitor guest)
Gives old new (Line visitor line) = Grows old new (Line visitor line)
Gives old new (Left visitor) = Grows old new (Left visitor)
Gives old new Nothing = Stays old new
Gives old new OutOfMemory = Stays old new

-- Inside: a visitor's line or leaving, or nothing
abbrev pub GivesNoComing : Visiting → Type 0
GivesNoComing (Came visitor guest) = ⊥
GivesNoComing (Line visitor line) = ⊤
GivesNoComing (Left visitor) = ⊤
GivesNoComing Nothing = ⊤
GivesNoComing OutOfMemory = ⊤

-- the lines told grow by this one; or they may stay, and the count of faults rose
pub record Tells (old new : Option (List Told)) (line : Told) (before after : ℕ) : Type 0 where
  pub may : MayGrow old new line
  pub all : Grows old new line ⊎ Rose before after
