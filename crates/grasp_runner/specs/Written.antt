-- What was written of an output.
use Rattle.std.specs.Prelude.{ℕ, List, Option}
use Rattle.std.specs.Io.KnownBytes.{Appends}
use Rattle.grasp_io.specs.Known.{AppendsFront}

-- an output of which P says so was written after what was written before, and nothing else
pub record Writes (P : List ℕ → Type 0) (before after : Option (List ℕ)) : Type 0 where
  pub output : List ℕ
  pub made : P output
  pub written : Appends before after output

-- an output of which P says so was written after what was written before, whole or only a prefix of its bytes
pub record Begins (P : List ℕ → Type 0) (before after : Option (List ℕ)) : Type 0 where
  pub output : List ℕ
  pub made : P output
  pub written : AppendsFront before after output
