-- What is known of a sink of lines.
use Rattle.std.specs.Prelude.{◌≤◌, ◌⊎◌, ℕ, List, Option}
use Rattle.std.specs.Io.KnownBytes.{Appends, Keeps}
use Rattle.grasp_io.specs.Faults.{Rose}
use Rattle.grasp_io.specs.Known.{AppendsFront}

-- what was written, how often a write failed, and how many lines were left out for want of memory
pub record Sheet : Type 0 where
  pub written : Option (List ℕ)
  pub faults : ℕ
  pub left_out : ℕ

-- the counts of failed writes and of lines left out stay or rise
pub record NeverFalls (old new : Sheet) : Type 0 where
  pub faults : old.faults ≤ new.faults
  pub left_out : old.left_out ≤ new.left_out

-- a write failed, or a line was left out
abbrev pub HasGap : Sheet → Sheet → Type 0
HasGap old new = Rose old.faults new.faults ⊎ Rose old.left_out new.left_out

-- a front of the line was written and nothing else; all of it, unless a write failed or it was left out
pub record Tells (line : List ℕ) (old new : Sheet) : Type 0 where
  pub front : AppendsFront old.written new.written line
  pub whole : Appends old.written new.written line ⊎ HasGap old new
  pub never_falls : NeverFalls old new

-- nothing was written, and one line more is left out
pub record IsLeftOut (old new : Sheet) : Type 0 where
  pub kept : Keeps old.written new.written
  pub counted : Rose old.left_out new.left_out
  pub never_falls : NeverFalls old new

-- nothing was written
pub record IsQuiet (old new : Sheet) : Type 0 where
  pub kept : Keeps old.written new.written
  pub never_falls : NeverFalls old new

-- a line that P has was told so
pub record TellsOne (P : List ℕ → Type 0) (old new : Sheet) : Type 0 where
  pub line : List ℕ
  pub is : P line
  pub tells : Tells line old new
