-- Inside: what was written of a task's output.
use Rattle.std.specs.Prelude.{ℕ, List, Option, ⊤}
use Rattle.std.specs.Io.KnownBytes.{Appends}
use Rattle.grasp_io.specs.Known.{AppendsFront}
use Rattle.grasp_replay_main.specs.declared.exit.Status.{Status}
use Rattle.grasp_replay_main.specs.declared.unfinished.Unfinished.{Unfinished}
use Rattle.grasp_replay_main.specs.declared.unfinished.Unfinished.TheVariants.{TooLarge, BadScript, TooMuch, OutOfMemory, WriteFault}

-- an output that P has with this status was written after what was written before
pub record Writes (P : List ℕ → Status → Type 0) (before after : Option (List ℕ)) (ended : Status) : Type 0 where
  pub output : List ℕ
  pub makes : P output ended
  pub written : Appends before after output

-- an output that P has with some status was written after what was written before, whole or only a prefix of its bytes
pub record Begins (P : List ℕ → Status → Type 0) (before after : Option (List ℕ)) : Type 0 where
  pub output : List ℕ
  pub ended : Status
  pub makes : P output ended
  pub written : AppendsFront before after output

-- the writing stopped by want of memory or a fault
abbrev pub IsStop : Unfinished → Type 0
IsStop OutOfMemory = ⊤
IsStop WriteFault = ⊤
IsStop TooLarge = ⊥
IsStop (BadScript line) = ⊥
IsStop TooMuch = ⊥
