-- What `gen` makes of a number: the summary of the run of the script that is drawn from it. And how `gen` and `draw` may end.
use Rattle.std.specs.Prelude.{ℕ, List, ⊤}
use Rattle.grasp_script_draws.specs.Generator.{script_of}
use Rattle.grasp_model_script.specs.Stops.{TextSendsTooMuch}
use Rattle.grasp_model_script.specs.Summary.{IsSummary}
use Rattle.grasp_replay_main.specs.declared.exit.Status.{Status}
use Rattle.grasp_replay_main.specs.declared.exit.Status.TheVariants as status

-- the output is the summary of the run of the script that is drawn from the number
abbrev pub Summarizes : ℕ → List ℕ → Type 0
Summarizes number output = IsSummary (script_of number) number output

-- the run of the script that is drawn from the number sends more than may be sent
abbrev pub Overruns : ℕ → Type 0
Overruns number = TextSendsTooMuch (script_of number)

-- Inside: how `gen` may end
abbrev pub IsGenEnd : Status → Type 0
IsGenEnd status.Ok = ⊤
IsGenEnd (status.Finding finding) = ⊥
IsGenEnd status.Usage = ⊥
IsGenEnd (status.BadScript line) = ⊥
IsGenEnd status.ReadFault = ⊥
IsGenEnd status.WriteFault = ⊤
IsGenEnd status.OutOfMemory = ⊤
IsGenEnd status.TooLarge = ⊤

-- Inside: how `draw` may end
abbrev pub IsDrawEnd : Status → Type 0
IsDrawEnd status.Ok = ⊤
IsDrawEnd (status.Finding finding) = ⊥
IsDrawEnd status.Usage = ⊥
IsDrawEnd (status.BadScript line) = ⊥
IsDrawEnd status.ReadFault = ⊥
IsDrawEnd status.WriteFault = ⊤
IsDrawEnd status.OutOfMemory = ⊤
IsDrawEnd status.TooLarge = ⊥
