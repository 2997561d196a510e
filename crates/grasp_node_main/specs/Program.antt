-- The program's one call: its words, what it reads, and what it makes of that.
use Rattle.std.specs.Prelude.{◌≡◌, ◌≤◌, ◌<◌, ◌⊎◌, ℕ, Bool, false, List, [], ◌∷◌, length, Option, None, Some, IfSome, IsTrue, codes, bytes_eq}
use Rattle.std.specs.Io.KnownBytes.{Appends}
use Rattle.grasp_config.specs.Config.{HasConfig, IsBadText}
use Rattle.grasp_config.specs.declared.config.NodeConfig.{NodeConfig}
use Rattle.grasp_config.specs.declared.fault.ConfigKey.{ConfigKey}
use Rattle.grasp_io.specs.Counted.{StaysAt}
use Rattle.grasp_io.specs.Known.{AppendsFront}
use Rattle.grasp_io.specs.Told.{Stays, Grows}
use Rattle.grasp_node_main.specs.Lines.{crew_text}
use Rattle.grasp_node_main.specs.Plans.{IsPlanOf, link_plan_of}
use Rattle.grasp_node_main.specs.Runs.{Ran}
use Rattle.grasp_node_main.specs.Tells.{LinksTold, Told}
use Rattle.grasp_node_main.specs.declared.exit.Status.{Status}
use Rattle.grasp_node_main.specs.declared.exit.Status.TheVariants.{Ok, Usage, BadConfig, ReadFault, WriteFault, OutOfMemory, TooLarge, LinkFault}
use Rattle.grasp_node_main.specs.declared.plan.DaemonPlan.{DaemonPlan}
use Rattle.grasp_node_main.specs.declared.worker.Worker.{Worker}

-- the most bytes that a configuration may have
abbrev pub config_limit : ℕ
config_limit = 65536

-- the words are `run` and one more
abbrev pub is_run : List (List ℕ) → Bool
is_run [] = false
is_run (word ∷ []) = false
is_run (word ∷ file ∷ []) = bytes_eq word (codes "run")
is_run (word ∷ file ∷ other ∷ words) = false

-- ---- what was read

-- what was left to read is this input, where that is known
abbrev pub IsInput : Option (List ℕ) → List ℕ → Type 0
IsInput left input = IfSome left (λ all. input ≡ all)

-- some input has P; where it is known what was left to read, it is this one
pub record SomeInput (left : Option (List ℕ)) (P : List ℕ → Type 0) : Type 0 where
  pub input : List ℕ
  pub told : IsInput left input
  pub holds : P input

-- the text has a configuration
pub record IsConfigured (text : List ℕ) : Type 0 where
  pub config : NodeConfig
  pub has : HasConfig text config

-- it has at most so many bytes as a configuration may have
abbrev pub IsSmall : List ℕ → Type 0
IsSmall input = length input ≤ config_limit

-- it has more
abbrev pub IsLarge : List ℕ → Type 0
IsLarge input = config_limit < length input

-- the input isn't too large, and has a configuration
pub record IsConfiguredWithin (input : List ℕ) : Type 0 where
  pub small : IsSmall input
  pub is : IsConfigured input

-- the input isn't too large, and this is the first of its keys that is bad
pub record IsBadWithin (key : ConfigKey) (input : List ℕ) : Type 0 where
  pub small : IsSmall input
  pub bad : IsBadText input key

-- ---- how far the program came

-- not to the links
abbrev pub IsBeforeLinks : Status → Type 0
IsBeforeLinks Usage = Unit {0}
IsBeforeLinks ReadFault = Unit {0}
IsBeforeLinks TooLarge = Unit {0}
IsBeforeLinks (BadConfig key) = Unit {0}
IsBeforeLinks Ok = ⊥
IsBeforeLinks WriteFault = ⊥
IsBeforeLinks OutOfMemory = ⊥
IsBeforeLinks LinkFault = ⊥

-- to the links: a configuration was read
abbrev pub IsAfterConfig : Status → Type 0
IsAfterConfig Ok = Unit {0}
IsAfterConfig WriteFault = Unit {0}
IsAfterConfig LinkFault = Unit {0}
IsAfterConfig OutOfMemory = ⊥
IsAfterConfig Usage = ⊥
IsAfterConfig ReadFault = ⊥
IsAfterConfig TooLarge = ⊥
IsAfterConfig (BadConfig key) = ⊥

-- the input was read whole
abbrev pub IsAfterInput : Status → Type 0
IsAfterInput Ok = Unit {0}
IsAfterInput WriteFault = Unit {0}
IsAfterInput LinkFault = Unit {0}
IsAfterInput (BadConfig key) = Unit {0}
IsAfterInput OutOfMemory = ⊥
IsAfterInput Usage = ⊥
IsAfterInput ReadFault = ⊥
IsAfterInput TooLarge = ⊥

-- Inside: it ended so once the links were to be opened, or memory was wanted
abbrev pub IsOfConfig : Status → Type 0
IsOfConfig Ok = Unit {0}
IsOfConfig WriteFault = Unit {0}
IsOfConfig OutOfMemory = Unit {0}
IsOfConfig LinkFault = Unit {0}
IsOfConfig Usage = ⊥
IsOfConfig ReadFault = ⊥
IsOfConfig TooLarge = ⊥
IsOfConfig (BadConfig key) = ⊥

-- Inside: it ended so once the turns were to be made
abbrev pub IsOfTurns : Status → Type 0
IsOfTurns Ok = Unit {0}
IsOfTurns WriteFault = Unit {0}
IsOfTurns OutOfMemory = Unit {0}
IsOfTurns LinkFault = ⊥
IsOfTurns Usage = ⊥
IsOfTurns ReadFault = ⊥
IsOfTurns TooLarge = ⊥
IsOfTurns (BadConfig key) = ⊥

-- all went well, or memory was wanted
abbrev pub IsOkOrMemory : Status → Type 0
IsOkOrMemory Ok = Unit {0}
IsOkOrMemory OutOfMemory = Unit {0}
IsOkOrMemory WriteFault = ⊥
IsOkOrMemory LinkFault = ⊥
IsOkOrMemory Usage = ⊥
IsOkOrMemory ReadFault = ⊥
IsOkOrMemory TooLarge = ⊥
IsOkOrMemory (BadConfig key) = ⊥

-- ---- what it did

-- nothing was asked of the links, nothing was given to them, and no peer opened a stream; whether they were opened isn't said
pub record NothingPassed (old new : LinksTold) : Type 0 where
  pub asks : StaysAt old.asks new.asks
  pub waits : Stays old.waits new.waits
  pub given : Stays old.given new.given
  pub handed : Stays old.handed new.handed
  pub opened : new.opened ≡ old.opened
  pub faults : old.faults ≤ new.faults

-- the links were opened once, with the plan of this configuration, and nothing passed
pub record OpensLinks (config : NodeConfig) (old new : LinksTold) : Type 0 where
  pub is_open : IsTrue new.is_open
  pub plans : Grows old.plans new.plans (link_plan_of config)
  pub passed : NothingPassed old new

-- the node of the plan made its turns, and then the lines of its agents were written
pub record RunsPlan (plan : DaemonPlan) (old new : Told) (before after : Option (List ℕ)) : Type 0 where
  pub workers : List Worker
  pub ran : Ran plan old new (Some workers)
  pub written : Appends before after (crew_text workers)

-- the links were opened, and then the node of the configuration ran
pub record RunsConfig (config : NodeConfig) (seed : List ℕ) (old new : Told) (before after : Option (List ℕ)) : Type 0 where
  pub plan : DaemonPlan
  pub planned : IsPlanOf config seed plan
  pub opened : LinksTold
  pub opens : OpensLinks config old.links opened
  pub runs : RunsPlan plan (record { readings = old.readings; links = opened }) new before after

-- the input isn't too large and has a configuration, and its node ran
pub record RunsInput (left : Option (List ℕ)) (seed : List ℕ) (old new : Told) (before after : Option (List ℕ)) : Type 0 where
  pub input : List ℕ
  pub told : IsInput left input
  pub small : IsSmall input
  pub config : NodeConfig
  pub has : HasConfig input config
  pub runs : RunsConfig config seed old new before after

-- ---- where it ended with a fault of writing, or for want of memory

-- the node of the plan made its turns, and a front of the lines of its agents was written
pub record BeginsPlan (plan : DaemonPlan) (old new : Told) (before after : Option (List ℕ)) : Type 0 where
  pub workers : List Worker
  pub ran : Ran plan old new (Some workers)
  pub begun : AppendsFront before after (crew_text workers)

-- the links were opened, and then the node of the configuration did so
pub record BeginsConfig (config : NodeConfig) (seed : List ℕ) (old new : Told) (before after : Option (List ℕ)) : Type 0 where
  pub plan : DaemonPlan
  pub planned : IsPlanOf config seed plan
  pub opened : LinksTold
  pub opens : OpensLinks config old.links opened
  pub begins : BeginsPlan plan (record { readings = old.readings; links = opened }) new before after

-- the input isn't too large and has a configuration, whose node did so
pub record BeginsInput (left : Option (List ℕ)) (seed : List ℕ) (old new : Told) (before after : Option (List ℕ)) : Type 0 where
  pub input : List ℕ
  pub told : IsInput left input
  pub small : IsSmall input
  pub config : NodeConfig
  pub has : HasConfig input config
  pub begins : BeginsConfig config seed old new before after

-- Inside: no turn was made: the clock is unread, and the links are untouched, or they were opened
abbrev pub NoTurn : Type 0 → Type 0 → NodeConfig → LinksTold → LinksTold → Type 0
NoTurn untouched unread config old new = unread × (untouched ⊎ OpensLinks config old new)

-- the input isn't too large and has a configuration, whose links were opened
pub record OpensInput (left : Option (List ℕ)) (old new : LinksTold) : Type 0 where
  pub input : List ℕ
  pub told : IsInput left input
  pub small : IsSmall input
  pub config : NodeConfig
  pub has : HasConfig input config
  pub opens : OpensLinks config old new

-- no turn was made: the clock is unread, and the links are untouched, or those of the input's configuration were opened
abbrev pub NoTurnOfInput : Type 0 → Type 0 → Option (List ℕ) → LinksTold → LinksTold → Type 0
NoTurnOfInput untouched unread left old new = unread × (untouched ⊎ OpensInput left old new)

-- the links were opened, and then the node of the configuration made its turns, in which agents may have stopped
pub record TurnsOfConfig (config : NodeConfig) (seed : List ℕ) (old new : Told) : Type 0 where
  pub plan : DaemonPlan
  pub planned : IsPlanOf config seed plan
  pub opened : LinksTold
  pub opens : OpensLinks config old.links opened
  pub ran : Ran plan (record { readings = old.readings; links = opened }) new None

-- the input isn't too large and has a configuration, whose node did so
pub record TurnsOfInput (left : Option (List ℕ)) (seed : List ℕ) (old new : Told) : Type 0 where
  pub input : List ℕ
  pub told : IsInput left input
  pub small : IsSmall input
  pub config : NodeConfig
  pub has : HasConfig input config
  pub turns : TurnsOfConfig config seed old new

-- no turn was made, or all turns of the input's node were
abbrev pub NoneOrAllTurns : Type 0 → Type 0 → Option (List ℕ) → List ℕ → Told → Told → Type 0
NoneOrAllTurns untouched unread left seed old new = NoTurnOfInput untouched unread left old.links new.links ⊎ TurnsOfInput left seed old new

-- ---- how it ends where no read fails

-- an input that is too large is refused, unless memory is wanted
abbrev pub EndsLarge : Status → List ℕ → Type 0
EndsLarge ended input = IsLarge input → (ended ≡ TooLarge) ⊎ (ended ≡ OutOfMemory)

-- so is one with a bad key, which is told
abbrev pub EndsBadly : Status → List ℕ → Type 0
EndsBadly ended input = (key : ConfigKey) → IsSmall input → IsBadText input key → (ended ≡ BadConfig key) ⊎ (ended ≡ OutOfMemory)

-- one that has a configuration is run to the end of its node, unless memory is wanted; and the others are refused
pub record EndsSo (ended : Status) (input : List ℕ) : Type 0 where
  pub large : EndsLarge ended input
  pub bad : EndsBadly ended input
  pub well : IsSmall input → IsConfigured input → IsOkOrMemory ended
