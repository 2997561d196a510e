-- Inputs with which the tasks end well, and that each task makes one thing of an input.
use Rattle.std.specs.Prelude.{◌≡◌, ◌⊎◌, ◌<◌, ℕ, List, All, map, ⊤}
use Rattle.grasp_cbor.specs.Bytes.{AllBytes}
use Rattle.grasp_types.specs.declared.message.Message.{Message}
use Rattle.grasp_text.specs.Line.{line_of}
use Rattle.grasp_model_network.specs.declared.plan.WorldPlan.{WorldPlan}
use Rattle.grasp_script.specs.Scripts.{text_lines}
use Rattle.grasp_script.specs.declared.line.Line.{Line}
use Rattle.grasp_script_doubts.specs.declared.line.DoubtLine.{DoubtLine}
use Rattle.grasp_script_kept.specs.declared.line.KeptLine.{KeptLine}
use Rattle.grasp_wire.specs.Wire.{AreWireForms}
use Rattle.grasp_model_audit.specs.Audits.{IsAudited}
use Rattle.grasp_replay_main.specs.Gen.{Overruns}
use Rattle.grasp_replay_main.specs.Pack.{CanPack}
use Rattle.grasp_replay_main.specs.Replay.{IsShortDoubtScript, IsShortKeptScript, IsShortScript}
use Rattle.grasp_replay_main.specs.Task.{Makes, IsBadScript, IsOkOrMemory, IsOutcome, IsTooLarge}
use Rattle.grasp_replay_main.specs.declared.exit.Status.{Status}
use Rattle.grasp_replay_main.specs.declared.exit.Status.TheVariants as status
use Rattle.grasp_replay_main.specs.declared.task.Task.{Task}
use Rattle.grasp_replay_main.specs.declared.task.Task.TheVariants.{Show, Pack, Replay, Keep, Resolve, Record, Audit, Gen, Draw}

-- the input is lines of messages that can be packed
pub record AreLines (limit : ℕ) (input : List ℕ) (messages : List Message) : Type 0 where
  pub lines : text_lines input ≡ map line_of messages
  pub can : All (CanPack limit) messages

-- the input is whole: wire forms of messages for `show`, lines of messages that fit for `pack`, a script for `replay`, `keep`, `resolve` and `record`
-- whose run doesn't send too much, the record of a run for `audit`; and so is every input of `gen` where the run of the script that is drawn doesn't
-- send too much, and of `draw`
abbrev pub IsWholeInput : Task → ℕ → List ℕ → Type 0
IsWholeInput Show limit input = (messages : List Message) × AreWireForms messages input limit
IsWholeInput Pack limit input = (messages : List Message) × AreLines limit input messages
IsWholeInput Replay limit input = (plan : WorldPlan) × (lines : List Line) × IsShortScript input plan lines
IsWholeInput Keep limit input = (plan : WorldPlan) × (lines : List KeptLine) × IsShortKeptScript input plan lines
IsWholeInput Resolve limit input = (plan : WorldPlan) × (lines : List DoubtLine) × IsShortDoubtScript input plan lines
IsWholeInput Record limit input = (plan : WorldPlan) × (lines : List Line) × IsShortScript input plan lines
IsWholeInput Audit limit input = IsAudited input
IsWholeInput (Gen number) limit input = ¬ Overruns number
IsWholeInput (Draw number) limit input = ⊤

-- how a task ends on an input while nothing outside fails: one that is too large is refused, one within the limits decides, and a whole one ends
-- well; but memory may be wanted
pub record EndsSo (task : Task) (limit : ℕ) (ended : Status) (input : List ℕ) : Type 0 where
  pub large : IsTooLarge task input → (ended ≡ status.TooLarge) ⊎ (ended ≡ status.OutOfMemory)
  pub outcome : ¬ IsTooLarge task input → IsOutcome task limit input ended
  pub whole : ¬ IsTooLarge task input → IsWholeInput task limit input → IsOkOrMemory ended

-- the input isn't too large, and is to be a script and is none: this line is bad
pub record IsBadWithin (task : Task) (line : ℕ) (input : List ℕ) : Type 0 where
  pub bad : IsBadScript task input line
  pub small : ¬ IsTooLarge task input

-- a task makes one output of an input, with one status
abbrev pub TasksAreFunctions : Type 0
TasksAreFunctions = (task : Task) (limit : ℕ) (input a b : List ℕ) (f g : Status) → 0 < limit → AllBytes input
    → Makes task limit input a f → Makes task limit input b g → (a ≡ b) × (f ≡ g)

-- a task ends well with a whole input
abbrev pub WholeInputsEndWell : Type 0
WholeInputsEndWell = (task : Task) (limit : ℕ) (input output : List ℕ) (ended : Status) → 0 < limit → AllBytes input
    → IsWholeInput task limit input → Makes task limit input output ended → ended ≡ status.Ok
