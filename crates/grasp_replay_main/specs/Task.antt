-- What the program is asked for, and what comes of it.
use Rattle.std.specs.Prelude.{◌≡◌, ◌<◌, ◌⊎◌, if◌then◌else◌, ℕ, List, [], ◌∷◌, Option, None, Some, IfSome, codes, bytes_eq, length, option_map, ⊤}
use Rattle.std.specs.Io.KnownBytes.{Appends}
use Rattle.grasp_io.specs.Known.{AppendsFront}
use Rattle.grasp_script.specs.Scripts.{text_lines, IsBadLine, IsNoScript}
use Rattle.grasp_script_draws.specs.Generator.{script_of}
use Rattle.grasp_model_audit.specs.RecordRuns.{BeginsRecordOf, IsStoppedRecordOf}
use Rattle.grasp_model_script.specs.ScriptRuns.{Replays, BeginsToReplay}
use Rattle.grasp_model_script.specs.Stops.{TextSendsTooMuch}
use Rattle.grasp_model_script_doubts.specs.ScriptRuns.{BeginsToResolve, ResolvesTooMuch}
use Rattle.grasp_model_script_kept.specs.ScriptRuns.{BeginsToKeep, KeepsReporting, KeepsTooMuch, StopsKeeping}
use Rattle.grasp_script_doubts.specs.Scripts.{IsBadDoubtLine, IsNoDoubtScript}
use Rattle.grasp_script_kept.specs.Scripts.{IsBadKeptLine, IsNoKeptScript}
use Rattle.grasp_text.specs.Reading.{number_of}
use Rattle.grasp_replay_main.specs.Audit.{Accepts, Blames, IsTooMuch}
use Rattle.grasp_replay_main.specs.Gen.{Summarizes, Overruns}
use Rattle.grasp_replay_main.specs.Pack.{Packs}
use Rattle.grasp_replay_main.specs.Record.{Records}
use Rattle.grasp_replay_main.specs.Replay.{Settles, Stops, StopsSettling}
use Rattle.grasp_replay_main.specs.Show.{Shows}
use Rattle.grasp_wire.specs.declared.fault.CutFault.TheVariants as cut
use Rattle.grasp_replay_main.specs.declared.exit.Finding.{Finding}
use Rattle.grasp_replay_main.specs.declared.exit.Finding.TheVariants as finding
use Rattle.grasp_replay_main.specs.declared.exit.Status.{Status}
use Rattle.grasp_replay_main.specs.declared.exit.Status.TheVariants as status
use Rattle.grasp_replay_main.specs.Limits.{input_limit, line_limit}
use Rattle.grasp_replay_main.specs.declared.task.Task.{Task}
use Rattle.grasp_replay_main.specs.declared.task.Task.TheVariants.{Show, Pack, Replay, Keep, Resolve, Record, Audit, Gen, Draw}
use Rattle.grasp_replay_main.specs.declared.unfinished.Unfinished.{Unfinished}
use Rattle.grasp_replay_main.specs.declared.unfinished.Unfinished.TheVariants as unfinished

-- what one word asks for
abbrev pub task_named : List ℕ → Option Task
task_named word =
    if bytes_eq word (codes "show") then Some Show else if bytes_eq word (codes "pack") then Some Pack else if bytes_eq word (codes "replay") then Some Replay
    else if bytes_eq word (codes "keep") then Some Keep else if bytes_eq word (codes "resolve") then Some Resolve
    else if bytes_eq word (codes "record") then Some Record else if bytes_eq word (codes "audit") then Some Audit else None

-- what a word and a number ask for; the number is decimal, below 2 ^ 64
abbrev pub task_numbered : List ℕ → List ℕ → Option Task
task_numbered word number =
    if bytes_eq word (codes "gen") then option_map Gen (number_of 18446744073709551615 number)
    else if bytes_eq word (codes "draw") then option_map Draw (number_of 18446744073709551615 number) else None

-- what the words ask for: one word does, or a word and a number
abbrev pub task_of : List (List ℕ) → Option Task
task_of [] = None
task_of (word ∷ []) = task_named word
task_of (word ∷ number ∷ []) = task_numbered word number
task_of (word ∷ number ∷ other ∷ words) = None

-- the task reads its input; `gen` and `draw` have none
abbrev pub ReadsInput : Task → Type 0
ReadsInput Show = ⊤
ReadsInput Pack = ⊤
ReadsInput Replay = ⊤
ReadsInput Keep = ⊤
ReadsInput Resolve = ⊤
ReadsInput Record = ⊤
ReadsInput Audit = ⊤
ReadsInput (Gen number) = ⊥
ReadsInput (Draw number) = ⊥

-- the input of the task, where it is known: what was left to read, and nothing where it reads none
abbrev pub input_of : Task → Option (List ℕ) → Option (List ℕ)
input_of Show left = left
input_of Pack left = left
input_of Replay left = left
input_of Keep left = left
input_of Resolve left = left
input_of Record left = left
input_of Audit left = left
input_of (Gen number) left = Some []
input_of (Draw number) left = Some []

-- some input has P; where the task's input is known, it is this one
pub record SomeInput (known : Option (List ℕ)) (P : List ℕ → Type 0) : Type 0 where
  pub input : List ℕ
  pub told : IfSome known (λ all. input ≡ all)
  pub holds : P input

-- all is made, or what comes before a finding
abbrev pub IsUpToFinding : (Option Finding → Type 0) → Status → Type 0
IsUpToFinding F status.Ok = F None
IsUpToFinding F (status.Finding finding) = F (Some finding)
IsUpToFinding F status.Usage = ⊥
IsUpToFinding F (status.BadScript line) = ⊥
IsUpToFinding F status.ReadFault = ⊥
IsUpToFinding F status.WriteFault = ⊥
IsUpToFinding F status.OutOfMemory = ⊥
IsUpToFinding F status.TooLarge = ⊥

-- all is made, as P says, or a run is cut off, since it sends too much, as Q says
abbrev pub IsUpToStop : Type 0 → Type 0 → Status → Type 0
IsUpToStop P Q status.Ok = P
IsUpToStop P Q status.TooLarge = Q
IsUpToStop P Q (status.Finding finding) = ⊥
IsUpToStop P Q status.Usage = ⊥
IsUpToStop P Q (status.BadScript line) = ⊥
IsUpToStop P Q status.ReadFault = ⊥
IsUpToStop P Q status.WriteFault = ⊥
IsUpToStop P Q status.OutOfMemory = ⊥

-- what `show` makes of an input: all of it, or up to a finding
abbrev pub ShowMakes : ℕ → List ℕ → List ℕ → Status → Type 0
ShowMakes limit input output ended = IsUpToFinding (Shows limit input output) ended

-- what `pack` makes of an input: all of it, or up to a finding
abbrev pub PackMakes : ℕ → List ℕ → List ℕ → Status → Type 0
PackMakes limit input output ended = IsUpToFinding (Packs limit input output) ended

-- what `replay` makes of an input: the text of its whole run, or of the run up to the line that sends too much
abbrev pub ReplayMakes : List ℕ → List ℕ → Status → Type 0
ReplayMakes input output ended = IsUpToStop (Replays input output) (Stops input output) ended

-- what `keep` makes of an input: the text of the whole run of its network, whose nodes may crash, or of the run up to the line that sends too much
abbrev pub KeepMakes : List ℕ → List ℕ → Status → Type 0
KeepMakes input output ended = IsUpToStop (KeepsReporting input output) (StopsKeeping input output) ended

-- what `resolve` makes of an input: the text of the whole run of its network of doubters, or of the run up to the line that sends too much; each
-- prefix that was settled until then was asked for, and is accepted never
abbrev pub ResolveMakes : List ℕ → List ℕ → Status → Type 0
ResolveMakes input output ended = IsUpToStop (Settles input output) (StopsSettling input output) ended

-- what `record` makes of an input: the record of its whole run, or of the run up to the line that sends too much
abbrev pub RecordMakes : List ℕ → List ℕ → Status → Type 0
RecordMakes input output ended = IsUpToStop (Records input output) (IsStoppedRecordOf input output) ended

-- what `audit` makes of an input: a line where it is the record of a run, and else nothing: then the first line that fails is told, or that line
-- sends too much
abbrev pub AuditMakes : List ℕ → List ℕ → Status → Type 0
AuditMakes input output status.Ok = Accepts input output
AuditMakes input output (status.Finding finding) = (output ≡ []) × Blames input finding
AuditMakes input output status.TooLarge = (output ≡ []) × IsTooMuch input
AuditMakes input output status.Usage = ⊥
AuditMakes input output (status.BadScript line) = ⊥
AuditMakes input output status.ReadFault = ⊥
AuditMakes input output status.WriteFault = ⊥
AuditMakes input output status.OutOfMemory = ⊥

-- what `gen` makes of a number: the summary of the whole run, or nothing where the run sends too much
abbrev pub GenMakes : ℕ → List ℕ → Status → Type 0
GenMakes number output ended = IsUpToStop (Summarizes number output) ((output ≡ []) × Overruns number) ended

-- what `draw` makes of a number: the script that is drawn from it
abbrev pub DrawMakes : ℕ → List ℕ → Status → Type 0
DrawMakes number output ended = IsUpToStop (output ≡ script_of number) ⊥ ended

-- what the task makes of an input: the output, and the status with which the program ends once it is written
abbrev pub Makes : Task → ℕ → List ℕ → List ℕ → Status → Type 0
Makes Show limit input output ended = ShowMakes limit input output ended
Makes Pack limit input output ended = PackMakes limit input output ended
Makes Replay limit input output ended = ReplayMakes input output ended
Makes Keep limit input output ended = KeepMakes input output ended
Makes Resolve limit input output ended = ResolveMakes input output ended
Makes Record limit input output ended = RecordMakes input output ended
Makes Audit limit input output ended = AuditMakes input output ended
Makes (Gen number) limit input output ended = GenMakes number output ended
Makes (Draw number) limit input output ended = DrawMakes number output ended

-- where the task is cut off, a beginning of this may have been written: of what it makes of the input, or of what the run of a
-- script reports, or its record has, as far as it goes
abbrev pub MayBegin : Task → ℕ → List ℕ → List ℕ → Type 0
MayBegin Show limit input output = (ended : Status) × ShowMakes limit input output ended
MayBegin Pack limit input output = (ended : Status) × PackMakes limit input output ended
MayBegin Replay limit input output = BeginsToReplay input output
MayBegin Keep limit input output = BeginsToKeep input output
MayBegin Resolve limit input output = BeginsToResolve input output
MayBegin Record limit input output = BeginsRecordOf input output
MayBegin Audit limit input output = Accepts input output
MayBegin (Gen number) limit input output = Summarizes number output
MayBegin (Draw number) limit input output = output ≡ script_of number

-- the input is to be run as a script, and has more lines than one may have
abbrev pub HasTooManyLines : Task → List ℕ → Type 0
HasTooManyLines Show input = ⊥
HasTooManyLines Pack input = ⊥
HasTooManyLines Replay input = line_limit < length (text_lines input)
HasTooManyLines Keep input = line_limit < length (text_lines input)
HasTooManyLines Resolve input = line_limit < length (text_lines input)
HasTooManyLines Record input = line_limit < length (text_lines input)
HasTooManyLines Audit input = ⊥
HasTooManyLines (Gen number) input = ⊥
HasTooManyLines (Draw number) input = ⊥

-- the input is read, and has too many bytes
abbrev pub HasTooManyBytes : Task → List ℕ → Type 0
HasTooManyBytes Show input = input_limit < length input
HasTooManyBytes Pack input = input_limit < length input
HasTooManyBytes Replay input = input_limit < length input
HasTooManyBytes Keep input = input_limit < length input
HasTooManyBytes Resolve input = input_limit < length input
HasTooManyBytes Record input = input_limit < length input
HasTooManyBytes Audit input = input_limit < length input
HasTooManyBytes (Gen number) input = ⊥
HasTooManyBytes (Draw number) input = ⊥

-- the input has too many bytes, or too many lines
abbrev pub IsTooLarge : Task → List ℕ → Type 0
IsTooLarge task input = HasTooManyBytes task input ⊎ HasTooManyLines task input

-- Inside: a script is run that sends more than may be sent: the input, or the one that is drawn; or the input is a record that does so
abbrev pub RunsTooFar : Task → List ℕ → Type 0
RunsTooFar Show input = ⊥
RunsTooFar Pack input = ⊥
RunsTooFar Replay input = TextSendsTooMuch input
RunsTooFar Keep input = KeepsTooMuch input
RunsTooFar Resolve input = ResolvesTooMuch input
RunsTooFar Record input = TextSendsTooMuch input
RunsTooFar Audit input = IsTooMuch input
RunsTooFar (Gen number) input = Overruns number
RunsTooFar (Draw number) input = ⊥

-- the input is to be run as a script, and is none: this line is bad
abbrev pub IsBadScript : Task → List ℕ → ℕ → Type 0
IsBadScript Show input line = ⊥
IsBadScript Pack input line = ⊥
IsBadScript Replay input line = IsBadLine input line × IsNoScript input
IsBadScript Keep input line = IsBadKeptLine input line × IsNoKeptScript input
IsBadScript Resolve input line = IsBadDoubtLine input line × IsNoDoubtScript input
IsBadScript Record input line = IsBadLine input line × IsNoScript input
IsBadScript Audit input line = ⊥
IsBadScript (Gen number) input line = ⊥
IsBadScript (Draw number) input line = ⊥

-- Inside: why the output that the task makes of the input isn't written whole
abbrev pub IsUnfinished : Task → List ℕ → Unfinished → Type 0
IsUnfinished task input unfinished.TooLarge = HasTooManyLines task input
IsUnfinished task input (unfinished.BadScript line) = IsBadScript task input line × ¬ HasTooManyLines task input
IsUnfinished task input unfinished.TooMuch = RunsTooFar task input × ¬ HasTooManyLines task input
IsUnfinished task input unfinished.OutOfMemory = ⊤
IsUnfinished task input unfinished.WriteFault = ¬ HasTooManyLines task input

-- some input, which is what was left to read where that is told and the task reads it, isn't too large; what the task makes of
-- it was written after what was written before, and nothing else, where that is told
pub record Tells (task : Task) (limit : ℕ) (left before after : Option (List ℕ)) (ended : Status) : Type 0 where
  pub input : List ℕ
  pub told : ReadsInput task → IfSome left (λ all. input ≡ all)
  pub small : ¬ IsTooLarge task input
  pub output : List ℕ
  pub makes : Makes task limit input output ended
  pub written : Appends before after output

-- the task was cut off on an input, which is what was left to read where that is known and the task reads it; of an output that the task
-- may begin to write for it, a prefix of the bytes was written
pub record BeginsToTell (task : Task) (limit : ℕ) (left before after : Option (List ℕ)) : Type 0 where
  pub input : List ℕ
  pub told : ReadsInput task → IfSome left (λ all. input ≡ all)
  pub output : List ℕ
  pub begins : MayBegin task limit input output
  pub written : AppendsFront before after output

-- what was left, where it is told, was read to its end
abbrev pub IsReadToEnd : Option (List ℕ) → Option (List ℕ) → Type 0
IsReadToEnd None after = ⊤
IsReadToEnd (Some input) after = after ≡ Some []

-- a finding isn't want of memory
abbrev pub IsOfInput : Status → Type 0
IsOfInput (status.Finding (finding.Cut cut.OutOfMemory)) = ⊥
IsOfInput (status.Finding (finding.Cut fault)) = ⊤
IsOfInput (status.Finding (finding.Truncated at)) = ⊤
IsOfInput (status.Finding (finding.BadText line at)) = ⊤
IsOfInput (status.Finding (finding.TooLong line)) = ⊤
IsOfInput (status.Finding (finding.BadRecord line)) = ⊤
IsOfInput (status.Finding (finding.NotSent line)) = ⊤
IsOfInput (status.Finding (finding.NotAgent line)) = ⊤
IsOfInput (status.Finding (finding.NotStep line)) = ⊤
IsOfInput status.Ok = ⊤
IsOfInput status.Usage = ⊤
IsOfInput (status.BadScript line) = ⊤
IsOfInput status.ReadFault = ⊤
IsOfInput status.WriteFault = ⊤
IsOfInput status.OutOfMemory = ⊤
IsOfInput status.TooLarge = ⊤

-- all was read, and all that the task makes of it was written
abbrev pub IsDone : Status → Type 0
IsDone status.Ok = ⊤
IsDone (status.Finding finding) = ⊤
IsDone status.Usage = ⊥
IsDone (status.BadScript line) = ⊥
IsDone status.ReadFault = ⊥
IsDone status.WriteFault = ⊥
IsDone status.OutOfMemory = ⊥
IsDone status.TooLarge = ⊥

-- How the task ends on an input within the program's limits while nothing outside fails: with what it makes of the
-- input, which is cut off where a run sends too much, at the bad line of what is no script, or by want of memory.
abbrev pub IsOutcome : Task → ℕ → List ℕ → Status → Type 0
IsOutcome task limit input status.Ok = (output : List ℕ) × Makes task limit input output status.Ok
IsOutcome task limit input (status.Finding finding) = (output : List ℕ) × Makes task limit input output (status.Finding finding)
IsOutcome task limit input (status.BadScript line) = IsBadScript task input line
IsOutcome task limit input status.OutOfMemory = ⊤
IsOutcome task limit input status.Usage = ⊥
IsOutcome task limit input status.ReadFault = ⊥
IsOutcome task limit input status.WriteFault = ⊥
IsOutcome task limit input status.TooLarge = (output : List ℕ) × Makes task limit input output status.TooLarge

-- the task ended well, or ran out of memory
abbrev pub IsOkOrMemory : Status → Type 0
IsOkOrMemory status.Ok = ⊤
IsOkOrMemory status.OutOfMemory = ⊤
IsOkOrMemory (status.Finding finding) = ⊥
IsOkOrMemory status.Usage = ⊥
IsOkOrMemory (status.BadScript line) = ⊥
IsOkOrMemory status.ReadFault = ⊥
IsOkOrMemory status.WriteFault = ⊥
IsOkOrMemory status.TooLarge = ⊥
