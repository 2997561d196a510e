-- How the run of a script ends.
use Rattle.std.proofs.Common.{◌≡◌, refl, sym, subst, ◌∙◌, ap, arith, ℕ, ◌+◌, ◌<◌, ◌^◌, List, [], ◌∷◌, ◌++◌, length, length-append, Option}
use Rattle.std.proofs.lemmas.List.{append-nil}
use Rattle.std.specs.Io.KnownBytes.{Appends}
use Rattle.grasp_io.specs.Known.{AppendsFront}
use Rattle.grasp_io.proofs.Streams.{passes_then_all, passes_then_held}
use Rattle.grasp_model_network.specs.Plans.{IsGoodPlan}
use Rattle.grasp_model_network.specs.Setting.{script_setting}
use Rattle.grasp_model_network.specs.declared.plan.WorldPlan.{WorldPlan}
use Rattle.std.proofs.lemmas.List.Elements.{All-nil, All-push}
use Rattle.grasp_disk.specs.Memory.{MemDiskState}
use Rattle.grasp_kept.specs.Contract.{kept_network_of}
use Rattle.grasp_kept.specs.Disks.{AreEmpty, IsEmptyDisk}
use Rattle.grasp_kept.specs.Stands.{KeptWorldStands, steps_of}
use Rattle.grasp_kept.specs.declared.kept_world.KeptWorld.{KeptWorld}
use Rattle.grasp_script_kept.specs.declared.line.KeptLine.{KeptLine}
use Rattle.grasp_script_kept.specs.declared.script.KeptScript.{KeptScript}
use Rattle.grasp_model_script_kept.specs.Laws.{EachKeptRunIsSafe}
use Rattle.grasp_runner.specs.Written.{Writes, Begins}
use Rattle.grasp_runner.proofs.Ends.{nothing_front}
use Rattle.grasp_model_script_kept.specs.LineRuns.{KeptLineRun}
use Rattle.grasp_runner_kept.specs.Passing.{AllWritten, BegunWritten, IsReady, StopsSo, StoppedWritten}
use Rattle.grasp_model_script_kept.specs.ScriptRuns.{IsKeptBegunText, IsKeptRunText, IsKeptStoppedText, KeptSendsTooMuch, MayRunAllKept, RunsKeptSafely, kept_lines_of, kept_of, kept_told_of}
use Rattle.grasp_runner_kept.specs.Scripts.{IsKeptRead}
use Rattle.grasp_model_script_kept.proofs.MoreLines.{as_many}

pub good_plan : (script : KeptScript) → IsKeptRead script → IsGoodPlan script.plan
good_plan script read = read.1.is_header.good

module _ (safe : EachKeptRunIsSafe) (script : KeptScript) (read : IsKeptRead script) (few : length script.lines < 2 ^ 32) where
  safely : (run : List KeptLineRun) (rest : List KeptLine) → kept_lines_of run ++ rest ≡ script.lines → MayRunAllKept (script_setting script.plan) (kept_of script.plan) run → RunsKeptSafely script.plan run
  safely run rest is may =
      safe script.plan run (good_plan script read) (omega (arith, few, as_many run, length-append (kept_lines_of run) rest, ap (λ (l : List KeptLine). length l) is)) may

  -- some of the lines were run, and a front of their reports was written
  begun : (run : List KeptLineRun) (rest : List KeptLine) (a b : Option (List ℕ)) → kept_lines_of run ++ rest ≡ script.lines → MayRunAllKept (script_setting script.plan) (kept_of script.plan) run
      → AppendsFront a b (kept_told_of script.plan run) → Begins (IsKeptBegunText script.plan script.lines) a b
  begun run rest a b is may front =
      record { output = kept_told_of script.plan run; made = record { run = run; rest = rest; is_run = is; safely = safely run rest is may; told = refl }; written = front }

  -- none was
  pub begun_nothing : (a : Option (List ℕ)) → Begins (IsKeptBegunText script.plan script.lines) a a
  unfolding MayRunAllKept
  begun_nothing a = begun [] script.lines a a refl tt (nothing_front a (kept_told_of script.plan []))

  pub begun_some : (a b : Option (List ℕ)) → BegunWritten script.plan script.lines a b → Begins (IsKeptBegunText script.plan script.lines) a b
  begun_some a b h = begun h.run h.rest a b h.is_run h.may_run h.front

  whole : (run : List KeptLineRun) → kept_lines_of run ≡ script.lines → kept_lines_of run ++ [] ≡ script.lines
  whole run is = append-nil (kept_lines_of run) ∙ is

  -- all were, and all is written
  pub all_done : (a b c : Option (List ℕ)) (held : List ℕ) → AllWritten script.plan script.lines a b held → Appends b c held → Writes (IsKeptRunText script.plan script.lines) a c
  all_done a b c held h rest = record {
    output = kept_told_of script.plan h.run;
    made = record { run = h.run; is_run = h.is_run; safely = safely h.run [] (whole h.run h.is_run) h.may_run; told = refl };
    written = passes_then_all a b c held (kept_told_of script.plan h.run) h.passes rest;
  }

  -- or a front of it
  pub all_begun : (a b c : Option (List ℕ)) (held : List ℕ) → AllWritten script.plan script.lines a b held → AppendsFront b c held → Begins (IsKeptBegunText script.plan script.lines) a c
  all_begun a b c held h front = begun h.run [] a c (whole h.run h.is_run) h.may_run (passes_then_held a b c held (kept_told_of script.plan h.run) h.passes front)

  -- a line sends too much
  pub sends_too_much : StopsSo script.plan script.lines → KeptSendsTooMuch script.plan script.lines
  sends_too_much h = record { run = h.run; line = h.line; rest = h.rest; is_run = h.is_run; safely = safely h.run (h.line ∷ h.rest) h.is_run h.may_run; overflows = h.overflows }

  pub stop_done : (a b c : Option (List ℕ)) (held : List ℕ) → StoppedWritten script.plan script.lines a b held → Appends b c held → Writes (IsKeptStoppedText script.plan script.lines) a c
  unfolding sends_too_much
  stop_done a b c held h rest = record {
    output = kept_told_of script.plan h.stops.run;
    made = record { stops = sends_too_much h.stops; told = refl };
    written = passes_then_all a b c held (kept_told_of script.plan h.stops.run) h.passes rest;
  }

  pub stop_begun : (a b c : Option (List ℕ)) (held : List ℕ) → StoppedWritten script.plan script.lines a b held → AppendsFront b c held → Begins (IsKeptBegunText script.plan script.lines) a c
  stop_begun a b c held h front =
      let x = h.stops in
      begun x.run (x.line ∷ x.rest) a c x.is_run x.may_run (passes_then_held a b c held (kept_told_of script.plan x.run) h.passes front)

-- ---- the beginning

pub plan_copied : (script : KeptScript) (lent plan : WorldPlan) → IsKeptRead script → lent ≡ script.plan → plan ≡ lent → IsGoodPlan plan
plan_copied script lent plan read is copied = subst (λ (p : WorldPlan). IsGoodPlan p) (sym (copied ∙ is)) (good_plan script read)

pub ready : (script : KeptScript) (lent plan : WorldPlan) (code : KeptWorld) → IsKeptRead script → length script.lines < 2 ^ 32 → lent ≡ script.plan → plan ≡ lent → KeptWorldStands code (kept_network_of plan) → steps_of code ≡ 0
    → IsReady code script
ready script lent plan code read few is copied opened none = record { read = read; few = few; none_made = none; opened = subst (λ (p : WorldPlan). KeptWorldStands code (kept_network_of p)) (copied ∙ is) opened }

pub none_empty : (disks : List MemDiskState) → disks ≡ [] → AreEmpty 0 disks
none_empty disks none = subst (λ (l : List MemDiskState). AreEmpty 0 l) (sym none) (record { count = refl; each = All-nil IsEmptyDisk })

pub one_more_empty : (n : ℕ) (disks after : List MemDiskState) (disk : MemDiskState) → AreEmpty n disks → IsEmptyDisk disk → after ≡ disks ++ disk ∷ [] → AreEmpty (n + 1) after
one_more_empty n disks after disk are empty pushed =
    subst (λ (l : List MemDiskState). AreEmpty (n + 1) l) (sym pushed)
    (record { count = omega (arith, length-append disks (disk ∷ []), are.count); each = All-push IsEmptyDisk disks disk are.each empty })

pub all_empty : (n nodes : ℕ) (disks : List MemDiskState) → AreEmpty n disks → n ≡ nodes → AreEmpty nodes disks
all_empty n nodes disks are is = subst (λ (m : ℕ). AreEmpty m disks) is are
