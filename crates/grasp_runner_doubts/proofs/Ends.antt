-- How the run of a script ends.
use Rattle.std.proofs.Common.{◌≡◌, refl, sym, subst, ◌∙◌, List, [], ◌∷◌, ◌++◌, ℕ, Option}
use Rattle.std.proofs.lemmas.List.{append-nil}
use Rattle.std.specs.Io.KnownBytes.{Appends}
use Rattle.grasp_io.specs.Known.{AppendsFront}
use Rattle.grasp_io.proofs.Streams.{passes_then_all, passes_then_held}
use Rattle.grasp_model_network.specs.Plans.{IsGoodPlan}
use Rattle.grasp_model_network.specs.Setting.{script_setting}
use Rattle.grasp_model_network.specs.declared.plan.WorldPlan.{WorldPlan}
use Rattle.grasp_doubts.specs.Contract.{doubt_network_of}
use Rattle.grasp_doubts.specs.Stands.{DoubtWorldStands}
use Rattle.grasp_doubts.specs.declared.doubt_world.DoubtWorld.{DoubtWorld}
use Rattle.grasp_script_doubts.specs.declared.line.DoubtLine.{DoubtLine}
use Rattle.grasp_script_doubts.specs.declared.script.DoubtScript.{DoubtScript}
use Rattle.grasp_model_script_doubts.specs.Laws.{EachDoubtRunIsSafe}
use Rattle.grasp_model_script_doubts.specs.LineRuns.{DoubtLineRun}
use Rattle.grasp_model_script_doubts.specs.ScriptRuns.{DoubtsSendTooMuch, IsDoubtBegunText, IsDoubtRunText, IsDoubtStoppedText, MayRunAllDoubts, RunsDoubtsSafely, doubt_lines_of, doubt_told_of, doubts_of}
use Rattle.grasp_runner.specs.Written.{Writes, Begins}
use Rattle.grasp_runner.proofs.Ends.{nothing_front}
use Rattle.grasp_runner_doubts.specs.Passing.{AllWritten, BegunWritten, IsReady, StopsSo, StoppedWritten}
use Rattle.grasp_runner_doubts.specs.Scripts.{IsDoubtRead}

good_plan : (script : DoubtScript) → IsDoubtRead script → IsGoodPlan script.plan
good_plan script read = read.1.is_header.good

module _ (safe : EachDoubtRunIsSafe) (script : DoubtScript) (read : IsDoubtRead script) where
  safely : (run : List DoubtLineRun) → MayRunAllDoubts (script_setting script.plan) (doubts_of script.plan) run → RunsDoubtsSafely script.plan run
  safely run may = safe script.plan run (good_plan script read) may

  -- some of the lines were run, and a front of their reports was written
  begun : (run : List DoubtLineRun) (rest : List DoubtLine) (a b : Option (List ℕ)) → doubt_lines_of run ++ rest ≡ script.lines
      → MayRunAllDoubts (script_setting script.plan) (doubts_of script.plan) run → AppendsFront a b (doubt_told_of script.plan run)
      → Begins (IsDoubtBegunText script.plan script.lines) a b
  begun run rest a b is may front = record {
    output = doubt_told_of script.plan run;
    made = record { run = run; rest = rest; is_run = is; safely = safely run may; told = refl };
    written = front;
  }

  -- none was
  pub begun_nothing : (a : Option (List ℕ)) → Begins (IsDoubtBegunText script.plan script.lines) a a
  unfolding MayRunAllDoubts
  begun_nothing a = begun [] script.lines a a refl tt (nothing_front a (doubt_told_of script.plan []))

  pub begun_some : (a b : Option (List ℕ)) → BegunWritten script.plan script.lines a b → Begins (IsDoubtBegunText script.plan script.lines) a b
  begun_some a b h = begun h.run h.rest a b h.is_run h.may_run h.front

  whole : (run : List DoubtLineRun) → doubt_lines_of run ≡ script.lines → doubt_lines_of run ++ [] ≡ script.lines
  whole run is = append-nil (doubt_lines_of run) ∙ is

  -- all were, and all is written
  pub all_done : (a b c : Option (List ℕ)) (held : List ℕ) → AllWritten script.plan script.lines a b held → Appends b c held
      → Writes (IsDoubtRunText script.plan script.lines) a c
  all_done a b c held h rest = record {
    output = doubt_told_of script.plan h.run;
    made = record { run = h.run; is_run = h.is_run; safely = safely h.run h.may_run; told = refl };
    written = passes_then_all a b c held (doubt_told_of script.plan h.run) h.passes rest;
  }

  -- or a front of it
  pub all_begun : (a b c : Option (List ℕ)) (held : List ℕ) → AllWritten script.plan script.lines a b held → AppendsFront b c held
      → Begins (IsDoubtBegunText script.plan script.lines) a c
  all_begun a b c held h front =
      begun h.run [] a c (whole h.run h.is_run) h.may_run (passes_then_held a b c held (doubt_told_of script.plan h.run) h.passes front)

  -- a line sends too much
  pub sends_too_much : StopsSo script.plan script.lines → DoubtsSendTooMuch script.plan script.lines
  sends_too_much h =
      record { run = h.run; line = h.line; rest = h.rest; is_run = h.is_run; safely = safely h.run h.may_run; overflows = h.overflows }

  pub stop_done : (a b c : Option (List ℕ)) (held : List ℕ) → StoppedWritten script.plan script.lines a b held → Appends b c held
      → Writes (IsDoubtStoppedText script.plan script.lines) a c
  unfolding sends_too_much
  stop_done a b c held h rest = record {
    output = doubt_told_of script.plan h.stops.run;
    made = record { stops = sends_too_much h.stops; told = refl };
    written = passes_then_all a b c held (doubt_told_of script.plan h.stops.run) h.passes rest;
  }

  pub stop_begun : (a b c : Option (List ℕ)) (held : List ℕ) → StoppedWritten script.plan script.lines a b held → AppendsFront b c held
      → Begins (IsDoubtBegunText script.plan script.lines) a c
  stop_begun a b c held h front =
      let x = h.stops in
      begun x.run (x.line ∷ x.rest) a c x.is_run x.may_run (passes_then_held a b c held (doubt_told_of script.plan x.run) h.passes front)

-- ---- the beginning

pub plan_copied : (script : DoubtScript) (lent plan : WorldPlan) → IsDoubtRead script → lent ≡ script.plan → plan ≡ lent → IsGoodPlan plan
plan_copied script lent plan read is copied = subst (λ (p : WorldPlan). IsGoodPlan p) (sym (copied ∙ is)) (good_plan script read)

pub ready : (script : DoubtScript) (lent plan : WorldPlan) (code : DoubtWorld) → IsDoubtRead script → lent ≡ script.plan → plan ≡ lent
    → DoubtWorldStands code (doubt_network_of plan) → IsReady code script
ready script lent plan code read is copied opened =
    record { read = read; opened = subst (λ (p : WorldPlan). DoubtWorldStands code (doubt_network_of p)) (copied ∙ is) opened }
