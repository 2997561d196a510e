-- What is written of the run of a network of doubters, with what is so of the prefixes that were settled in it.
use Rattle.std.proofs.Common.{ℕ, List, Option}
use Rattle.grasp_laws_settled.specs.Resolved.{EachDoubtIsResolved}
use Rattle.grasp_model_network.specs.Setting.{script_setting}
use Rattle.grasp_model_network.specs.declared.plan.WorldPlan.{WorldPlan}
use Rattle.grasp_model_script_doubts.specs.ScriptRuns.{IsDoubtRunText, IsDoubtStoppedText, doubts_of, state_after}
use Rattle.grasp_replay_main.specs.Replay.{Settles, StopsSettling}
use Rattle.grasp_replay_main.specs.Task.{ResolveMakes}
use Rattle.grasp_replay_main.specs.Written.{Writes}
use Rattle.grasp_replay_main.specs.declared.exit.Status.TheVariants as status
use Rattle.grasp_runner.specs.Written as ran
use Rattle.grasp_script_doubts.specs.Scripts.{IsDoubtScript}
use Rattle.grasp_script_doubts.specs.declared.line.DoubtLine.{DoubtLine}

module _ (law : EachDoubtIsResolved) (input : List ℕ) (plan : WorldPlan) (lines : List DoubtLine) (script : IsDoubtScript input plan lines) where
  settles : (output : List ℕ) → IsDoubtRunText plan lines output → Settles input output
  settles output run = record {
    resolves = record { plan = plan; lines = lines; script = script; run = run };
    settled = law (script_setting plan) (state_after (script_setting plan) (doubts_of plan) run.run) run.safely.doubted;
  }

  stops_settling : (output : List ℕ) → IsDoubtStoppedText plan lines output → StopsSettling input output
  stops_settling output run = record {
    stops = record { plan = plan; lines = lines; script = script; stopped = run };
    settled = law (script_setting plan) (state_after (script_setting plan) (doubts_of plan) run.stops.run) run.stops.safely.doubted;
  }

  -- the whole run
  pub resolve_written : (before after : Option (List ℕ)) → ran.Writes (IsDoubtRunText plan lines) before after
      → Writes (ResolveMakes input) before after status.Ok
  resolve_written before after w = record { output = w.output; makes = settles w.output w.made; written = w.written }

  -- the run up to the line that sends too much
  pub resolve_stopped : (before after : Option (List ℕ)) → ran.Writes (IsDoubtStoppedText plan lines) before after
      → Writes (ResolveMakes input) before after status.TooLarge
  resolve_stopped before after w = record { output = w.output; makes = stops_settling w.output w.made; written = w.written }
