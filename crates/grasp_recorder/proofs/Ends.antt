-- How the record of a script ends.
use Rattle.std.proofs.Common.{◌≡◌, refl, ◌∙◌, ap, ℕ, List, [], ◌∷◌, ◌++◌, append-nil, Option}
use Rattle.std.specs.Io.KnownBytes.{Appends}
use Rattle.grasp_io.specs.Known.{AppendsFront}
use Rattle.grasp_io.proofs.Streams.{passes_then_all, passes_then_held}
use Rattle.grasp_model_network.specs.Runs.{world_of}
use Rattle.grasp_model_network.specs.Setting.{script_setting}
use Rattle.grasp_script.specs.Scripts.{IsScript}
use Rattle.grasp_script.specs.declared.line.Line.{Line}
use Rattle.grasp_script.specs.declared.script.Script.{Script}
use Rattle.grasp_model_script.specs.Laws.{EachRunIsSafe}
use Rattle.grasp_model_script.specs.LineRuns.{LineRun}
use Rattle.grasp_model_script.specs.ScriptRuns.{MayRunAll, RunsSafely, lines_of}
use Rattle.grasp_model_script.specs.Stops.{SendsTooMuch, TextSendsTooMuch}
use Rattle.grasp_model_audit.specs.RecordRuns.{BeginsRecordOf, IsRecordOf, IsScriptOf, IsStoppedRecordOf, record_of}
use Rattle.grasp_model_audit.specs.Recording.{ended_lines}
use Rattle.grasp_runner.proofs.Ends.{nothing_front}
use Rattle.grasp_runner.specs.Passing.{StopsSo}
use Rattle.grasp_runner.specs.Written.{Begins, Writes}
use Rattle.grasp_recorder.specs.Passing.{AllRecorded, BegunRecorded, StoppedRecorded, header_in}
use Rattle.grasp_recorder.proofs.Headers.{header_is}

module _ (safe : EachRunIsSafe) (text : List ℕ) (script : Script) (read : IsScript text script.plan script.lines) where
  abbrev header : List (List ℕ)
  header = header_in text script.lines

  runs_safely : (run : List LineRun) → MayRunAll (script_setting script.plan) (world_of script.plan) run → RunsSafely script.plan run
  runs_safely run may = safe script.plan run read.is_header.good may

  -- the text is the script with this header
  script_of : IsScriptOf text read.header script.plan script.lines
  script_of = record { is_header = read.is_header; meant = read.meant; parts = read.parts }

  record_is : (run : List LineRun) → record_of header script.plan run ≡ record_of read.header script.plan run
  record_is run = ap (λ (h : List (List ℕ)). record_of h script.plan run) (header_is text script.plan script.lines read)

  -- some of the lines were run, and a front of their record was written
  begun : (run : List LineRun) (rest : List Line) (a b : Option (List ℕ)) → lines_of run ++ rest ≡ script.lines → MayRunAll (script_setting script.plan) (world_of script.plan) run → AppendsFront a b (record_of header script.plan run)
      → Begins (BeginsRecordOf text) a b
  begun run rest a b is may front = record {
    output = record_of header script.plan run;
    made = record {
      header = read.header;
      plan = script.plan;
      lines = script.lines;
      rest = rest;
      script = script_of;
      run = run;
      is_run = is;
      safely = runs_safely run may;
      told = record_is run;
    };
    written = front;
  }

  -- none was
  pub begun_nothing : (a : Option (List ℕ)) → Begins (BeginsRecordOf text) a a
  unfolding MayRunAll
  begun_nothing a = begun [] script.lines a a refl tt (nothing_front a (record_of header script.plan []))

  pub begun_some : (a b : Option (List ℕ)) → BegunRecorded script.plan script.lines a (ended_lines header) b → Begins (BeginsRecordOf text) a b
  begun_some a b h = begun h.run h.rest a b h.is_run h.may_run h.front

  -- all were, and all is written
  pub all_done : (a b c : Option (List ℕ)) (held : List ℕ) → AllRecorded script.plan script.lines a (ended_lines header) b held → Appends b c held → Writes (IsRecordOf text) a c
  all_done a b c held h rest = record {
    output = record_of header script.plan h.run;
    made = record {
      header = read.header;
      plan = script.plan;
      lines = script.lines;
      script = script_of;
      run = h.run;
      is_run = h.is_run;
      safely = runs_safely h.run h.may_run;
      told = record_is h.run;
    };
    written = passes_then_all a b c held (record_of header script.plan h.run) h.passes rest;
  }

  -- or a front of it
  pub all_begun : (a b c : Option (List ℕ)) (held : List ℕ) → AllRecorded script.plan script.lines a (ended_lines header) b held → AppendsFront b c held → Begins (BeginsRecordOf text) a c
  all_begun a b c held h front =
      begun h.run [] a c (append-nil (lines_of h.run) ∙ h.is_run) h.may_run (passes_then_held a b c held (record_of header script.plan h.run) h.passes front)

  -- a line sends too much
  stops_safely : StopsSo script.plan script.lines → SendsTooMuch script.plan script.lines
  stops_safely x = record { run = x.run; line = x.line; rest = x.rest; is_run = x.is_run; safely = runs_safely x.run x.may_run; overflows = x.overflows }

  pub sends_too_much : StopsSo script.plan script.lines → TextSendsTooMuch text
  sends_too_much x = record { plan = script.plan; lines = script.lines; script = read; stops = stops_safely x }

  pub stop_done : (a b c : Option (List ℕ)) (held : List ℕ) → StoppedRecorded script.plan script.lines a (ended_lines header) b held → Appends b c held → Writes (IsStoppedRecordOf text) a c
  unfolding stops_safely
  stop_done a b c held h rest = record {
    output = record_of header script.plan h.stops.run;
    made = record {
      header = read.header;
      plan = script.plan;
      lines = script.lines;
      script = script_of;
      stops = stops_safely h.stops;
      told = record_is h.stops.run;
    };
    written = passes_then_all a b c held (record_of header script.plan h.stops.run) h.passes rest;
  }

  pub stop_begun : (a b c : Option (List ℕ)) (held : List ℕ) → StoppedRecorded script.plan script.lines a (ended_lines header) b held → AppendsFront b c held → Begins (BeginsRecordOf text) a c
  stop_begun a b c held h front =
      begun h.stops.run (h.stops.line ∷ h.stops.rest) a c h.stops.is_run h.stops.may_run (passes_then_held a b c held (record_of header script.plan h.stops.run) h.passes front)
