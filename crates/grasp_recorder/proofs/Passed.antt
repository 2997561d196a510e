-- What is written of the record of lines while they run.
use Rattle.std.proofs.Common.{◌≡◌, ◌≢◌, ◌≤◌, ◌+◌, refl, sym, ap, ◌∙◌, subst, ℕ, List, [], ◌∷◌, ◌++◌, append-nil, append_assoc, length, take, drop, take-append-drop, Option, Some, Result, Ok, Err, OnOk, IfErr, slice_get}
use Rattle.std.proofs.lemmas.List.{take_all}
use Rattle.grasp_io.specs.Known.{AppendsFront, Passes}
use Rattle.grasp_io.proofs.Streams.{passes_held, passes_more, passes_then_front}
use Rattle.grasp_model_network.specs.Runs.{world_of}
use Rattle.grasp_model_network.specs.Setting.{Setting, script_setting}
use Rattle.grasp_model_network.specs.Visits.{Choice}
use Rattle.grasp_model_network.specs.World.{WorldState}
use Rattle.grasp_model_network.specs.declared.plan.WorldPlan.{WorldPlan}
use Rattle.grasp_model_network.specs.declared.report.WorldStop.{WorldStop}
use Rattle.grasp_model_network.specs.declared.report.WorldStop.TheVariants as stop
use Rattle.grasp_script.specs.declared.line.Line.{Line}
use Rattle.grasp_script.specs.declared.script.Script.{Script}
use Rattle.grasp_model_script.proofs.MoreLines.{lines_more, may_run_more, network_more}
use Rattle.grasp_model_script.specs.LineRuns.{LineRun, after_line}
use Rattle.grasp_model_script.specs.ScriptRuns.{MayRunAll, network_after}
use Rattle.grasp_model_audit.specs.RecordRuns.{recorded_from}
use Rattle.grasp_model_audit.specs.Recording.{line_recorded, record_text}
use Rattle.grasp_simulator.specs.declared.world.World.{World}
use Rattle.grasp_runner.proofs.Passed.{meets_next, nothing_run, passes_front, run_next, stops_here, take_next}
use Rattle.grasp_runner.specs.Passing.{HasRun, IsReady}
use Rattle.grasp_runner.specs.Scripts.{IsRead, fault_of}
use Rattle.grasp_runner.specs.declared.fault.RunFault.{RunFault}
use Rattle.grasp_runner.specs.declared.fault.RunFault.TheVariants as fault
use Rattle.grasp_recorder.specs.Lines.{CanRecord, KnowsReadings, LineRecorded, MeetsRecord, RecordsAct}
use Rattle.grasp_recorder.specs.Passing.{AllRecorded, BegunRecorded, HasRecorded, LineBegun, LinePassed, LinePasses, PassesLine, RecordsLines, recorded_of}
use Rattle.grasp_recorder.specs.declared.recorder.Recorder.{Recorder}

-- ---- one line

module _ (recorder then : Recorder) (code new : World) (line : Line) where
  -- its record lines were put into the buffer
  line_put : (written : List ℕ) (a b : Option (List ℕ)) (held left : List ℕ) → RecordsAct recorder code then new line.act (Ok written) → Passes a b left (held ++ written) → (done : Unit {0})
      → PassesLine recorder code then new line a held b left (Ok done)
  line_put written a b held left records p done = λ s w met. put (records s w met) where
    put : {s : Setting} {w : WorldState} → LineRecorded then new s w line.act written → LinePassed then new s w line a held b left
    put d = record { choice = d.choice; comes = d.comes; stands = d.stands; knows = d.knows; passes = subst (λ (t : List ℕ). Passes a b left (held ++ t)) d.written_is p }

  -- a write failed
  line_cut : (written : List ℕ) (a b : Option (List ℕ)) (held left : List ℕ) (f : RunFault) → RecordsAct recorder code then new line.act (Ok written) → f ≡ fault.WriteFault → AppendsFront a b (held ++ written)
      → PassesLine recorder code then new line a held b left (Err f)
  line_cut written a b held left f records is p =
      subst (λ (x : RunFault). PassesLine recorder code then new line a held b left (Err x)) (sym is) (λ s w met. cut (records s w met)) where
        cut : {s : Setting} {w : WorldState} → LineRecorded then new s w line.act written → LineBegun s w line a held b
        cut d = record { choice = d.choice; comes = d.comes; front = subst (λ (t : List ℕ). AppendsFront a b (held ++ t)) d.written_is p }

  -- however it went
  pub line_tried : (written : List ℕ) (a b : Option (List ℕ)) (held left : List ℕ) (r : Result (Unit {0}) RunFault) → RecordsAct recorder code then new line.act (Ok written) → OnOk r (Passes a b left (held ++ written))
      → AppendsFront a b (held ++ written) → IfErr r (λ f. f ≡ fault.WriteFault) → PassesLine recorder code then new line a held b left r
  line_tried written a b held left (Ok done) records passed front stop = line_put written a b held left records passed done
  line_tried written a b held left (Err f) records passed front stop = line_cut written a b held left f records stop front

  -- the line stopped the network
  line_stops : (a : Option (List ℕ)) (held : List ℕ) (why : WorldStop) → RecordsAct recorder code then new line.act (Err why) → PassesLine recorder code then new line a held a held (Err (fault_of why))
  line_stops a held stop.TooMuch records = λ s w met. record { overflows = records s w met; written = refl; left_is = refl }
  line_stops a held stop.OutOfMemory records = λ s w met. refl

  pub line_stopped : (a : Option (List ℕ)) (held : List ℕ) (why : WorldStop) (f : RunFault) → RecordsAct recorder code then new line.act (Err why) → f ≡ fault_of why → PassesLine recorder code then new line a held a held (Err f)
  line_stopped a held why f records is = subst (λ (x : RunFault). PassesLine recorder code then new line a held a held (Err x)) (sym is) (line_stops a held why records)

-- ---- one line more of a record

record_more : (s : Setting) (xs : List LineRun) (x : LineRun) (w : WorldState) → recorded_from s w (xs ++ x ∷ []) ≡ recorded_from s w xs ++ line_recorded s (network_after s w xs) x
unfolding recorded_from network_after
record_more s [] x w = append-nil (line_recorded s w x)
record_more s (y ∷ xs) x w =
    ap (λ (rest : List ℕ). line_recorded s w y ++ rest) (record_more s xs x (after_line s w y))
    ∙ sym (append_assoc (line_recorded s w y) (recorded_from s (after_line s w y) xs) (line_recorded s (network_after s (after_line s w y) xs) x))

-- behind what was held first
module _ (plan : WorldPlan) (first : List ℕ) where
  abbrev next_text : List LineRun → Line → Choice → List ℕ
  next_text run line c = record_text (script_setting plan) (network_after (script_setting plan) (world_of plan) run) line.act c

  record_next : (run : List LineRun) (line : Line) (c : Choice) → first ++ recorded_of plan (run ++ record { line = line; choice = c } ∷ []) ≡ (first ++ recorded_of plan run) ++ next_text run line c
  record_next run line c =
      ap (λ (rest : List ℕ). first ++ rest) (record_more (script_setting plan) run (record { line = line; choice = c }) (world_of plan))
      ∙ sym (append_assoc first (recorded_of plan run) (next_text run line c))

  passes_next : (run : List LineRun) (line : Line) (c : Choice) (start now later : Option (List ℕ)) (held left : List ℕ) → Passes start now held (first ++ recorded_of plan run)
      → Passes now later left (held ++ next_text run line c) → Passes start later left (first ++ recorded_of plan (run ++ record { line = line; choice = c } ∷ []))
  passes_next run line c start now later held left p q =
      subst (Passes start later left) (sym (record_next run line c)) (passes_more start now later held (first ++ recorded_of plan run) left (next_text run line c) p q)

  front_next : (run : List LineRun) (line : Line) (c : Choice) (start now later : Option (List ℕ)) (held : List ℕ) → Passes start now held (first ++ recorded_of plan run)
      → AppendsFront now later (held ++ next_text run line c) → AppendsFront start later (first ++ recorded_of plan (run ++ record { line = line; choice = c } ∷ []))
  front_next run line c start now later held p q =
      subst (AppendsFront start later) (sym (record_next run line c)) (passes_then_front start now later held (first ++ recorded_of plan run) (next_text run line c) p q)

  -- of no line there is what was held first alone
  pub nothing_recorded : first ++ recorded_of plan [] ≡ first
  unfolding recorded_from
  nothing_recorded = append-nil first

-- ---- the loop

module _ (script : Script) (read : IsRead script) (first : List ℕ) where
  abbrev s : Setting
  s = script_setting script.plan

  abbrev behind : List LineRun → WorldState
  behind run = network_after s (world_of script.plan) run

  -- before the first line
  pub begin_lines : (recorder : Recorder) (code : World) (start : Option (List ℕ)) → IsReady code script → KnowsReadings recorder s (world_of script.plan) → HasRecorded script.plan (take 0 script.lines) recorder code start first start first
  unfolding network_after
  begin_lines recorder code start ready knows = record {
    run = [];
    has_run = subst (λ (ls : List Line). HasRun script.plan ls code []) (sym (take_none script.lines)) (nothing_run script.plan code ready.opened);
    knows = knows;
    passes = subst (Passes start start first) (sym (nothing_recorded script.plan first)) (passes_held start first);
  } where
    take_none : (ls : List Line) → take 0 ls ≡ []
    take_none [] = refl
    take_none (l ∷ ls) = refl

  meets : (recorder : Recorder) (code : World) (i : ℕ) (line : Line) (start now : Option (List ℕ)) (held : List ℕ) → (h : HasRecorded script.plan (take i script.lines) recorder code start first now held) → slice_get script.lines i ≡ Some line
      → MeetsRecord recorder code s (behind h.run) line.act
  meets recorder code i line start now held h e = record { meets = meets_next script code h.run i line read h.has_run e; knows = h.knows }

  pub can_record_next : (recorder : Recorder) (code : World) (i : ℕ) (line : Line) (start now : Option (List ℕ)) (held : List ℕ) → HasRecorded script.plan (take i script.lines) recorder code start first now held → slice_get script.lines i ≡ Some line
      → CanRecord recorder code line.act
  can_record_next recorder code i line start now held h e = record { setting = s; network = behind h.run; meets = meets recorder code i line start now held h e }

  module _ (recorder then : Recorder) (code new : World) (i : ℕ) (line : Line) (start now later : Option (List ℕ)) (held left : List ℕ) (h : HasRecorded script.plan (take i script.lines) recorder code start first now held)
      (e : slice_get script.lines i ≡ Some line) where
    -- after one more
    pub write_next : (done : Unit {0}) → PassesLine recorder code then new line now held later left (Ok done) → HasRecorded script.plan (take (i + 1) script.lines) then new start first later left
    write_next done passes =
        subst (λ (ls : List Line). HasRecorded script.plan ls then new start first later left) (sym (take_next script.lines i line e))
        (written (passes s (behind h.run) (meets recorder code i line start now held h e))) where
          written : LinePassed then new s (behind h.run) line now held later left → HasRecorded script.plan (take i script.lines ++ line ∷ []) then new start first later left
          written d = record {
            run = h.run ++ record { line = line; choice = d.choice } ∷ [];
            has_run = run_next script.plan (take i script.lines) code new h.run line d.choice h.has_run d.comes d.stands;
            knows = subst (KnowsReadings then s) (sym (network_more s h.run (record { line = line; choice = d.choice }) (world_of script.plan))) d.knows;
            passes = passes_next script.plan first h.run line d.choice start now later held left h.passes d.passes;
          }

    split : take i script.lines ++ line ∷ drop (i + 1) script.lines ≡ script.lines
    split =
        sym (append_assoc (take i script.lines) (line ∷ []) (drop (i + 1) script.lines))
        ∙ ap (λ (ls : List Line). ls ++ drop (i + 1) script.lines) (sym (take_next script.lines i line e))
        ∙ take-append-drop (i + 1) script.lines

    fault_written : (f : RunFault) → LinePasses then new s (behind h.run) line now held later left (Err f) → RecordsLines script.plan script.lines start first later left (Err f)
    fault_written fault.TooMuch d = record {
      stops = record {
        run = h.run;
        line = line;
        rest = drop (i + 1) script.lines;
        is_run = stops_here script code h.run i line h.has_run e;
        may_run = h.has_run.may_run;
        overflows = d.overflows;
      };
      passes = subst (λ (t : Option (List ℕ)). Passes start t left (first ++ recorded_of script.plan h.run)) (sym d.written)
          (subst (λ (l : List ℕ). Passes start now l (first ++ recorded_of script.plan h.run)) (sym d.left_is) h.passes);
    }
    fault_written fault.OutOfMemory d = record {
      run = h.run;
      rest = line ∷ drop (i + 1) script.lines;
      is_run = stops_here script code h.run i line h.has_run e;
      may_run = h.has_run.may_run;
      front = subst (λ (t : Option (List ℕ)). AppendsFront start t (first ++ recorded_of script.plan h.run)) (sym d) (passes_front start now held (first ++ recorded_of script.plan h.run) h.passes);
    }
    fault_written fault.WriteFault d =
        let x : LineRun = record { line = line; choice = d.choice } in
        record {
          run = h.run ++ x ∷ [];
          rest = drop (i + 1) script.lines;
          is_run = ap (λ (ls : List Line). ls ++ drop (i + 1) script.lines) (lines_more h.run x ∙ ap (λ (ls : List Line). ls ++ line ∷ []) h.has_run.is_run)
              ∙ append_assoc (take i script.lines) (line ∷ []) (drop (i + 1) script.lines) ∙ split;
          may_run = may_run_more s h.run x (world_of script.plan) h.has_run.may_run d.comes;
          front = front_next script.plan first h.run line d.choice start now later held h.passes d.front;
        }

    -- where a line isn't written
    pub faults_written : (f : RunFault) → PassesLine recorder code then new line now held later left (Err f) → RecordsLines script.plan script.lines start first later left (Err f)
    faults_written f passes = fault_written f (passes s (behind h.run) (meets recorder code i line start now held h e))

  -- after all
  pub all_written : (recorder : Recorder) (code : World) (i : ℕ) (start now : Option (List ℕ)) (held : List ℕ) → HasRecorded script.plan (take i script.lines) recorder code start first now held → length script.lines ≤ i
      → AllRecorded script.plan script.lines start first now held
  all_written recorder code i start now held h all =
      record { run = h.run; is_run = h.has_run.is_run ∙ take_all i script.lines all; may_run = h.has_run.may_run; passes = h.passes }

-- ---- behind what was put before

module _ (plan : WorldPlan) (lines : List Line) (first : List ℕ) where
  -- the lines were recorded behind it
  pub lines_behind : (a b c : Option (List ℕ)) (held left : List ℕ) (r : Result (Unit {0}) RunFault) → Passes a b held first → RecordsLines plan lines b held c left r → RecordsLines plan lines a first c left r
  lines_behind a b c held left (Ok done) p d = record { run = d.run; is_run = d.is_run; may_run = d.may_run; passes = passes_more a b c held first left (recorded_of plan d.run) p d.passes }
  lines_behind a b c held left (Err fault.TooMuch) p d = record { stops = d.stops; passes = passes_more a b c held first left (recorded_of plan d.stops.run) p d.passes }
  lines_behind a b c held left (Err fault.OutOfMemory) p d =
      record { run = d.run; rest = d.rest; is_run = d.is_run; may_run = d.may_run; front = passes_then_front a b c held first (recorded_of plan d.run) p d.front }
  lines_behind a b c held left (Err fault.WriteFault) p d =
      record { run = d.run; rest = d.rest; is_run = d.is_run; may_run = d.may_run; front = passes_then_front a b c held first (recorded_of plan d.run) p d.front }

  -- it wasn't written whole, and no line was run
  none_behind : (a b : Option (List ℕ)) → AppendsFront a b first → BegunRecorded plan lines a first b
  unfolding MayRunAll
  none_behind a b p = record { run = []; rest = lines; is_run = refl; may_run = tt; front = subst (AppendsFront a b) (sym (nothing_recorded plan first)) p }

  pub nothing_behind : (a b : Option (List ℕ)) (left : List ℕ) (f : RunFault) → AppendsFront a b first → f ≢ fault.TooMuch → RecordsLines plan lines a first b left (Err f)
  nothing_behind a b left fault.TooMuch p stop = absurd (stop refl)
  nothing_behind a b left fault.OutOfMemory p stop = none_behind a b p
  nothing_behind a b left fault.WriteFault p stop = none_behind a b p
