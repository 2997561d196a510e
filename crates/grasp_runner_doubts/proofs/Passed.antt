-- What is written of the reports of lines while they run.
use Rattle.std.proofs.Common.{◌≡◌, ◌<◌, ◌≤◌, ◌+◌, refl, sym, ap, ◌∙◌, subst, arith, ℕ, zero, suc, List, [], ◌∷◌, ◌++◌, append_assoc, length, take, drop, take-append-drop, Option, None, Some, Result, Ok, Err, OnOk, IfErr}
use Rattle.std.proofs.lemmas.List.{take_all, take_more}
use Rattle.std.proofs.lemmas.Option.{slice_get_within, get_or_from_slice_get}
use Rattle.std.specs.List.{slice_get, AllByRecursion}
use Rattle.grasp_io.specs.Known.{AppendsFront, Passes}
use Rattle.grasp_io.proofs.Streams.{passes_held, passes_more, passes_then_front}
use Rattle.grasp_model_network.specs.Setting.{Setting, script_setting}
use Rattle.grasp_model_network.specs.Visits.{Choice}
use Rattle.grasp_model_network.specs.declared.plan.WorldPlan.{WorldPlan}
use Rattle.grasp_model_network.specs.declared.report.WorldStop.{WorldStop}
use Rattle.grasp_model_network.specs.declared.report.WorldStop.TheVariants as stop
use Rattle.grasp_script_doubts.specs.Lines.{IsDoubtAct}
use Rattle.grasp_script_doubts.specs.Scripts.{IsItsDoubtLine}
use Rattle.grasp_script_doubts.specs.declared.line.DoubtLine.{DoubtLine}
use Rattle.grasp_script_doubts.specs.declared.script.DoubtScript.{DoubtScript}
use Rattle.grasp_model_doubts.specs.World.{DoubtState}
use Rattle.grasp_doubts.specs.Contract.{doubt_network_of}
use Rattle.grasp_doubts.specs.Stands.{DoubtWorldStands}
use Rattle.grasp_doubts.specs.declared.doubt_world.DoubtWorld.{DoubtWorld}
use Rattle.grasp_runner.specs.Scripts.{fault_of}
use Rattle.grasp_runner.specs.declared.fault.RunFault.{RunFault}
use Rattle.grasp_runner.specs.declared.fault.RunFault.TheVariants as fault
use Rattle.grasp_runner.proofs.Passed.{passes_front}
use Rattle.grasp_runner.proofs.Placing.{plan_members}
use Rattle.grasp_model_script_doubts.specs.LineRuns.{DoubtLineRun, MayHappen, act_event, state_then}
use Rattle.grasp_model_script_doubts.specs.ScriptRuns.{MayRunAllDoubts, doubt_lines_of, doubt_told_from, doubt_told_of, doubts_of, state_after}
use Rattle.grasp_model_script_doubts.proofs.MoreLines.{lines_more, may_run_more, state_more, told_more}
use Rattle.grasp_runner_doubts.specs.Lines.{CanRunDoubt, DoubtLineReported, MeetsDoubtLine, RunsDoubtLine, doubts_at}
use Rattle.grasp_runner_doubts.specs.Passing.{AllWritten, HasRun, HasWritten, IsReady, LinePassed, LineBegun, LinePasses, PassesLine, WritesLines, ended_told}
use Rattle.grasp_runner_doubts.specs.Scripts.{IsDoubtRead}

-- ---- one line

module _ (code new : DoubtWorld) (line : DoubtLine) where
  -- the report was put into the buffer
  line_put : (told : List ℕ) (a b : Option (List ℕ)) (held left : List ℕ) → RunsDoubtLine code new line (Ok told)
      → Passes a b left (held ++ (told ++ 10 ∷ [])) → (done : Unit {0}) → PassesLine code new line a held b left (Ok done)
  line_put told a b held left runs p done = λ s x met. put (runs s x met) where
    put : {s : Setting} {x : DoubtState} → DoubtLineReported new s x line.text line.act told → LinePassed new s x line a held b left
    put d = record {
      choice = d.choice;
      comes = d.comes;
      stands = d.stands;
      passes = subst (λ (t : List ℕ). Passes a b left (held ++ (t ++ 10 ∷ []))) d.told_is p;
    }

  -- a write failed
  line_cut : (told : List ℕ) (a b : Option (List ℕ)) (held left : List ℕ) (f : RunFault) → RunsDoubtLine code new line (Ok told)
      → f ≡ fault.WriteFault → AppendsFront a b (held ++ (told ++ 10 ∷ [])) → PassesLine code new line a held b left (Err f)
  line_cut told a b held left f runs is p =
      subst (λ (y : RunFault). PassesLine code new line a held b left (Err y)) (sym is) (λ s x met. cut (runs s x met)) where
        cut : {s : Setting} {x : DoubtState} → DoubtLineReported new s x line.text line.act told → LineBegun s x line a held b
        cut d = record {
          choice = d.choice;
          comes = d.comes;
          front = subst (λ (t : List ℕ). AppendsFront a b (held ++ (t ++ 10 ∷ []))) d.told_is p;
        }

  -- however it went
  pub line_tried : (told : List ℕ) (a b : Option (List ℕ)) (held left : List ℕ) (r : Result (Unit {0}) RunFault)
      → RunsDoubtLine code new line (Ok told) → OnOk r (Passes a b left (held ++ (told ++ 10 ∷ [])))
      → AppendsFront a b (held ++ (told ++ 10 ∷ [])) → IfErr r (λ f. f ≡ fault.WriteFault) → PassesLine code new line a held b left r
  line_tried told a b held left (Ok done) runs passed front stop = line_put told a b held left runs passed done
  line_tried told a b held left (Err f) runs passed front stop = line_cut told a b held left f runs stop front

  -- the line stopped the network
  line_stops : (a : Option (List ℕ)) (held : List ℕ) (why : WorldStop) → RunsDoubtLine code new line (Err why)
      → PassesLine code new line a held a held (Err (fault_of why))
  line_stops a held stop.TooMuch runs = λ s x met. record { overflows = (runs s x met).overflows; written = refl; left_is = refl }
  line_stops a held stop.OutOfMemory runs = λ s x met. refl

  pub line_stopped : (a : Option (List ℕ)) (held : List ℕ) (why : WorldStop) (f : RunFault) → RunsDoubtLine code new line (Err why)
      → f ≡ fault_of why → PassesLine code new line a held a held (Err f)
  line_stopped a held why f runs is =
      subst (λ (y : RunFault). PassesLine code new line a held a held (Err y)) (sym is) (line_stops a held why runs)

-- ---- the lines of a script

its_line : (nodes : ℕ) (lines : List DoubtLine) (i : ℕ) (line : DoubtLine) → AllByRecursion (IsItsDoubtLine nodes) lines
    → slice_get lines i ≡ Some line → IsItsDoubtLine nodes line
its_line nodes [] i line all e = absurd cc
its_line nodes (x ∷ xs) zero line all e =
    let same : x ≡ line = cc in
    subst (IsItsDoubtLine nodes) same all.0
its_line nodes (x ∷ xs) (suc i) line all e = its_line nodes xs i line all.1 e

pub line_there : (lines : List DoubtLine) (i : ℕ) → i < length lines → slice_get lines i ≡ None → ⊥
line_there [] i few e = absurd (omega (arith, few))
line_there (x ∷ xs) zero few e = absurd (cc e)
line_there (x ∷ xs) (suc i) few e = line_there xs i (omega (arith, few)) e

take_next : (lines : List DoubtLine) (i : ℕ) (line : DoubtLine) → slice_get lines i ≡ Some line → take (i + 1) lines ≡ take i lines ++ line ∷ []
take_next lines i line e =
    take_more lines i line (slice_get_within lines i line e)
    ∙ ap (λ (l : DoubtLine). take i lines ++ l ∷ []) (get_or_from_slice_get lines i line line e)

split_lines : (lines : List DoubtLine) (i : ℕ) (line : DoubtLine) → slice_get lines i ≡ Some line
    → take i lines ++ line ∷ drop (i + 1) lines ≡ lines
split_lines lines i line e =
    sym (append_assoc (take i lines) (line ∷ []) (drop (i + 1) lines))
    ∙ ap (λ (ls : List DoubtLine). ls ++ drop (i + 1) lines) (sym (take_next lines i line e))
    ∙ take-append-drop (i + 1) lines

-- the code goes on for the network after these lines, in which the script's next line can be run
meets_next : (script : DoubtScript) (code : DoubtWorld) (run : List DoubtLineRun) (i : ℕ) (line : DoubtLine) → IsDoubtRead script
    → HasRun script.plan (take i script.lines) code run → slice_get script.lines i ≡ Some line
    → MeetsDoubtLine code (script_setting script.plan) (state_after (script_setting script.plan) (doubts_of script.plan) run) line.act
meets_next script code run i line read h e = record {
  stands = h.stands;
  fit =
      subst (λ (n : ℕ). IsDoubtAct n line.act) (sym (plan_members script.plan))
      (its_line script.plan.nodes script.lines i line read.1.meant e).ranges;
}

pub can_run_next : (script : DoubtScript) (code : DoubtWorld) (run : List DoubtLineRun) (i : ℕ) (line : DoubtLine) → IsDoubtRead script
    → HasRun script.plan (take i script.lines) code run → slice_get script.lines i ≡ Some line → CanRunDoubt code line.act
can_run_next script code run i line read h e = record {
  setting = script_setting script.plan;
  state = state_after (script_setting script.plan) (doubts_of script.plan) run;
  meets = meets_next script code run i line read h e;
}

-- ---- one line more was run

module _ (plan : WorldPlan) (run : List DoubtLineRun) (line : DoubtLine) (c : Choice) where
  abbrev state : DoubtState
  state = state_after (script_setting plan) (doubts_of plan) run

  abbrev more : List DoubtLineRun
  more = run ++ record { line = line; choice = c } ∷ []

  run_next : (lines : List DoubtLine) (code new : DoubtWorld) → HasRun plan lines code run
      → MayHappen (script_setting plan) state (act_event state.world line.act) c
      → DoubtWorldStands new (doubts_at (script_setting plan) (state_then (script_setting plan) state (act_event state.world line.act) c))
      → HasRun plan (lines ++ line ∷ []) new more
  run_next lines code new h comes stands =
      let s : Setting = script_setting plan in
      let l : DoubtLineRun = record { line = line; choice = c } in
      record {
        is_run = lines_more run l ∙ ap (λ (ls : List DoubtLine). ls ++ line ∷ []) h.is_run;
        may_run = may_run_more s run l (doubts_of plan) h.may_run comes;
        stands = subst (λ (x : DoubtState). DoubtWorldStands new (doubts_at s x)) (sym (state_more s run l (doubts_of plan))) stands;
      }

  told_next : doubt_told_of plan more ≡ doubt_told_of plan run ++ ended_told (script_setting plan) state line c
  told_next = told_more (script_setting plan) run (record { line = line; choice = c }) (doubts_of plan)

  module _ (start now later : Option (List ℕ)) (held : List ℕ) (p : Passes start now held (doubt_told_of plan run)) where
    passes_next : (left : List ℕ) → Passes now later left (held ++ ended_told (script_setting plan) state line c)
        → Passes start later left (doubt_told_of plan more)
    passes_next left q =
        subst (Passes start later left) (sym told_next)
        (passes_more start now later held (doubt_told_of plan run) left (ended_told (script_setting plan) state line c) p q)

    front_next : AppendsFront now later (held ++ ended_told (script_setting plan) state line c) → AppendsFront start later (doubt_told_of plan more)
    front_next q =
        subst (AppendsFront start later) (sym told_next)
        (passes_then_front start now later held (doubt_told_of plan run) (ended_told (script_setting plan) state line c) p q)

-- ---- the loop

nothing_run : (plan : WorldPlan) (code : DoubtWorld) → DoubtWorldStands code (doubt_network_of plan) → HasRun plan [] code []
unfolding MayRunAllDoubts state_after
nothing_run plan code h = record { is_run = refl; may_run = tt; stands = h }

nothing_told : (plan : WorldPlan) → doubt_told_of plan [] ≡ []
unfolding doubt_told_from
nothing_told plan = refl

module _ (script : DoubtScript) (code : DoubtWorld) where
  -- before the first line
  pub begin_writing : (start : Option (List ℕ)) (held : List ℕ) → IsReady code script → held ≡ []
      → HasWritten script.plan (take 0 script.lines) code start start held
  begin_writing start held h none = record {
    run = [];
    has_run = nothing_run script.plan code h.opened;
    passes = subst (λ (t : List ℕ). Passes start start held t) (none ∙ sym (nothing_told script.plan)) (passes_held start held);
  }

  -- after all
  pub all_written : (i : ℕ) (start now : Option (List ℕ)) (held : List ℕ) → HasWritten script.plan (take i script.lines) code start now held
      → length script.lines ≤ i → AllWritten script.plan script.lines start now held
  all_written i start now held h all =
      record { run = h.run; is_run = h.has_run.is_run ∙ take_all i script.lines all; may_run = h.has_run.may_run; passes = h.passes }

  module _ (new : DoubtWorld) (i : ℕ) (line : DoubtLine) (start now later : Option (List ℕ)) (held left : List ℕ) (read : IsDoubtRead script)
      (e : slice_get script.lines i ≡ Some line) (h : HasWritten script.plan (take i script.lines) code start now held) where
    abbrev here : DoubtState
    here = state_after (script_setting script.plan) (doubts_of script.plan) h.run

    met : MeetsDoubtLine code (script_setting script.plan) here line.act
    met = meets_next script code h.run i line read h.has_run e

    -- after one more
    pub write_next : (done : Unit {0}) → PassesLine code new line now held later left (Ok done)
        → HasWritten script.plan (take (i + 1) script.lines) new start later left
    write_next done passes =
        subst (λ (ls : List DoubtLine). HasWritten script.plan ls new start later left) (sym (take_next script.lines i line e))
        (written (passes (script_setting script.plan) here met)) where
          written : LinePassed new (script_setting script.plan) here line now held later left
              → HasWritten script.plan (take i script.lines ++ line ∷ []) new start later left
          written d = record {
            run = h.run ++ record { line = line; choice = d.choice } ∷ [];
            has_run = run_next script.plan h.run line d.choice (take i script.lines) code new h.has_run d.comes d.stands;
            passes = passes_next script.plan h.run line d.choice start now later held h.passes left d.passes;
          }

    -- ---- where a line isn't written

    stops_here : doubt_lines_of h.run ++ line ∷ drop (i + 1) script.lines ≡ script.lines
    stops_here =
        ap (λ (ls : List DoubtLine). ls ++ line ∷ drop (i + 1) script.lines) h.has_run.is_run ∙ split_lines script.lines i line e

    begun_here : (c : Choice) → doubt_lines_of (h.run ++ record { line = line; choice = c } ∷ []) ++ drop (i + 1) script.lines ≡ script.lines
    begun_here c =
        ap (λ (ls : List DoubtLine). ls ++ drop (i + 1) script.lines)
        (lines_more h.run (record { line = line; choice = c }) ∙ ap (λ (ls : List DoubtLine). ls ++ line ∷ []) h.has_run.is_run)
        ∙ append_assoc (take i script.lines) (line ∷ []) (drop (i + 1) script.lines)
        ∙ split_lines script.lines i line e

    -- nothing of the line was written
    held_still : later ≡ now → AppendsFront start later (doubt_told_of script.plan h.run)
    held_still same =
        subst (λ (t : Option (List ℕ)). AppendsFront start t (doubt_told_of script.plan h.run)) (sym same)
        (passes_front start now held (doubt_told_of script.plan h.run) h.passes)

    left_so : later ≡ now → left ≡ held → Passes start later left (doubt_told_of script.plan h.run)
    left_so same is =
        subst (λ (t : Option (List ℕ)). Passes start t left (doubt_told_of script.plan h.run)) (sym same)
        (subst (λ (l : List ℕ). Passes start now l (doubt_told_of script.plan h.run)) (sym is) h.passes)

    run_begun : (c : Choice) → MayHappen (script_setting script.plan) here (act_event here.world line.act) c
        → MayRunAllDoubts (script_setting script.plan) (doubts_of script.plan) (h.run ++ record { line = line; choice = c } ∷ [])
    run_begun c comes =
        may_run_more (script_setting script.plan) h.run (record { line = line; choice = c }) (doubts_of script.plan) h.has_run.may_run comes

    fault_written : (f : RunFault) → LinePasses new (script_setting script.plan) here line now held later left (Err f)
        → WritesLines script.plan script.lines start later left (Err f)
    fault_written fault.TooMuch d = record {
      stops = record {
        run = h.run;
        line = line;
        rest = drop (i + 1) script.lines;
        is_run = stops_here;
        may_run = h.has_run.may_run;
        overflows = d.overflows;
      };
      passes = left_so d.written d.left_is;
    }
    fault_written fault.OutOfMemory d = record {
      run = h.run;
      rest = line ∷ drop (i + 1) script.lines;
      is_run = stops_here;
      may_run = h.has_run.may_run;
      front = held_still d;
    }
    fault_written fault.WriteFault d = record {
      run = h.run ++ record { line = line; choice = d.choice } ∷ [];
      rest = drop (i + 1) script.lines;
      is_run = begun_here d.choice;
      may_run = run_begun d.choice d.comes;
      front = front_next script.plan h.run line d.choice start now later held h.passes d.front;
    }

    pub faults_written : (f : RunFault) → PassesLine code new line now held later left (Err f)
        → WritesLines script.plan script.lines start later left (Err f)
    faults_written f passes = fault_written f (passes (script_setting script.plan) here met)
