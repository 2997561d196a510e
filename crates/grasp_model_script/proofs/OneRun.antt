-- A script has one run.
use Rattle.std.proofs.Common.{◌≡◌, refl, sym, ap, ◌∙◌, subst, ℕ, List, [], ◌∷◌, ◌++◌, All}
use Rattle.std.proofs.lemmas.List.Elements.{All-head}
use Rattle.grasp_laws_network.specs.Keeping.{IsSameOutcome}
use Rattle.grasp_model_network.specs.Runs.{Happening, IsReached, reports_from, world_of}
use Rattle.grasp_model_network.specs.Setting.{Setting, script_setting}
use Rattle.grasp_model_network.specs.Visits.{Choice}
use Rattle.grasp_model_network.specs.World.{WorldState}
use Rattle.grasp_model_network.specs.declared.plan.WorldPlan.{WorldPlan}
use Rattle.grasp_model_network.specs.declared.report.Report.{Report}
use Rattle.grasp_laws_reports.specs.Agree.{RunsAgree, StopsAgree}
use Rattle.grasp_script.specs.Laws.{TextsHaveOneScript}
use Rattle.grasp_script.specs.declared.line.Line.{Line}
use Rattle.grasp_script.specs.declared.line.LineAct.{LineAct}
use Rattle.grasp_script.specs.declared.line.LineAct.TheVariants as act
use Rattle.grasp_model_script.specs.Laws.{TextsAgree, RunsOrStops}
use Rattle.grasp_model_script.specs.LineRuns.{LineRun, MayComeOut, MayRun, placed_event, event_told, act_told, after_act, after_line, line_told}
use Rattle.grasp_model_script.specs.Safe.{IsSafe}
use Rattle.grasp_model_script.specs.ScriptRuns.{MayRunAll, IsRunText, Replays, RunsSafely, happening_of, happenings_from, lines_of, network_after, networks_from, told_from}
use Rattle.grasp_model_script.specs.Stops.{LineOverflows, SendsTooMuch, IsStoppedText, TextSendsTooMuch}
use Rattle.grasp_model_script.specs.Summary.{IsSummary, counts_line, counts_of, last_network, reports_of, summary_of}
use Rattle.grasp_model_script.proofs.RunLaws.{act_reached}

-- what is so of events and of texts
pub record Single : Type 0 where
  pub runs : RunsAgree
  pub stops : StopsAgree
  pub scripts : TextsHaveOneScript

-- ---- one line

-- however the line comes out, the same is reported and told, and the same network is there after it
record IsSameAct (s : Setting) (w : WorldState) (a : LineAct) (c d : Choice) : Type 0 where
  pub after : after_act s w a c ≡ after_act s w a d
  pub told : (text : List ℕ) → act_told s w text a c ≡ act_told s w text a d
  pub reports : reports_from s w (happening_of w a c) ≡ reports_from s w (happening_of w a d)

acts_agree : Single → (s : Setting) (w : WorldState) (a : LineAct) (c d : Choice) → IsReached s w → MayComeOut s w a c → MayComeOut s w a d → IsSameAct s w a c d
unfolding reports_from
acts_agree k s w (act.Event e) c d r x y =
    let o : IsSameOutcome s w (placed_event w e) c d = k.runs.events s w (placed_event w e) c d r x y in
    record { after = o.after; told = λ text. ap (event_told text) o.report; reports = ap (λ p. p ∷ []) o.report }
acts_agree k s w (act.State node) c d r x y = record { after = refl; told = λ text. refl; reports = refl }

record IsSameLine (s : Setting) (w : WorldState) (x y : LineRun) : Type 0 where
  pub after : after_line s w x ≡ after_line s w y
  pub told : line_told s w x ≡ line_told s w y
  pub reports : reports_from s w (happening_of w x.line.act x.choice) ≡ reports_from s w (happening_of w y.line.act y.choice)

lines_agree : Single → (s : Setting) (w : WorldState) (x y : LineRun) → IsReached s w → MayRun s w x → MayRun s w y → x.line ≡ y.line → IsSameLine s w x y
lines_agree k s w x y r a b same =
    let o : IsSameAct s w x.line.act x.choice y.choice = acts_agree k s w x.line.act x.choice y.choice r a (subst (λ (l : Line). MayComeOut s w l.act y.choice) (sym same) b) in
    record {
      after = o.after ∙ ap (λ (l : Line). after_act s w l.act y.choice) same;
      told = o.told x.line.text ∙ ap (λ (l : Line). act_told s w l.text l.act y.choice) same;
      reports = o.reports ∙ ap (λ (l : Line). reports_from s w (happening_of w l.act y.choice)) same;
    }

-- a line that comes out doesn't send too much
no_overflow : Single → (s : Setting) (w : WorldState) (a : LineAct) (c : Choice) → IsReached s w → MayComeOut s w a c → LineOverflows s w a → ⊥
no_overflow k s w (act.Event e) c r x o = k.stops s w (placed_event w e) c r x o
no_overflow k s w (act.State node) c r x o = o

-- ---- lists of lines

head_same : (x y : Line) (xs ys : List Line) → x ∷ xs ≡ y ∷ ys → x ≡ y
head_same x y xs ys e = cc

tail_same : (x y : Line) (xs ys : List Line) → x ∷ xs ≡ y ∷ ys → xs ≡ ys
tail_same x y xs ys e = cc

none_more : (x : Line) (xs : List Line) → [] ≡ x ∷ xs → ⊥
none_more x xs e = absurd (cc)

more_none : (x : Line) (xs : List Line) → x ∷ xs ≡ [] → ⊥
more_none x xs e = absurd (cc)

-- what is reported of a line's event, and then of others
pub reports_then : (s : Setting) (w : WorldState) (a : LineAct) (c : Choice) (hs : List Happening) → reports_from s w (happening_of w a c ++ hs) ≡ reports_from s w (happening_of w a c) ++ reports_from s (after_act s w a c) hs
unfolding reports_from
reports_then s w (act.Event e) c hs = refl
reports_then s w (act.State node) c hs = refl

record AreSameLines (s : Setting) (w : WorldState) (xs ys : List LineRun) : Type 0 where
  pub told : told_from s w xs ≡ told_from s w ys
  pub last : network_after s w xs ≡ network_after s w ys
  pub reports : reports_from s w (happenings_from s w xs) ≡ reports_from s w (happenings_from s w ys)

told_then : (s : Setting) (w : WorldState) (x y : LineRun) (xs ys : List LineRun) → IsSameLine s w x y → told_from s (after_line s w x) xs ≡ told_from s (after_line s w x) ys → told_from s w (x ∷ xs) ≡ told_from s w (y ∷ ys)
unfolding told_from
told_then s w x y xs ys first rest =
    ap (λ (t : List ℕ). t ++ 10 ∷ told_from s (after_line s w x) xs) first.told
    ∙ ap (λ (t : List ℕ). line_told s w y ++ 10 ∷ t) (rest ∙ ap (λ (u : WorldState). told_from s u ys) first.after)

reported_then : (s : Setting) (w : WorldState) (x y : LineRun) (xs ys : List LineRun) → IsSameLine s w x y
    → reports_from s (after_line s w x) (happenings_from s (after_line s w x) xs) ≡ reports_from s (after_line s w x) (happenings_from s (after_line s w x) ys)
    → reports_from s w (happenings_from s w (x ∷ xs)) ≡ reports_from s w (happenings_from s w (y ∷ ys))
unfolding happenings_from
reported_then s w x y xs ys first rest =
    reports_then s w x.line.act x.choice (happenings_from s (after_line s w x) xs)
    ∙ ap (λ (t : List Report). t ++ reports_from s (after_line s w x) (happenings_from s (after_line s w x) xs)) first.reports
    ∙ ap (λ (t : List Report). reports_from s w (happening_of w y.line.act y.choice) ++ t) (rest ∙ ap (λ (u : WorldState). reports_from s u (happenings_from s u ys)) first.after)
    ∙ sym (reports_then s w y.line.act y.choice (happenings_from s (after_line s w y) ys))

lines_then : (s : Setting) (w : WorldState) (x y : LineRun) (xs ys : List LineRun) → IsSameLine s w x y → AreSameLines s (after_line s w x) xs ys → AreSameLines s w (x ∷ xs) (y ∷ ys)
unfolding network_after
lines_then s w x y xs ys first rest = record {
  told = told_then s w x y xs ys first rest.told;
  last = rest.last ∙ ap (λ (u : WorldState). network_after s u ys) first.after;
  reports = reported_then s w x y xs ys first rest.reports;
}

-- two runs of the same lines are the same
same_lines : Single → (s : Setting) (xs ys : List LineRun) (w : WorldState) → IsReached s w → MayRunAll s w xs → MayRunAll s w ys → lines_of xs ≡ lines_of ys → AreSameLines s w xs ys
unfolding MayRunAll
same_lines k s [] [] w r a b e = record { told = refl; last = refl; reports = refl }
same_lines k s [] (y ∷ ys) w r a b e = absurd (none_more y.line (lines_of ys) e)
same_lines k s (x ∷ xs) [] w r a b e = absurd (more_none x.line (lines_of xs) e)
same_lines k s (x ∷ xs) (y ∷ ys) w r a b e =
    let first : IsSameLine s w x y = lines_agree k s w x y r a.0 b.0 (head_same x.line y.line (lines_of xs) (lines_of ys) e) in
    lines_then s w x y xs ys first
    (same_lines k s xs ys (after_line s w x) (act_reached s w x.line.act x.choice r a.0) a.1 (subst (λ (u : WorldState). MayRunAll s u ys) (sym first.after) b.1)
    (tail_same x.line y.line (lines_of xs) (lines_of ys) e))

-- ---- lines that stop

-- where all lines run, none of them sends too much
all_or_stop : Single → (s : Setting) (xs ys : List LineRun) (line : Line) (rest : List Line) (w : WorldState) → IsReached s w → MayRunAll s w xs → MayRunAll s w ys
    → lines_of xs ++ line ∷ rest ≡ lines_of ys → LineOverflows s (network_after s w xs) line.act → ⊥
unfolding MayRunAll network_after
all_or_stop k s [] [] line rest w r a b e o = more_none line rest e
all_or_stop k s [] (y ∷ ys) line rest w r a b e o =
    no_overflow k s w y.line.act y.choice r b.0 (subst (λ (l : Line). LineOverflows s w l.act) (head_same line y.line rest (lines_of ys) e) o)
all_or_stop k s (x ∷ xs) [] line rest w r a b e o = more_none x.line (lines_of xs ++ line ∷ rest) e
all_or_stop k s (x ∷ xs) (y ∷ ys) line rest w r a b e o =
    let first : IsSameLine s w x y = lines_agree k s w x y r a.0 b.0 (head_same x.line y.line (lines_of xs ++ line ∷ rest) (lines_of ys) e) in
    all_or_stop k s xs ys line rest (after_line s w x) (act_reached s w x.line.act x.choice r a.0) a.1 (subst (λ (u : WorldState). MayRunAll s u ys) (sym first.after) b.1)
    (tail_same x.line y.line (lines_of xs ++ line ∷ rest) (lines_of ys) e) o

-- two runs of the same lines that stop tell the same
same_stops : Single → (s : Setting) (xs ys : List LineRun) (l m : Line) (ls ms : List Line) (w : WorldState) → IsReached s w → MayRunAll s w xs → MayRunAll s w ys
    → lines_of xs ++ l ∷ ls ≡ lines_of ys ++ m ∷ ms → LineOverflows s (network_after s w xs) l.act → LineOverflows s (network_after s w ys) m.act → told_from s w xs ≡ told_from s w ys
unfolding MayRunAll network_after
same_stops k s [] [] l m ls ms w r a b e o p = refl
same_stops k s [] (y ∷ ys) l m ls ms w r a b e o p =
    absurd (no_overflow k s w y.line.act y.choice r b.0 (subst (λ (n : Line). LineOverflows s w n.act) (head_same l y.line ls (lines_of ys ++ m ∷ ms) e) o))
same_stops k s (x ∷ xs) [] l m ls ms w r a b e o p =
    absurd (no_overflow k s w x.line.act x.choice r a.0 (subst (λ (n : Line). LineOverflows s w n.act) (sym (head_same x.line m (lines_of xs ++ l ∷ ls) ms e)) p))
same_stops k s (x ∷ xs) (y ∷ ys) l m ls ms w r a b e o p =
    let first : IsSameLine s w x y = lines_agree k s w x y r a.0 b.0 (head_same x.line y.line (lines_of xs ++ l ∷ ls) (lines_of ys ++ m ∷ ms) e) in
    told_then s w x y xs ys first
    (same_stops k s xs ys l m ls ms (after_line s w x) (act_reached s w x.line.act x.choice r a.0) a.1 (subst (λ (u : WorldState). MayRunAll s u ys) (sym first.after) b.1)
    (tail_same x.line y.line (lines_of xs ++ l ∷ ls) (lines_of ys ++ m ∷ ms) e) o
    (subst (λ (u : WorldState). LineOverflows s (network_after s u ys) m.act) (sym first.after) p))

-- ---- from the first network of a plan

first_safe : (s : Setting) (w : WorldState) (xs : List LineRun) → All (IsSafe s) (networks_from s w xs) → IsSafe s w
unfolding networks_from
first_safe s w [] h = All-head (IsSafe s) w [] h
first_safe s w (x ∷ xs) h = All-head (IsSafe s) w (networks_from s (after_line s w x) xs) h

reached_first : (plan : WorldPlan) (xs : List LineRun) → RunsSafely plan xs → IsReached (script_setting plan) (world_of plan)
reached_first plan xs h = (first_safe (script_setting plan) (world_of plan) xs h.safe).reached

same_run : Single → (plan : WorldPlan) (xs ys : List LineRun) → RunsSafely plan xs → RunsSafely plan ys → lines_of xs ≡ lines_of ys → AreSameLines (script_setting plan) (world_of plan) xs ys
same_run k plan xs ys a b e = same_lines k (script_setting plan) xs ys (world_of plan) (reached_first plan xs a) a.may_run b.may_run e

one_text : Single → (plan : WorldPlan) (lines : List Line) (a b : List ℕ) → IsRunText plan lines a → IsRunText plan lines b → a ≡ b
one_text k plan lines a b x y = x.told ∙ (same_run k plan x.run y.run x.safely y.safely (x.is_run ∙ sym y.is_run)).told ∙ sym y.told

one_stop : Single → (plan : WorldPlan) (lines : List Line) (a b : List ℕ) → IsStoppedText plan lines a → IsStoppedText plan lines b → a ≡ b
one_stop k plan lines a b x y =
    x.told
    ∙ same_stops k (script_setting plan) x.stops.run y.stops.run x.stops.line y.stops.line x.stops.rest y.stops.rest (world_of plan) (reached_first plan x.stops.run x.stops.safely) x.stops.safely.may_run y.stops.safely.may_run
    (x.stops.is_run ∙ sym y.stops.is_run) x.stops.overflows y.stops.overflows
    ∙ sym y.told

run_or_stop : Single → (plan : WorldPlan) (lines : List Line) (run : List LineRun) → lines_of run ≡ lines → RunsSafely plan run → ¬ SendsTooMuch plan lines
run_or_stop k plan lines run is safely x =
    all_or_stop k (script_setting plan) x.run run x.line x.rest (world_of plan) (reached_first plan run safely) x.safely.may_run safely.may_run (x.is_run ∙ sym is) x.overflows

-- ---- texts

one_replay : Single → (text a b : List ℕ) → Replays text a → Replays text b → a ≡ b
one_replay k text a b x y =
    let same = k.scripts text x.plan y.plan x.lines y.lines x.script y.script in
    let other : IsRunText x.plan y.lines b = subst (λ (p : WorldPlan). IsRunText p y.lines b) (sym same.0) y.run in
    one_text k x.plan x.lines a b x.run (subst (λ (ls : List Line). IsRunText x.plan ls b) (sym same.1) other)

summaries_same : (number : ℕ) (plan : WorldPlan) (xs ys : List LineRun) → AreSameLines (script_setting plan) (world_of plan) xs ys → summary_of number plan xs ≡ summary_of number plan ys
summaries_same number plan xs ys h =
    ap (λ (rs : List Report). counts_line number (counts_of plan rs (last_network plan xs)) ++ 10 ∷ []) h.reports
    ∙ ap (λ (w : WorldState). counts_line number (counts_of plan (reports_of plan ys) w) ++ 10 ∷ []) h.last

-- the run of which a summary tells, in a plan that is the same
record IsToldIn (plan : WorldPlan) (lines : List Line) (number : ℕ) (written : List ℕ) : Type 0 where
  pub run : List LineRun
  pub is_run : lines_of run ≡ lines
  pub safely : RunsSafely plan run
  pub told : written ≡ summary_of number plan run

told_in : (text : List ℕ) (number : ℕ) (a : List ℕ) (x : IsSummary text number a) → IsToldIn x.plan x.lines number a
told_in text number a x = record { run = x.run; is_run = x.is_run; safely = x.safely; told = x.told }

one_told : Single → (plan : WorldPlan) (lines : List Line) (number : ℕ) (a b : List ℕ) → IsToldIn plan lines number a → IsToldIn plan lines number b → a ≡ b
one_told k plan lines number a b x y = x.told ∙ summaries_same number plan x.run y.run (same_run k plan x.run y.run x.safely y.safely (x.is_run ∙ sym y.is_run)) ∙ sym y.told

one_summary : Single → (text : List ℕ) (number : ℕ) (a b : List ℕ) → IsSummary text number a → IsSummary text number b → a ≡ b
one_summary k text number a b x y =
    let same = k.scripts text x.plan y.plan x.lines y.lines x.script y.script in
    let other : IsToldIn x.plan y.lines number b = subst (λ (p : WorldPlan). IsToldIn p y.lines number b) (sym same.0) (told_in text number b y) in
    one_told k x.plan x.lines number a b (told_in text number a x) (subst (λ (ls : List Line). IsToldIn x.plan ls number b) (sym same.1) other)

stops_in : Single → (text : List ℕ) (plan : WorldPlan) (lines : List Line) (x : TextSendsTooMuch text) → (plan ≡ x.plan) × (lines ≡ x.lines) → SendsTooMuch plan lines
stops_in k text plan lines x same =
    let other : SendsTooMuch plan x.lines = subst (λ (p : WorldPlan). SendsTooMuch p x.lines) (sym same.0) x.stops in
    subst (λ (ls : List Line). SendsTooMuch plan ls) (sym same.1) other

-- ---- the laws

pub texts_agree : Single → TextsAgree
texts_agree k = record { lines = one_text k; stopped = one_stop k; replays = one_replay k; summaries = one_summary k }

pub runs_or_stops : Single → RunsOrStops
runs_or_stops k = record {
  lines = λ plan lines a x. run_or_stop k plan lines x.run x.is_run x.safely;
  replays = λ text a x y. run_or_stop k x.plan x.lines x.run.run x.run.is_run x.run.safely (stops_in k text x.plan x.lines y (k.scripts text x.plan y.plan x.lines y.lines x.script y.script));
  summaries = λ text number a x y. run_or_stop k x.plan x.lines x.run x.is_run x.safely (stops_in k text x.plan x.lines y (k.scripts text x.plan y.plan x.lines y.lines x.script y.script));
}
