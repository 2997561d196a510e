-- One line more of a run.
use Rattle.std.proofs.Common.{◌≡◌, refl, sym, ap, ◌∙◌, ℕ, List, [], ◌∷◌, ◌++◌, append_assoc}
use Rattle.std.proofs.lemmas.List.{append-nil}
use Rattle.grasp_model_network.specs.Runs.{reports_from}
use Rattle.grasp_model_network.specs.Setting.{Setting}
use Rattle.grasp_model_network.specs.World.{WorldState}
use Rattle.grasp_model_network.specs.declared.report.Report.{Report}
use Rattle.grasp_script.specs.declared.line.Line.{Line}
use Rattle.grasp_model_script.specs.LineRuns.{LineRun, MayRun, after_line, line_told}
use Rattle.grasp_model_script.specs.ScriptRuns.{MayRunAll, happening_of, happenings_from, lines_of, network_after, told_from}
use Rattle.grasp_model_script.proofs.OneRun.{reports_then}

pub lines_more : (xs : List LineRun) (x : LineRun) → lines_of (xs ++ x ∷ []) ≡ lines_of xs ++ x.line ∷ []
lines_more [] x = refl
lines_more (y ∷ ys) x = ap (λ (ls : List Line). y.line ∷ ls) (lines_more ys x)

pub may_run_more : (s : Setting) (xs : List LineRun) (x : LineRun) (w : WorldState) → MayRunAll s w xs → MayRun s (network_after s w xs) x → MayRunAll s w (xs ++ x ∷ [])
unfolding MayRunAll network_after
may_run_more s [] x w all one = (one, tt)
may_run_more s (y ∷ ys) x w all one = (all.0, may_run_more s ys x (after_line s w y) all.1 one)

pub network_more : (s : Setting) (xs : List LineRun) (x : LineRun) (w : WorldState) → network_after s w (xs ++ x ∷ []) ≡ after_line s (network_after s w xs) x
unfolding network_after
network_more s [] x w = refl
network_more s (y ∷ ys) x w = network_more s ys x (after_line s w y)

pub told_more : (s : Setting) (xs : List LineRun) (x : LineRun) (w : WorldState) → told_from s w (xs ++ x ∷ []) ≡ told_from s w xs ++ (line_told s (network_after s w xs) x ++ 10 ∷ [])
unfolding network_after told_from
told_more s [] x w = refl
told_more s (y ∷ ys) x w =
    ap (λ (t : List ℕ). line_told s w y ++ 10 ∷ t) (told_more s ys x (after_line s w y))
    ∙ sym (append_assoc (line_told s w y) (10 ∷ told_from s (after_line s w y) ys) (line_told s (network_after s (after_line s w y) ys) x ++ 10 ∷ []))

nothing_reported : (s : Setting) (w : WorldState) → reports_from s w [] ≡ []
unfolding reports_from
nothing_reported s w = refl

pub reports_more : (s : Setting) (xs : List LineRun) (x : LineRun) (w : WorldState)
    → reports_from s w (happenings_from s w (xs ++ x ∷ [])) ≡ reports_from s w (happenings_from s w xs) ++ reports_from s (network_after s w xs) (happening_of (network_after s w xs) x.line.act x.choice)
unfolding network_after happenings_from
reports_more s [] x w = ap (reports_from s w) (append-nil (happening_of w x.line.act x.choice)) ∙ ap (λ (t : List Report). t ++ reports_from s w (happening_of w x.line.act x.choice)) (sym (nothing_reported s w))
reports_more s (y ∷ ys) x w =
    let u : WorldState = after_line s w y in
    let last : List Report = reports_from s (network_after s u ys) (happening_of (network_after s u ys) x.line.act x.choice) in
    reports_then s w y.line.act y.choice (happenings_from s u (ys ++ x ∷ []))
    ∙ ap (λ (t : List Report). reports_from s w (happening_of w y.line.act y.choice) ++ t) (reports_more s ys x u)
    ∙ sym (append_assoc (reports_from s w (happening_of w y.line.act y.choice)) (reports_from s u (happenings_from s u ys)) last)
    ∙ ap (λ (t : List Report). t ++ last) (sym (reports_then s w y.line.act y.choice (happenings_from s u ys)))
