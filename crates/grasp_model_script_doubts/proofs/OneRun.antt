-- A script of a network of doubters has one run.
use Rattle.std.proofs.Common.{◌≡◌, refl, sym, ap, ◌∙◌, subst, ℕ, List, [], ◌∷◌, ◌++◌, All, Option, None, Some}
use Rattle.std.proofs.lemmas.List.Elements.{All-head, All-tail}
use Rattle.grasp_laws_reports.proofs.SameRuns.{runs_agree}
use Rattle.grasp_model_network.specs.Runs.{IsReached}
use Rattle.grasp_model_network.specs.Setting.{Setting, script_setting}
use Rattle.grasp_model_network.specs.Visits.{Choice}
use Rattle.grasp_model_network.specs.declared.plan.WorldPlan.{WorldPlan}
use Rattle.grasp_model_doubts.specs.Events.{doubt_event, networks_within}
use Rattle.grasp_model_doubts.specs.Runs.{DoubtTurn, doubt_networks}
use Rattle.grasp_model_doubts.specs.World.{DoubtState}
use Rattle.grasp_model_doubts.specs.declared.event.DoubtEvent.{DoubtEvent}
use Rattle.grasp_model_doubts.specs.declared.event.DoubtEvent.TheVariants as doubt
use Rattle.grasp_model_script.specs.LineRuns.{act_told, event_told, placed_event}
use Rattle.grasp_model_script.specs.Safe.{IsSafe}
use Rattle.grasp_script.specs.declared.line.LineAct.{LineAct}
use Rattle.grasp_script.specs.declared.line.LineAct.TheVariants.{Event as Happens, State}
use Rattle.grasp_script_doubts.proofs.ScriptLaws.{one_script}
use Rattle.grasp_script_doubts.specs.Scripts.{IsDoubtScript}
use Rattle.grasp_script_doubts.specs.declared.line.DoubtLine.{DoubtLine}
use Rattle.grasp_script_doubts.specs.declared.line.DoubtLineAct.{DoubtLineAct}
use Rattle.grasp_script_doubts.specs.declared.line.DoubtLineAct.TheVariants as act
use Rattle.grasp_model_script_doubts.specs.Laws.{DoubtRunsOrStop, DoubtTextsAgree}
use Rattle.grasp_model_script_doubts.specs.LineRuns.{DoubtLineOverflows, DoubtLineRun, MayHappen, MayRunDoubts, Oversends, act_event, after_doubt_line, doubt_act_told, doubt_line_told, doubt_told, plain_event, state_then, turn_of}
use Rattle.grasp_model_script_doubts.specs.ScriptRuns.{DoubtsSendTooMuch, IsDoubtRunText, IsDoubtStoppedText, MayRunAllDoubts, Resolves, ResolvesTooMuch, StopsResolving, doubt_lines_of, doubt_told_from, doubt_turns, doubts_of, state_after}
use Rattle.grasp_model_script_doubts.proofs.OneEvent.{event_fits, events_agree, reports_agree}

-- ---- one line

module _ (s : Setting) (k : DoubtState) (r : IsReached s k.world) where
  states_agree : (o : Option DoubtEvent) (c d : Choice) → MayHappen s k o c → MayHappen s k o d → state_then s k o c ≡ state_then s k o d
  states_agree None c d x y = refl
  states_agree (Some e) c d x y = events_agree s k r e c d x y

  line_fits : (o : Option DoubtEvent) (c : Choice) → MayHappen s k o c → Oversends s k o → ⊥
  line_fits None c x o = o
  line_fits (Some e) c x o = event_fits s k r e c x o

  plain_told : (a : LineAct) (text : List ℕ) (c d : Choice) → MayHappen s k (plain_event k.world a) c → MayHappen s k (plain_event k.world a) d → act_told s k.world text a c ≡ act_told s k.world text a d
  plain_told (Happens e) text c d x y = ap (event_told text) (runs_agree.events s k.world (placed_event k.world e) c d r x.0 y.0).report
  plain_told (State node) text c d x y = refl

  acts_told : (a : DoubtLineAct) (text : List ℕ) (c d : Choice) → MayHappen s k (act_event k.world a) c → MayHappen s k (act_event k.world a) d → doubt_act_told s k text a c ≡ doubt_act_told s k text a d
  acts_told (act.Plain a) text c d x y = plain_told a text c d x y
  acts_told (act.Doubter node) text c d x y = ap (doubt_told text) (reports_agree s k r (doubt.Doubter node) c d x y)
  acts_told (act.Ask node prefix peer) text c d x y = ap (doubt_told text) (reports_agree s k r (doubt.Ask node prefix peer) c d x y)

  record IsSameLine (x y : DoubtLineRun) : Type 0 where
    after : after_doubt_line s k x ≡ after_doubt_line s k y
    told : doubt_line_told s k x ≡ doubt_line_told s k y

  lines_agree : (x y : DoubtLineRun) → MayRunDoubts s k x → MayRunDoubts s k y → x.line ≡ y.line → IsSameLine x y
  lines_agree x y a b same =
      let here : MayHappen s k (act_event k.world x.line.act) y.choice = subst (λ (l : DoubtLine). MayHappen s k (act_event k.world l.act) y.choice) (sym same) b in
      record {
        after = states_agree (act_event k.world x.line.act) x.choice y.choice a here ∙ ap (λ (l : DoubtLine). state_then s k (act_event k.world l.act) y.choice) same;
        told = acts_told x.line.act x.line.text x.choice y.choice a here ∙ ap (λ (l : DoubtLine). doubt_act_told s k l.text l.act y.choice) same;
      }

-- ---- the networks of a run are safe, and so turns lead to them

later_all : {A : Type 0} (P : A → Type 0) (xs ys : List A) → All P (xs ++ ys) → All P ys
later_all P [] ys all = all
later_all P (x ∷ xs) ys all = later_all P xs ys (All-tail P x (xs ++ ys) all)

first_safe : (s : Setting) (k : DoubtState) (hs : List DoubtTurn) → All (IsSafe s) (doubt_networks s k hs) → IsSafe s k.world
unfolding doubt_networks
first_safe s k [] all = All-head (IsSafe s) k.world [] all
first_safe s k (h ∷ hs) all = All-head (IsSafe s) k.world (networks_within s k h.event h.choice ++ doubt_networks s (doubt_event s k h.event h.choice) hs) all

rest_safe : (s : Setting) (k : DoubtState) (o : Option DoubtEvent) (c : Choice) (hs : List DoubtTurn) → All (IsSafe s) (doubt_networks s k (turn_of o c ++ hs)) → All (IsSafe s) (doubt_networks s (state_then s k o c) hs)
unfolding doubt_networks
rest_safe s k None c hs all = all
rest_safe s k (Some e) c hs all =
    later_all (IsSafe s) (networks_within s k e c) (doubt_networks s (doubt_event s k e c) hs) (All-tail (IsSafe s) k.world (networks_within s k e c ++ doubt_networks s (doubt_event s k e c) hs) all)

-- each network that lines lead to is safe
abbrev AreSafe : Setting → DoubtState → List DoubtLineRun → Type 0
AreSafe s k xs = All (IsSafe s) (doubt_networks s k (doubt_turns s k xs))

reached_here : (s : Setting) (k : DoubtState) (xs : List DoubtLineRun) → AreSafe s k xs → IsReached s k.world
reached_here s k xs all = (first_safe s k (doubt_turns s k xs) all).reached

safe_then : (s : Setting) (k : DoubtState) (x : DoubtLineRun) (xs : List DoubtLineRun) → AreSafe s k (x ∷ xs) → AreSafe s (after_doubt_line s k x) xs
unfolding doubt_turns
safe_then s k x xs all = rest_safe s k (act_event k.world x.line.act) x.choice (doubt_turns s (after_doubt_line s k x) xs) all

-- ---- lists of lines

head_same : (x y : DoubtLine) (xs ys : List DoubtLine) → x ∷ xs ≡ y ∷ ys → x ≡ y
head_same x y xs ys e = cc

tail_same : (x y : DoubtLine) (xs ys : List DoubtLine) → x ∷ xs ≡ y ∷ ys → xs ≡ ys
tail_same x y xs ys e = cc

none_more : (x : DoubtLine) (xs : List DoubtLine) → [] ≡ x ∷ xs → ⊥
none_more x xs e = absurd (cc)

more_none : (x : DoubtLine) (xs : List DoubtLine) → x ∷ xs ≡ [] → ⊥
more_none x xs e = absurd (cc)

told_then : (s : Setting) (k : DoubtState) (r : IsReached s k.world) (x y : DoubtLineRun) (xs ys : List DoubtLineRun) → IsSameLine s k r x y
    → doubt_told_from s (after_doubt_line s k x) xs ≡ doubt_told_from s (after_doubt_line s k x) ys → doubt_told_from s k (x ∷ xs) ≡ doubt_told_from s k (y ∷ ys)
unfolding doubt_told_from
told_then s k r x y xs ys first rest =
    ap (λ (t : List ℕ). t ++ 10 ∷ doubt_told_from s (after_doubt_line s k x) xs) first.told
    ∙ ap (λ (t : List ℕ). doubt_line_told s k y ++ 10 ∷ t) (rest ∙ ap (λ (u : DoubtState). doubt_told_from s u ys) first.after)

-- two runs of the same lines tell the same
same_lines : (s : Setting) (xs ys : List DoubtLineRun) (k : DoubtState) → AreSafe s k xs → MayRunAllDoubts s k xs → MayRunAllDoubts s k ys → doubt_lines_of xs ≡ doubt_lines_of ys
    → doubt_told_from s k xs ≡ doubt_told_from s k ys
unfolding MayRunAllDoubts
same_lines s [] [] k safe a b e = refl
same_lines s [] (y ∷ ys) k safe a b e = absurd (none_more y.line (doubt_lines_of ys) e)
same_lines s (x ∷ xs) [] k safe a b e = absurd (more_none x.line (doubt_lines_of xs) e)
same_lines s (x ∷ xs) (y ∷ ys) k safe a b e =
    let r : IsReached s k.world = reached_here s k (x ∷ xs) safe in
    let first : IsSameLine s k r x y = lines_agree s k r x y a.0 b.0 (head_same x.line y.line (doubt_lines_of xs) (doubt_lines_of ys) e) in
    told_then s k r x y xs ys first
    (same_lines s xs ys (after_doubt_line s k x) (safe_then s k x xs safe) a.1 (subst (λ (u : DoubtState). MayRunAllDoubts s u ys) (sym first.after) b.1) (tail_same x.line y.line (doubt_lines_of xs) (doubt_lines_of ys) e))

-- ---- lines that stop

-- where all lines run, none of them sends too much
all_or_stop : (s : Setting) (xs ys : List DoubtLineRun) (l : DoubtLine) (rest : List DoubtLine) (k : DoubtState) → AreSafe s k xs → MayRunAllDoubts s k xs → MayRunAllDoubts s k ys
    → doubt_lines_of xs ++ l ∷ rest ≡ doubt_lines_of ys → DoubtLineOverflows s (state_after s k xs) l.act → ⊥
unfolding MayRunAllDoubts state_after
all_or_stop s [] [] l rest k safe a b e o = more_none l rest e
all_or_stop s [] (y ∷ ys) l rest k safe a b e o =
    line_fits s k (reached_here s k [] safe) (act_event k.world y.line.act) y.choice b.0 (subst (λ (m : DoubtLine). DoubtLineOverflows s k m.act) (head_same l y.line rest (doubt_lines_of ys) e) o)
all_or_stop s (x ∷ xs) [] l rest k safe a b e o = more_none x.line (doubt_lines_of xs ++ l ∷ rest) e
all_or_stop s (x ∷ xs) (y ∷ ys) l rest k safe a b e o =
    let r : IsReached s k.world = reached_here s k (x ∷ xs) safe in
    let first : IsSameLine s k r x y = lines_agree s k r x y a.0 b.0 (head_same x.line y.line (doubt_lines_of xs ++ l ∷ rest) (doubt_lines_of ys) e) in
    all_or_stop s xs ys l rest (after_doubt_line s k x) (safe_then s k x xs safe) a.1 (subst (λ (u : DoubtState). MayRunAllDoubts s u ys) (sym first.after) b.1)
    (tail_same x.line y.line (doubt_lines_of xs ++ l ∷ rest) (doubt_lines_of ys) e) o

-- two runs of the same lines that stop tell the same
same_stops : (s : Setting) (xs ys : List DoubtLineRun) (l m : DoubtLine) (ls ms : List DoubtLine) (k : DoubtState) → AreSafe s k xs → MayRunAllDoubts s k xs → MayRunAllDoubts s k ys
    → doubt_lines_of xs ++ l ∷ ls ≡ doubt_lines_of ys ++ m ∷ ms → DoubtLineOverflows s (state_after s k xs) l.act → DoubtLineOverflows s (state_after s k ys) m.act → doubt_told_from s k xs ≡ doubt_told_from s k ys
unfolding MayRunAllDoubts state_after
same_stops s [] [] l m ls ms k safe a b e o p = refl
same_stops s [] (y ∷ ys) l m ls ms k safe a b e o p =
    absurd (line_fits s k (reached_here s k [] safe) (act_event k.world y.line.act) y.choice b.0 (subst (λ (n : DoubtLine). DoubtLineOverflows s k n.act) (head_same l y.line ls (doubt_lines_of ys ++ m ∷ ms) e) o))
same_stops s (x ∷ xs) [] l m ls ms k safe a b e o p =
    absurd (line_fits s k (reached_here s k (x ∷ xs) safe) (act_event k.world x.line.act) x.choice a.0 (subst (λ (n : DoubtLine). DoubtLineOverflows s k n.act) (sym (head_same x.line m (doubt_lines_of xs ++ l ∷ ls) ms e)) p))
same_stops s (x ∷ xs) (y ∷ ys) l m ls ms k safe a b e o p =
    let r : IsReached s k.world = reached_here s k (x ∷ xs) safe in
    let first : IsSameLine s k r x y = lines_agree s k r x y a.0 b.0 (head_same x.line y.line (doubt_lines_of xs ++ l ∷ ls) (doubt_lines_of ys ++ m ∷ ms) e) in
    told_then s k r x y xs ys first
    (same_stops s xs ys l m ls ms (after_doubt_line s k x) (safe_then s k x xs safe) a.1 (subst (λ (u : DoubtState). MayRunAllDoubts s u ys) (sym first.after) b.1)
    (tail_same x.line y.line (doubt_lines_of xs ++ l ∷ ls) (doubt_lines_of ys ++ m ∷ ms) e) o (subst (λ (u : DoubtState). DoubtLineOverflows s (state_after s u ys) m.act) (sym first.after) p))

-- ---- the laws

one_text : (plan : WorldPlan) (lines : List DoubtLine) (a b : List ℕ) → IsDoubtRunText plan lines a → IsDoubtRunText plan lines b → a ≡ b
one_text plan lines a b x y =
    x.told ∙ same_lines (script_setting plan) x.run y.run (doubts_of plan) x.safely.safe x.safely.may_run y.safely.may_run (x.is_run ∙ sym y.is_run) ∙ sym y.told

one_stop : (plan : WorldPlan) (lines : List DoubtLine) (a b : List ℕ) → IsDoubtStoppedText plan lines a → IsDoubtStoppedText plan lines b → a ≡ b
one_stop plan lines a b x y =
    x.told
    ∙ same_stops (script_setting plan) x.stops.run y.stops.run x.stops.line y.stops.line x.stops.rest y.stops.rest (doubts_of plan) x.stops.safely.safe x.stops.safely.may_run y.stops.safely.may_run
    (x.stops.is_run ∙ sym y.stops.is_run) x.stops.overflows y.stops.overflows
    ∙ sym y.told

run_or_stop : (plan : WorldPlan) (lines : List DoubtLine) (a : List ℕ) → IsDoubtRunText plan lines a → ¬ DoubtsSendTooMuch plan lines
run_or_stop plan lines a x stops =
    all_or_stop (script_setting plan) stops.run x.run stops.line stops.rest (doubts_of plan) stops.safely.safe stops.safely.may_run x.safely.may_run (stops.is_run ∙ sym x.is_run) stops.overflows

-- what is so of the script that a text is, is so of it wherever the text is read as one
of_one : (P : WorldPlan → List DoubtLine → Type 0) (text : List ℕ) (p q : WorldPlan) (a b : List DoubtLine) → IsDoubtScript text p a → IsDoubtScript text q b → P q b → P p a
of_one P text p q a b x y holds =
    let one : (p ≡ q) × (a ≡ b) = one_script text p q a b x y in
    subst (λ (ls : List DoubtLine). P p ls) (sym one.1) (subst (λ (r : WorldPlan). P r b) (sym one.0) holds)

one_report : (text a b : List ℕ) → Resolves text a → Resolves text b → a ≡ b
one_report text a b x y = one_text x.plan x.lines a b x.run (of_one (λ (p : WorldPlan) (ls : List DoubtLine). IsDoubtRunText p ls b) text x.plan y.plan x.lines y.lines x.script y.script y.run)

one_stopping : (text a b : List ℕ) → StopsResolving text a → StopsResolving text b → a ≡ b
one_stopping text a b x y = one_stop x.plan x.lines a b x.stopped (of_one (λ (p : WorldPlan) (ls : List DoubtLine). IsDoubtStoppedText p ls b) text x.plan y.plan x.lines y.lines x.script y.script y.stopped)

report_or_stop : (text a : List ℕ) → Resolves text a → ¬ ResolvesTooMuch text
report_or_stop text a x y = run_or_stop x.plan x.lines a x.run (of_one (λ (p : WorldPlan) (ls : List DoubtLine). DoubtsSendTooMuch p ls) text x.plan y.plan x.lines y.lines x.script y.script y.stops)

pub doubt_texts_agree : DoubtTextsAgree
doubt_texts_agree = record { lines = one_text; texts = one_report; stopped = one_stopping }

pub doubt_runs_or_stop : DoubtRunsOrStop
doubt_runs_or_stop = record { lines = run_or_stop; texts = report_or_stop }
