-- A script of a network whose nodes crash has one run.
use Rattle.std.proofs.Common.{◌≡◌, refl, sym, ap, ◌∙◌, subst, ℕ, ◌-◌, Bool, true, false, List, [], ◌∷◌, ◌++◌, length, All, Option, None, Some}
use Rattle.std.proofs.lemmas.List.Elements.{All-head, All-tail}
use Rattle.grasp_disk.specs.Calls.{DiskCall}
use Rattle.grasp_disk.specs.Memory.{left_by}
use Rattle.grasp_disk.specs.declared.left.Left.{Left}
use Rattle.grasp_store.specs.Current.{image_on}
use Rattle.grasp_laws_network.specs.Keeping.{IsSameOutcome}
use Rattle.grasp_laws_reports.proofs.LongerRuns.{stops_agree}
use Rattle.grasp_laws_reports.proofs.SameRuns.{runs_agree}
use Rattle.grasp_model_network.specs.Restarting.{after_restart}
use Rattle.grasp_model_network.specs.Runs.{IsReached}
use Rattle.grasp_model_network.specs.Setting.{Setting, script_setting}
use Rattle.grasp_model_network.specs.Visits.{Choice}
use Rattle.grasp_model_network.specs.World.{WorldState}
use Rattle.grasp_model_network.specs.declared.event.Event.{Event}
use Rattle.grasp_model_network.specs.declared.event.Event.TheVariants as event
use Rattle.grasp_model_network.specs.declared.plan.WorldPlan.{WorldPlan}
use Rattle.grasp_model_kept.specs.Crashing.{CallOccurs, CallOverflows, bytes_left, image_left, is_cut, made_cut, world_crashed, world_cut}
use Rattle.grasp_model_kept.specs.Disks.{asked_here, asked_then, disks_after, roots_of}
use Rattle.grasp_store.specs.Saving.{first_calls}
use Rattle.grasp_model_kept.specs.Runs.{KeptHappening, KeptOccurs, KeptOverflows, kept_event, kept_networks, network_within}
use Rattle.grasp_model_kept.specs.World.{KeptState, disk_of, with_disk}
use Rattle.grasp_model_kept.specs.declared.event.KeptEvent.{KeptEvent}
use Rattle.grasp_model_kept.specs.declared.event.KeptEvent.TheVariants as kept
use Rattle.grasp_model_script.specs.LineRuns.{act_told, event_told, placed_event}
use Rattle.grasp_model_script.specs.Safe.{IsSafe}
use Rattle.grasp_script.specs.declared.line.LineAct.{LineAct}
use Rattle.grasp_script.specs.declared.line.LineAct.TheVariants as act
use Rattle.grasp_script_kept.proofs.ScriptLaws.{one_script}
use Rattle.grasp_script_kept.specs.Reports.{told_restart}
use Rattle.grasp_script_kept.specs.Scripts.{IsKeptScript}
use Rattle.grasp_script_kept.specs.declared.line.KeptLine.{KeptLine}
use Rattle.grasp_script_kept.specs.declared.line.KeptLine.TheVariants as line
use Rattle.grasp_model_script_kept.specs.Laws.{KeptRunsOrStop, KeptTextsAgree}
use Rattle.grasp_model_script_kept.specs.LineRuns.{KeptLineOverflows, KeptLineRun, MayHappen, Oversends, MayRunKept, act_event, after_kept_line, happening_of, kept_line_told, kept_told, line_event, state_then}
use Rattle.grasp_model_script_kept.specs.ScriptRuns.{IsKeptRunText, IsKeptStoppedText, KeepsReporting, KeepsTooMuch, KeptSendsTooMuch, MayRunAllKept, RunsKeptSafely, StopsKeeping, kept_happenings, kept_lines_of, kept_of, kept_told_from, state_after}

-- ---- one event

module _ (s : Setting) (k : KeptState) (r : IsReached s k.world) where
  -- where the agent's call comes out, the network at the crash and the calls of the disk are the same
  record IsSameCut (node calls : ℕ) (c d : Choice) (b : Bool) : Type 0 where
    world : world_cut s k.world node c b ≡ world_cut s k.world node d b
    made : made_cut s k node calls c b ≡ made_cut s k node calls d b

  cuts_agree : (node calls : ℕ) (c d : Choice) (b : Bool) → CallOccurs s k.world node c b → CallOccurs s k.world node d b → IsSameCut node calls c d b
  cuts_agree node calls c d true x y = record { world = refl; made = refl }
  cuts_agree node calls c d false x y =
      let o : IsSameOutcome s k.world (event.Agent node false) c d = runs_agree.events s k.world (event.Agent node false) c d r x y in
      record {
        world = o.after;
        made = ap (λ (w : WorldState). first_calls (calls - length (asked_here k node)) (asked_then s k node w) ++ asked_here k node) o.after;
      }

  abbrev content_by : ℕ → Left → List DiskCall → List ℕ
  content_by node left made = left_by left (disk_of k.disks node) made

  abbrev state_by : ℕ → Left → WorldState → List DiskCall → KeptState
  state_by node left w made = record { world = after_restart s w node (image_on (roots_of s node) (content_by node left made)); disks = with_disk k.disks node (content_by node left made) }

  events_agree : (e : KeptEvent) (c d : Choice) → KeptOccurs s k e c → KeptOccurs s k e d → kept_event s k e c ≡ kept_event s k e d
  unfolding kept_event
  events_agree (kept.Plain e) c d x y =
      ap (λ (w : WorldState). record { world = w; disks = disks_after s k e w }) (runs_agree.events s k.world e c d r x y).after
  events_agree (kept.Crash node calls left) c d x y =
      let same : IsSameCut node calls c d (is_cut k node calls) = cuts_agree node calls c d (is_cut k node calls) x.1 y.1 in
      ap (λ (w : WorldState). state_by node left w (made_cut s k node calls c (is_cut k node calls))) same.world
      ∙ ap (λ (l : List DiskCall). state_by node left (world_cut s k.world node d (is_cut k node calls)) l) same.made

  images_agree : (node calls : ℕ) (left : Left) (c d : Choice) → KeptOccurs s k (kept.Crash node calls left) c → KeptOccurs s k (kept.Crash node calls left) d
      → image_left s k node calls left c ≡ image_left s k node calls left d
  images_agree node calls left c d x y =
      ap (λ (l : List DiskCall). image_on (roots_of s node) (content_by node left l)) (cuts_agree node calls c d (is_cut k node calls) x.1 y.1).made

  call_fits : (node : ℕ) (c : Choice) (b : Bool) → CallOccurs s k.world node c b → CallOverflows s k.world node b → ⊥
  call_fits node c true x o = o
  call_fits node c false x o = stops_agree s k.world (event.Agent node false) c r x o

  -- an event that comes out doesn't send too much
  event_fits : (e : KeptEvent) (c : Choice) → KeptOccurs s k e c → KeptOverflows s k e → ⊥
  event_fits (kept.Plain e) c x o = stops_agree s k.world e c r x o
  event_fits (kept.Crash node calls left) c x o = call_fits node c (is_cut k node calls) x.1 o

  -- ---- one line

  states_agree : (o : Option KeptEvent) (c d : Choice) → MayHappen s k o c → MayHappen s k o d → state_then s k o c ≡ state_then s k o d
  states_agree None c d x y = refl
  states_agree (Some e) c d x y = events_agree e c d x y

  line_fits : (o : Option KeptEvent) (c : Choice) → MayHappen s k o c → Oversends s k o → ⊥
  line_fits None c x o = o
  line_fits (Some e) c x o = event_fits e c x o

  acts_told : (a : LineAct) (text : List ℕ) (c d : Choice) → MayHappen s k (act_event k.world a) c → MayHappen s k (act_event k.world a) d → act_told s k.world text a c ≡ act_told s k.world text a d
  acts_told (act.Event e) text c d x y = ap (event_told text) (runs_agree.events s k.world (placed_event k.world e) c d r x y).report
  acts_told (act.State node) text c d x y = refl

  lines_told : (l : KeptLine) (c d : Choice) → MayHappen s k (line_event k.world l) c → MayHappen s k (line_event k.world l) d → kept_told s k l c ≡ kept_told s k l d
  lines_told (line.Plain l) c d x y = acts_told l.act l.text c d x y
  lines_told (line.Crash text node calls left) c d x y = ap (told_restart text) (images_agree node calls left c d x y)

  record IsSameLine (x y : KeptLineRun) : Type 0 where
    after : after_kept_line s k x ≡ after_kept_line s k y
    told : kept_line_told s k x ≡ kept_line_told s k y

  lines_agree : (x y : KeptLineRun) → MayRunKept s k x → MayRunKept s k y → x.line ≡ y.line → IsSameLine x y
  lines_agree x y a b same =
      let here : MayHappen s k (line_event k.world x.line) y.choice = subst (λ (l : KeptLine). MayHappen s k (line_event k.world l) y.choice) (sym same) b in
      record {
        after = states_agree (line_event k.world x.line) x.choice y.choice a here ∙ ap (λ (l : KeptLine). state_then s k (line_event k.world l) y.choice) same;
        told = lines_told x.line x.choice y.choice a here ∙ ap (λ (l : KeptLine). kept_told s k l y.choice) same;
      }

-- ---- the networks of a run are safe, and so turns lead to them

later_all : {A : Type 0} (P : A → Type 0) (xs ys : List A) → All P (xs ++ ys) → All P ys
later_all P [] ys all = all
later_all P (x ∷ xs) ys all = later_all P xs ys (All-tail P x (xs ++ ys) all)

first_safe : (s : Setting) (k : KeptState) (hs : List KeptHappening) → All (IsSafe s) (kept_networks s k hs) → IsSafe s k.world
unfolding kept_networks
first_safe s k [] all = All-head (IsSafe s) k.world [] all
first_safe s k (h ∷ hs) all = All-head (IsSafe s) k.world (network_within s k h.event h.choice ++ kept_networks s (kept_event s k h.event h.choice) hs) all

rest_safe : (s : Setting) (k : KeptState) (o : Option KeptEvent) (c : Choice) (hs : List KeptHappening) → All (IsSafe s) (kept_networks s k (happening_of o c ++ hs)) → All (IsSafe s) (kept_networks s (state_then s k o c) hs)
unfolding kept_networks
rest_safe s k None c hs all = all
rest_safe s k (Some e) c hs all =
    later_all (IsSafe s) (network_within s k e c) (kept_networks s (kept_event s k e c) hs) (All-tail (IsSafe s) k.world (network_within s k e c ++ kept_networks s (kept_event s k e c) hs) all)

-- each network that lines lead to is safe
abbrev AreSafe : Setting → KeptState → List KeptLineRun → Type 0
AreSafe s k xs = All (IsSafe s) (kept_networks s k (kept_happenings s k xs))

reached_here : (s : Setting) (k : KeptState) (xs : List KeptLineRun) → AreSafe s k xs → IsReached s k.world
reached_here s k xs all = (first_safe s k (kept_happenings s k xs) all).reached

safe_then : (s : Setting) (k : KeptState) (x : KeptLineRun) (xs : List KeptLineRun) → AreSafe s k (x ∷ xs) → AreSafe s (after_kept_line s k x) xs
unfolding kept_happenings
safe_then s k x xs all = rest_safe s k (line_event k.world x.line) x.choice (kept_happenings s (after_kept_line s k x) xs) all

-- ---- lists of lines

head_same : (x y : KeptLine) (xs ys : List KeptLine) → x ∷ xs ≡ y ∷ ys → x ≡ y
head_same x y xs ys e = cc

tail_same : (x y : KeptLine) (xs ys : List KeptLine) → x ∷ xs ≡ y ∷ ys → xs ≡ ys
tail_same x y xs ys e = cc

none_more : (x : KeptLine) (xs : List KeptLine) → [] ≡ x ∷ xs → ⊥
none_more x xs e = absurd (cc)

more_none : (x : KeptLine) (xs : List KeptLine) → x ∷ xs ≡ [] → ⊥
more_none x xs e = absurd (cc)

told_then : (s : Setting) (k : KeptState) (r : IsReached s k.world) (x y : KeptLineRun) (xs ys : List KeptLineRun) → IsSameLine s k r x y
    → kept_told_from s (after_kept_line s k x) xs ≡ kept_told_from s (after_kept_line s k x) ys → kept_told_from s k (x ∷ xs) ≡ kept_told_from s k (y ∷ ys)
unfolding kept_told_from
told_then s k r x y xs ys first rest =
    ap (λ (t : List ℕ). t ++ 10 ∷ kept_told_from s (after_kept_line s k x) xs) first.told
    ∙ ap (λ (t : List ℕ). kept_line_told s k y ++ 10 ∷ t) (rest ∙ ap (λ (u : KeptState). kept_told_from s u ys) first.after)

-- two runs of the same lines tell the same
same_lines : (s : Setting) (xs ys : List KeptLineRun) (k : KeptState) → AreSafe s k xs → MayRunAllKept s k xs → MayRunAllKept s k ys → kept_lines_of xs ≡ kept_lines_of ys
    → kept_told_from s k xs ≡ kept_told_from s k ys
unfolding MayRunAllKept
same_lines s [] [] k safe a b e = refl
same_lines s [] (y ∷ ys) k safe a b e = absurd (none_more y.line (kept_lines_of ys) e)
same_lines s (x ∷ xs) [] k safe a b e = absurd (more_none x.line (kept_lines_of xs) e)
same_lines s (x ∷ xs) (y ∷ ys) k safe a b e =
    let r : IsReached s k.world = reached_here s k (x ∷ xs) safe in
    let first : IsSameLine s k r x y = lines_agree s k r x y a.0 b.0 (head_same x.line y.line (kept_lines_of xs) (kept_lines_of ys) e) in
    told_then s k r x y xs ys first
    (same_lines s xs ys (after_kept_line s k x) (safe_then s k x xs safe) a.1 (subst (λ (u : KeptState). MayRunAllKept s u ys) (sym first.after) b.1) (tail_same x.line y.line (kept_lines_of xs) (kept_lines_of ys) e))

-- ---- lines that stop

-- where all lines run, none of them sends too much
all_or_stop : (s : Setting) (xs ys : List KeptLineRun) (l : KeptLine) (rest : List KeptLine) (k : KeptState) → AreSafe s k xs → MayRunAllKept s k xs → MayRunAllKept s k ys
    → kept_lines_of xs ++ l ∷ rest ≡ kept_lines_of ys → KeptLineOverflows s (state_after s k xs) l → ⊥
unfolding MayRunAllKept state_after
all_or_stop s [] [] l rest k safe a b e o = more_none l rest e
all_or_stop s [] (y ∷ ys) l rest k safe a b e o =
    line_fits s k (reached_here s k [] safe) (line_event k.world y.line) y.choice b.0 (subst (λ (m : KeptLine). KeptLineOverflows s k m) (head_same l y.line rest (kept_lines_of ys) e) o)
all_or_stop s (x ∷ xs) [] l rest k safe a b e o = more_none x.line (kept_lines_of xs ++ l ∷ rest) e
all_or_stop s (x ∷ xs) (y ∷ ys) l rest k safe a b e o =
    let r : IsReached s k.world = reached_here s k (x ∷ xs) safe in
    let first : IsSameLine s k r x y = lines_agree s k r x y a.0 b.0 (head_same x.line y.line (kept_lines_of xs ++ l ∷ rest) (kept_lines_of ys) e) in
    all_or_stop s xs ys l rest (after_kept_line s k x) (safe_then s k x xs safe) a.1 (subst (λ (u : KeptState). MayRunAllKept s u ys) (sym first.after) b.1)
    (tail_same x.line y.line (kept_lines_of xs ++ l ∷ rest) (kept_lines_of ys) e) o

-- two runs of the same lines that stop tell the same
same_stops : (s : Setting) (xs ys : List KeptLineRun) (l m : KeptLine) (ls ms : List KeptLine) (k : KeptState) → AreSafe s k xs → MayRunAllKept s k xs → MayRunAllKept s k ys
    → kept_lines_of xs ++ l ∷ ls ≡ kept_lines_of ys ++ m ∷ ms → KeptLineOverflows s (state_after s k xs) l → KeptLineOverflows s (state_after s k ys) m → kept_told_from s k xs ≡ kept_told_from s k ys
unfolding MayRunAllKept state_after
same_stops s [] [] l m ls ms k safe a b e o p = refl
same_stops s [] (y ∷ ys) l m ls ms k safe a b e o p =
    absurd (line_fits s k (reached_here s k [] safe) (line_event k.world y.line) y.choice b.0 (subst (λ (n : KeptLine). KeptLineOverflows s k n) (head_same l y.line ls (kept_lines_of ys ++ m ∷ ms) e) o))
same_stops s (x ∷ xs) [] l m ls ms k safe a b e o p =
    absurd (line_fits s k (reached_here s k (x ∷ xs) safe) (line_event k.world x.line) x.choice a.0 (subst (λ (n : KeptLine). KeptLineOverflows s k n) (sym (head_same x.line m (kept_lines_of xs ++ l ∷ ls) ms e)) p))
same_stops s (x ∷ xs) (y ∷ ys) l m ls ms k safe a b e o p =
    let r : IsReached s k.world = reached_here s k (x ∷ xs) safe in
    let first : IsSameLine s k r x y = lines_agree s k r x y a.0 b.0 (head_same x.line y.line (kept_lines_of xs ++ l ∷ ls) (kept_lines_of ys ++ m ∷ ms) e) in
    told_then s k r x y xs ys first
    (same_stops s xs ys l m ls ms (after_kept_line s k x) (safe_then s k x xs safe) a.1 (subst (λ (u : KeptState). MayRunAllKept s u ys) (sym first.after) b.1)
    (tail_same x.line y.line (kept_lines_of xs ++ l ∷ ls) (kept_lines_of ys ++ m ∷ ms) e) o (subst (λ (u : KeptState). KeptLineOverflows s (state_after s u ys) m) (sym first.after) p))

-- ---- the laws

one_text : (plan : WorldPlan) (lines : List KeptLine) (a b : List ℕ) → IsKeptRunText plan lines a → IsKeptRunText plan lines b → a ≡ b
one_text plan lines a b x y =
    x.told ∙ same_lines (script_setting plan) x.run y.run (kept_of plan) x.safely.safe x.safely.may_run y.safely.may_run (x.is_run ∙ sym y.is_run) ∙ sym y.told

one_stop : (plan : WorldPlan) (lines : List KeptLine) (a b : List ℕ) → IsKeptStoppedText plan lines a → IsKeptStoppedText plan lines b → a ≡ b
one_stop plan lines a b x y =
    x.told
    ∙ same_stops (script_setting plan) x.stops.run y.stops.run x.stops.line y.stops.line x.stops.rest y.stops.rest (kept_of plan) x.stops.safely.safe x.stops.safely.may_run y.stops.safely.may_run
    (x.stops.is_run ∙ sym y.stops.is_run) x.stops.overflows y.stops.overflows
    ∙ sym y.told

run_or_stop : (plan : WorldPlan) (lines : List KeptLine) (a : List ℕ) → IsKeptRunText plan lines a → ¬ KeptSendsTooMuch plan lines
run_or_stop plan lines a x stops =
    all_or_stop (script_setting plan) stops.run x.run stops.line stops.rest (kept_of plan) stops.safely.safe stops.safely.may_run x.safely.may_run (stops.is_run ∙ sym x.is_run) stops.overflows

-- what is so of the script that a text is, is so of it wherever the text is read as one
of_one : (P : WorldPlan → List KeptLine → Type 0) (text : List ℕ) (p q : WorldPlan) (a b : List KeptLine) → IsKeptScript text p a → IsKeptScript text q b → P q b → P p a
of_one P text p q a b x y holds =
    let one : (p ≡ q) × (a ≡ b) = one_script text p q a b x y in
    subst (λ (ls : List KeptLine). P p ls) (sym one.1) (subst (λ (r : WorldPlan). P r b) (sym one.0) holds)

one_report : (text a b : List ℕ) → KeepsReporting text a → KeepsReporting text b → a ≡ b
one_report text a b x y = one_text x.plan x.lines a b x.run (of_one (λ (p : WorldPlan) (ls : List KeptLine). IsKeptRunText p ls b) text x.plan y.plan x.lines y.lines x.script y.script y.run)

one_stopping : (text a b : List ℕ) → StopsKeeping text a → StopsKeeping text b → a ≡ b
one_stopping text a b x y = one_stop x.plan x.lines a b x.stopped (of_one (λ (p : WorldPlan) (ls : List KeptLine). IsKeptStoppedText p ls b) text x.plan y.plan x.lines y.lines x.script y.script y.stopped)

report_or_stop : (text a : List ℕ) → KeepsReporting text a → ¬ KeepsTooMuch text
report_or_stop text a x y = run_or_stop x.plan x.lines a x.run (of_one (λ (p : WorldPlan) (ls : List KeptLine). KeptSendsTooMuch p ls) text x.plan y.plan x.lines y.lines x.script y.script y.stops)

pub kept_texts_agree : KeptTextsAgree
kept_texts_agree = record { lines = one_text; texts = one_report; stopped = one_stopping }

pub kept_runs_or_stop : KeptRunsOrStop
kept_runs_or_stop = record { lines = run_or_stop; texts = report_or_stop }
