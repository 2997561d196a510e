-- The run of a script has one record.
use Rattle.std.proofs.Common.{◌≡◌, refl, sym, ap, ◌∙◌, subst, ℕ, Bool, true, false, List, [], ◌∷◌, ◌++◌, map, Option, None, Some}
use Rattle.std.proofs.lemmas.List.Elements.{All-head}
use Rattle.std.specs.List.{All}
use Rattle.grasp_laws_delivery.proofs.FedNetworks.{nodes_are_fed}
use Rattle.grasp_laws_network.proofs.Agreeing.{SameStep, steps_agree}
use Rattle.grasp_laws_network.specs.Keeping.{IsFedWhere, IsSameOutcome}
use Rattle.grasp_laws_reports.proofs.LongerRuns.{stops_agree}
use Rattle.grasp_laws_reports.proofs.SameRuns.{runs_agree}
use Rattle.grasp_model_node.specs.Node.{NodeState}
use Rattle.grasp_types.specs.declared.reply.Reply.{Reply}
use Rattle.grasp_model_network.specs.Events.{Occurs, after_event, drains, visit_of}
use Rattle.grasp_model_network.specs.Runs.{IsReached, world_of}
use Rattle.grasp_model_network.specs.Sending.{event_drain}
use Rattle.grasp_model_network.specs.Setting.{Setting, script_setting}
use Rattle.grasp_model_network.specs.Visits.{Choice, MayCome, Visit}
use Rattle.grasp_model_network.specs.World.{WorldState, member_of, present_life}
use Rattle.grasp_model_network.specs.declared.event.Event.{Event}
use Rattle.grasp_model_network.specs.declared.event.Event.TheVariants as event
use Rattle.grasp_model_network.specs.EventSteps.{returning_reply, wanting_reply}
use Rattle.grasp_model_network.specs.declared.plan.WorldPlan.{WorldPlan}
use Rattle.grasp_script.proofs.ScriptLaws.{one_script}
use Rattle.grasp_script.specs.Scripts.{IsScript}
use Rattle.grasp_script.specs.declared.line.Line.{Line}
use Rattle.grasp_script.specs.declared.line.LineAct.{LineAct}
use Rattle.grasp_script.specs.declared.line.LineAct.TheVariants as act
use Rattle.grasp_model_script.specs.LineRuns.{LineRun, MayComeOut, MayRun, after_act, after_line, placed_event}
use Rattle.grasp_model_script.specs.Safe.{IsSafe}
use Rattle.grasp_model_script.specs.ScriptRuns.{MayRunAll, RunsSafely, lines_of, network_after, networks_from}
use Rattle.grasp_model_script.specs.Stops.{LineOverflows, SendsTooMuch, TextSendsTooMuch}
use Rattle.grasp_model_script.proofs.RunLaws.{act_reached}
use Rattle.grasp_record.specs.Records.{record_line}
use Rattle.grasp_record.specs.declared.line.RecordAnswer.TheVariants as answer
use Rattle.grasp_record.specs.declared.line.RecordInput.TheVariants as took
use Rattle.grasp_record.specs.declared.line.RecordLine.{RecordLine}
use Rattle.grasp_model_audit.specs.Naming.{reading_of}
use Rattle.grasp_model_audit.specs.RecordRuns.{IsRecordOf, IsScriptOf, IsStoppedRecordOf, record_of, recorded_from}
use Rattle.grasp_model_audit.specs.Recording.{act_lines, answer_by, drain_lines, ended_lines, event_lines, given_behind, line_recorded, lines_by, record_text, step_line, step_lines, took_by, untaken_lines}
use Rattle.grasp_recorder.proofs.Headers.{header_is}
use Rattle.grasp_recorder.specs.Passing.{header_in}

-- ---- the lines of an event

told_step : ℕ → ℕ → Event → Visit → Reply → RecordLine
told_step node now e v r = record { node = node; now = now; input = took_by e v.input; answer = answer_by r }

told_drain : ℕ → ℕ → NodeState → RecordLine
told_drain node now n = record { node = node; now = now; input = took.Drain event_drain; answer = given_behind n }

-- steps with one reply and one node after them have the same lines
steps_recorded : (b : Bool) (node now : ℕ) (e : Event) (v : Visit) (c d : Choice) → SameStep c.reply d.reply c.after d.after
    → step_line node now e v c ∷ drain_lines b node now c ≡ step_line node now e v d ∷ drain_lines b node now d
unfolding told_step told_drain
steps_recorded true node now e v c d h =
    ap (λ (r : Reply). told_step node now e v r ∷ told_drain node now c.after ∷ []) h.reply
    ∙ ap (λ (n : NodeState). told_step node now e v d.reply ∷ told_drain node now n ∷ []) h.after
steps_recorded false node now e v c d h = ap (λ (r : Reply). told_step node now e v r ∷ []) h.reply

-- so have wants and returns that lead to one network
untaken_recorded : (s : Setting) (w : WorldState) (e : Event) (c d : Choice) → after_event s w e c ≡ after_event s w e d → untaken_lines s w e c ≡ untaken_lines s w e d
untaken_recorded s w (event.Want node length longest peer) c d same =
    ap (λ (x : WorldState). record { node = node; now = reading_of x node; input = took.Want length longest peer; answer = answer.Want (wanting_reply w (present_life w node)) } ∷ []) same
untaken_recorded s w (event.Return node prefix peer) c d same =
    ap (λ (x : WorldState). record { node = node; now = reading_of x node; input = took.Return prefix peer; answer = answer.Return (returning_reply w (present_life w node) prefix) } ∷ []) same
untaken_recorded s w _ c d same = refl

by_visit : (s : Setting) (w : WorldState) (e : Event) (c d : Choice) (o : Option Visit) → IsFedWhere o → MayCome o c → MayCome o d
    → after_event s w e c ≡ after_event s w e d → lines_by s w e c o ≡ lines_by s w e d o
by_visit s w e c d None fed x y same = untaken_recorded s w e c d same
by_visit s w e c d (Some v) fed x y same =
    ap (λ (z : WorldState). step_lines (member_of w v.node) (reading_of z (member_of w v.node)) e v c) same
    ∙ steps_recorded (drains e) (member_of w v.node) (reading_of (after_event s w e d) (member_of w v.node)) e v c d (steps_agree v c d fed x y)

events_recorded : (s : Setting) (w : WorldState) (e : Event) (c d : Choice) → IsReached s w → Occurs s w e c → Occurs s w e d
    → after_event s w e c ≡ after_event s w e d → event_lines s w e c ≡ event_lines s w e d
unfolding event_lines
events_recorded s w e c d r x y same = by_visit s w e c d (visit_of s w e) (nodes_are_fed.visits s w e r) x.comes y.comes same

-- ---- one line of a script

-- however the line comes out, its record lines are the same, and the same network is there after it
record IsSameAct (s : Setting) (w : WorldState) (a : LineAct) (c d : Choice) : Type 0 where
  pub after : after_act s w a c ≡ after_act s w a d
  pub lines : act_lines s w a c ≡ act_lines s w a d

acts_recorded : (s : Setting) (w : WorldState) (a : LineAct) (c d : Choice) → IsReached s w → MayComeOut s w a c → MayComeOut s w a d → IsSameAct s w a c d
acts_recorded s w (act.Event e) c d r x y =
    let o : IsSameOutcome s w (placed_event w e) c d = runs_agree.events s w (placed_event w e) c d r x y in
    record { after = o.after; lines = events_recorded s w (placed_event w e) c d r x y o.after }
acts_recorded s w (act.State node) c d r x y = record { after = refl; lines = refl }

text_by : (s : Setting) (w : WorldState) (a : LineAct) (c d : Choice) → act_lines s w a c ≡ act_lines s w a d → record_text s w a c ≡ record_text s w a d
unfolding record_text
text_by s w a c d same = ap (λ (ls : List RecordLine). ended_lines (map record_line ls)) same

record IsSameLine (s : Setting) (w : WorldState) (x y : LineRun) : Type 0 where
  pub after : after_line s w x ≡ after_line s w y
  pub recorded : line_recorded s w x ≡ line_recorded s w y

lines_agree : (s : Setting) (w : WorldState) (x y : LineRun) → IsReached s w → MayRun s w x → MayRun s w y → x.line ≡ y.line → IsSameLine s w x y
lines_agree s w x y r a b same =
    let o : IsSameAct s w x.line.act x.choice y.choice = acts_recorded s w x.line.act x.choice y.choice r a (subst (λ (l : Line). MayComeOut s w l.act y.choice) (sym same) b) in
    record {
      after = o.after ∙ ap (λ (l : Line). after_act s w l.act y.choice) same;
      recorded = text_by s w x.line.act x.choice y.choice o.lines ∙ ap (λ (l : Line). record_text s w l.act y.choice) same;
    }

-- a line that comes out doesn't send too much
no_overflow : (s : Setting) (w : WorldState) (a : LineAct) (c : Choice) → IsReached s w → MayComeOut s w a c → LineOverflows s w a → ⊥
no_overflow s w (act.Event e) c r x o = stops_agree s w (placed_event w e) c r x o
no_overflow s w (act.State node) c r x o = o

-- ---- lists of lines

head_same : (x y : Line) (xs ys : List Line) → x ∷ xs ≡ y ∷ ys → x ≡ y
head_same x y xs ys e = cc

tail_same : (x y : Line) (xs ys : List Line) → x ∷ xs ≡ y ∷ ys → xs ≡ ys
tail_same x y xs ys e = cc

none_more : (x : Line) (xs : List Line) → [] ≡ x ∷ xs → ⊥
none_more x xs e = absurd (cc)

more_none : (x : Line) (xs : List Line) → x ∷ xs ≡ [] → ⊥
more_none x xs e = absurd (cc)

recorded_then : (s : Setting) (w : WorldState) (x y : LineRun) (xs ys : List LineRun) → IsSameLine s w x y
    → recorded_from s (after_line s w x) xs ≡ recorded_from s (after_line s w x) ys → recorded_from s w (x ∷ xs) ≡ recorded_from s w (y ∷ ys)
unfolding recorded_from
recorded_then s w x y xs ys first rest =
    ap (λ (t : List ℕ). t ++ recorded_from s (after_line s w x) xs) first.recorded
    ∙ ap (λ (t : List ℕ). line_recorded s w y ++ t) (rest ∙ ap (λ (u : WorldState). recorded_from s u ys) first.after)

-- two runs of the same lines have the same record
same_lines : (s : Setting) (xs ys : List LineRun) (w : WorldState) → IsReached s w → MayRunAll s w xs → MayRunAll s w ys → lines_of xs ≡ lines_of ys
    → recorded_from s w xs ≡ recorded_from s w ys
unfolding MayRunAll
same_lines s [] [] w r a b e = refl
same_lines s [] (y ∷ ys) w r a b e = absurd (none_more y.line (lines_of ys) e)
same_lines s (x ∷ xs) [] w r a b e = absurd (more_none x.line (lines_of xs) e)
same_lines s (x ∷ xs) (y ∷ ys) w r a b e =
    let first : IsSameLine s w x y = lines_agree s w x y r a.0 b.0 (head_same x.line y.line (lines_of xs) (lines_of ys) e) in
    recorded_then s w x y xs ys first
    (same_lines s xs ys (after_line s w x) (act_reached s w x.line.act x.choice r a.0) a.1 (subst (λ (u : WorldState). MayRunAll s u ys) (sym first.after) b.1)
    (tail_same x.line y.line (lines_of xs) (lines_of ys) e))

-- ---- lines that stop

-- where all lines run, none of them sends too much
all_or_stop : (s : Setting) (xs ys : List LineRun) (line : Line) (rest : List Line) (w : WorldState) → IsReached s w → MayRunAll s w xs → MayRunAll s w ys
    → lines_of xs ++ line ∷ rest ≡ lines_of ys → LineOverflows s (network_after s w xs) line.act → ⊥
unfolding MayRunAll network_after
all_or_stop s [] [] line rest w r a b e o = more_none line rest e
all_or_stop s [] (y ∷ ys) line rest w r a b e o =
    no_overflow s w y.line.act y.choice r b.0 (subst (λ (l : Line). LineOverflows s w l.act) (head_same line y.line rest (lines_of ys) e) o)
all_or_stop s (x ∷ xs) [] line rest w r a b e o = more_none x.line (lines_of xs ++ line ∷ rest) e
all_or_stop s (x ∷ xs) (y ∷ ys) line rest w r a b e o =
    let first : IsSameLine s w x y = lines_agree s w x y r a.0 b.0 (head_same x.line y.line (lines_of xs ++ line ∷ rest) (lines_of ys) e) in
    all_or_stop s xs ys line rest (after_line s w x) (act_reached s w x.line.act x.choice r a.0) a.1 (subst (λ (u : WorldState). MayRunAll s u ys) (sym first.after) b.1)
    (tail_same x.line y.line (lines_of xs ++ line ∷ rest) (lines_of ys) e) o

-- two runs of the same lines that stop have the same record
same_stops : (s : Setting) (xs ys : List LineRun) (l m : Line) (ls ms : List Line) (w : WorldState) → IsReached s w → MayRunAll s w xs → MayRunAll s w ys
    → lines_of xs ++ l ∷ ls ≡ lines_of ys ++ m ∷ ms → LineOverflows s (network_after s w xs) l.act → LineOverflows s (network_after s w ys) m.act
    → recorded_from s w xs ≡ recorded_from s w ys
unfolding MayRunAll network_after
same_stops s [] [] l m ls ms w r a b e o p = refl
same_stops s [] (y ∷ ys) l m ls ms w r a b e o p =
    absurd (no_overflow s w y.line.act y.choice r b.0 (subst (λ (n : Line). LineOverflows s w n.act) (head_same l y.line ls (lines_of ys ++ m ∷ ms) e) o))
same_stops s (x ∷ xs) [] l m ls ms w r a b e o p =
    absurd (no_overflow s w x.line.act x.choice r a.0 (subst (λ (n : Line). LineOverflows s w n.act) (sym (head_same x.line m (lines_of xs ++ l ∷ ls) ms e)) p))
same_stops s (x ∷ xs) (y ∷ ys) l m ls ms w r a b e o p =
    let first : IsSameLine s w x y = lines_agree s w x y r a.0 b.0 (head_same x.line y.line (lines_of xs ++ l ∷ ls) (lines_of ys ++ m ∷ ms) e) in
    recorded_then s w x y xs ys first
    (same_stops s xs ys l m ls ms (after_line s w x) (act_reached s w x.line.act x.choice r a.0) a.1 (subst (λ (u : WorldState). MayRunAll s u ys) (sym first.after) b.1)
    (tail_same x.line y.line (lines_of xs ++ l ∷ ls) (lines_of ys ++ m ∷ ms) e) o
    (subst (λ (u : WorldState). LineOverflows s (network_after s u ys) m.act) (sym first.after) p))

-- ---- from the first network of a plan

first_safe : (s : Setting) (w : WorldState) (xs : List LineRun) → All (IsSafe s) (networks_from s w xs) → IsSafe s w
unfolding networks_from
first_safe s w [] h = All-head (IsSafe s) w [] h
first_safe s w (x ∷ xs) h = All-head (IsSafe s) w (networks_from s (after_line s w x) xs) h

reached_first : (plan : WorldPlan) (xs : List LineRun) → RunsSafely plan xs → IsReached (script_setting plan) (world_of plan)
reached_first plan xs h = (first_safe (script_setting plan) (world_of plan) xs h.safe).reached

-- ---- texts

-- the run of a script in this plan, of these lines, of which a record tells
record HasRecord (text : List ℕ) (plan : WorldPlan) (lines : List Line) (written : List ℕ) : Type 0 where
  pub run : List LineRun
  pub is_run : lines_of run ≡ lines
  pub safely : RunsSafely plan run
  pub told : written ≡ record_of (header_in text lines) plan run

record HasStoppedRecord (text : List ℕ) (plan : WorldPlan) (lines : List Line) (written : List ℕ) : Type 0 where
  pub stops : SendsTooMuch plan lines
  pub told : written ≡ record_of (header_in text lines) plan stops.run

script_in : (text : List ℕ) (header : List (List ℕ)) (plan : WorldPlan) (lines : List Line) → IsScriptOf text header plan lines → IsScript text plan lines
script_in text header plan lines h = record { header = header; is_header = h.is_header; meant = h.meant; parts = h.parts }

-- the header is the lines before the last ones
header_same : (text : List ℕ) (header : List (List ℕ)) (plan : WorldPlan) (lines : List Line) (run : List LineRun) → IsScriptOf text header plan lines
    → record_of header plan run ≡ record_of (header_in text lines) plan run
unfolding script_in
header_same text header plan lines run h =
    ap (λ (front : List (List ℕ)). record_of front plan run) (sym (header_is text plan lines (script_in text header plan lines h)))

has_record : (text a : List ℕ) (x : IsRecordOf text a) → HasRecord text x.plan x.lines a
has_record text a x = record { run = x.run; is_run = x.is_run; safely = x.safely; told = x.told ∙ header_same text x.header x.plan x.lines x.run x.script }

has_stopped_record : (text a : List ℕ) (x : IsStoppedRecordOf text a) → HasStoppedRecord text x.plan x.lines a
has_stopped_record text a x = record { stops = x.stops; told = x.told ∙ header_same text x.header x.plan x.lines x.stops.run x.script }

same_record : (text : List ℕ) (plan : WorldPlan) (lines : List Line) (a b : List ℕ) → HasRecord text plan lines a → HasRecord text plan lines b → a ≡ b
same_record text plan lines a b x y =
    x.told
    ∙ ap (λ (t : List ℕ). ended_lines (header_in text lines) ++ t)
    (same_lines (script_setting plan) x.run y.run (world_of plan) (reached_first plan x.run x.safely) x.safely.may_run y.safely.may_run (x.is_run ∙ sym y.is_run))
    ∙ sym y.told

same_stopped_record : (text : List ℕ) (plan : WorldPlan) (lines : List Line) (a b : List ℕ) → HasStoppedRecord text plan lines a → HasStoppedRecord text plan lines b → a ≡ b
same_stopped_record text plan lines a b x y =
    x.told
    ∙ ap (λ (t : List ℕ). ended_lines (header_in text lines) ++ t)
    (same_stops (script_setting plan) x.stops.run y.stops.run x.stops.line y.stops.line x.stops.rest y.stops.rest (world_of plan) (reached_first plan x.stops.run x.stops.safely)
    x.stops.safely.may_run y.stops.safely.may_run (x.stops.is_run ∙ sym y.stops.is_run) x.stops.overflows y.stops.overflows)
    ∙ sym y.told

-- a text that is a script is one script
same_script : (text : List ℕ) (p q : WorldPlan) (ls ms : List Line) → IsScript text p ls → IsScript text q ms → (p ≡ q) × (ls ≡ ms)
same_script text p q ls ms x y = one_script text p q ls ms x y

-- the run of a script has one record
pub one_record : (text a b : List ℕ) → IsRecordOf text a → IsRecordOf text b → a ≡ b
one_record text a b x y =
    let same = same_script text x.plan y.plan x.lines y.lines (script_in text x.header x.plan x.lines x.script) (script_in text y.header y.plan y.lines y.script) in
    let other : HasRecord text x.plan y.lines b = subst (λ (p : WorldPlan). HasRecord text p y.lines b) (sym same.0) (has_record text b y) in
    same_record text x.plan x.lines a b (has_record text a x) (subst (λ (ls : List Line). HasRecord text x.plan ls b) (sym same.1) other)

-- so has one that sends too much
pub one_stopped_record : (text a b : List ℕ) → IsStoppedRecordOf text a → IsStoppedRecordOf text b → a ≡ b
one_stopped_record text a b x y =
    let same = same_script text x.plan y.plan x.lines y.lines (script_in text x.header x.plan x.lines x.script) (script_in text y.header y.plan y.lines y.script) in
    let other : HasStoppedRecord text x.plan y.lines b = subst (λ (p : WorldPlan). HasStoppedRecord text p y.lines b) (sym same.0) (has_stopped_record text b y) in
    same_stopped_record text x.plan x.lines a b (has_stopped_record text a x) (subst (λ (ls : List Line). HasStoppedRecord text x.plan ls b) (sym same.1) other)

-- a run that is cut off sends too much
pub records_too_much : (text written : List ℕ) → IsStoppedRecordOf text written → TextSendsTooMuch text
records_too_much text written x = record { plan = x.plan; lines = x.lines; script = script_in text x.header x.plan x.lines x.script; stops = x.stops }

-- a run that ends sends never too much
pub record_or_stop : (text written : List ℕ) → IsRecordOf text written → ¬ TextSendsTooMuch text
record_or_stop text written x y =
    let same = same_script text x.plan y.plan x.lines y.lines (script_in text x.header x.plan x.lines x.script) y.script in
    let other : SendsTooMuch x.plan y.lines = subst (λ (p : WorldPlan). SendsTooMuch p y.lines) (sym same.0) y.stops in
    let stops : SendsTooMuch x.plan x.lines = subst (λ (ls : List Line). SendsTooMuch x.plan ls) (sym same.1) other in
    all_or_stop (script_setting x.plan) stops.run x.run stops.line stops.rest (world_of x.plan) (reached_first x.plan x.run x.safely) stops.safely.may_run x.safely.may_run
    (stops.is_run ∙ sym x.is_run) stops.overflows
