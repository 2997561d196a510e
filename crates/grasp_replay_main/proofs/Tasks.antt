-- What the tasks make of one input, and of whole inputs.
use Rattle.std.proofs.Common.{◌≡◌, ◌<◌, ◌+◌, ℕ, List, [], ◌∷◌, ◌++◌, Option, None, Some, Result, Ok, Err, IfOk, length, map, refl, sym, ap, ◌∙◌, append-nil, length-append, arith, subst, ◌⊎◌, inl, inr}
use Rattle.std.specs.List.{All}
use Rattle.std.proofs.lemmas.List.Elements.{All-head, All-tail}
use Rattle.grasp_cbor.specs.Bytes.{AllBytes}
use Rattle.grasp_cbor.specs.Shortest.{shortest}
use Rattle.grasp_cbor.proofs.HeadBytes.{AllBytes-back}
use Rattle.grasp_script_draws.specs.Generator.{script_of}
use Rattle.grasp_types.specs.Message.{item_of}
use Rattle.grasp_types.specs.declared.message.Message.{Message}
use Rattle.grasp_text.specs.Line.{line_of, IsLineOf}
use Rattle.grasp_text.proofs.Lines.{line_one}
use Rattle.grasp_text.proofs.Places.{place_one}
use Rattle.grasp_model_network.specs.declared.plan.WorldPlan.{WorldPlan}
use Rattle.grasp_script.specs.declared.line.Line.{Line}
use Rattle.grasp_script.proofs.ScriptLaws.{one_script, no_bad_line}
use Rattle.grasp_model_script.specs.Laws.{TextsAgree, RunsOrStops}
use Rattle.grasp_model_script.specs.ScriptRuns.{Replays}
use Rattle.grasp_model_script.specs.Stops.{IsStoppedText, SendsTooMuch, TextSendsTooMuch}
use Rattle.grasp_model_script_doubts.specs.ScriptRuns.{DoubtsSendTooMuch, ResolvesTooMuch}
use Rattle.grasp_model_script_doubts.proofs.OneRun.{doubt_runs_or_stop, doubt_texts_agree}
use Rattle.grasp_model_script_kept.specs.ScriptRuns.{KeepsReporting, KeepsTooMuch, KeptSendsTooMuch, StopsKeeping}
use Rattle.grasp_model_script_kept.proofs.OneRun.{kept_runs_or_stop, kept_texts_agree}
use Rattle.grasp_laws_audit.specs.Laws.{AuditsAgree}
use Rattle.grasp_model_audit.specs.RecordRuns.{IsStoppedRecordOf}
use Rattle.grasp_script_doubts.specs.declared.line.DoubtLine.{DoubtLine}
use Rattle.grasp_script_doubts.proofs.ScriptLaws.{one_script as one_doubt_script}
use Rattle.grasp_script_kept.specs.declared.line.KeptLine.{KeptLine}
use Rattle.grasp_script_kept.proofs.ScriptLaws.{one_script as one_kept_script}
use Rattle.grasp_wire.specs.Laws.{encoded}
use Rattle.grasp_wire.specs.Reads.{named}
use Rattle.grasp_wire.specs.Stream.{Divides, waiting, IsRest}
use Rattle.grasp_wire.specs.Wire.{AreWireForms}
use Rattle.grasp_wire.proofs.Dividing.{one_division, one_kind}
use Rattle.grasp_wire.proofs.Joins.{divides_alone, divides_more}
use Rattle.grasp_wire.proofs.ReadingOn.{nothing_waits}
use Rattle.grasp_replay_main.specs.Laws.{AreLines, IsWholeInput, TasksAreFunctions, WholeInputsEndWell}
use Rattle.grasp_replay_main.specs.Pack.{CanPack, IsRefused, StopsAt, Packs}
use Rattle.grasp_replay_main.specs.Record.{Records}
use Rattle.grasp_replay_main.specs.Ending.{status_of}
use Rattle.grasp_replay_main.specs.Gen.{Summarizes, Overruns}
use Rattle.grasp_replay_main.specs.Replay.{Settles, Stops, StopsSettling, IsShortDoubtScript, IsShortKeptScript, IsShortScript}
use Rattle.grasp_replay_main.specs.Show.{Shows, shown, rest_finding}
use Rattle.grasp_replay_main.specs.Task.{ShowMakes, PackMakes, ReplayMakes, KeepMakes, ResolveMakes, RecordMakes, GenMakes, DrawMakes, Makes, RunsTooFar, IsBadScript}
use Rattle.grasp_replay_main.specs.Written.{Writes}
use Rattle.grasp_replay_main.specs.declared.exit.Finding.{Finding}
use Rattle.grasp_replay_main.specs.declared.exit.Finding.TheVariants.{Cut, Truncated, BadText, TooLong, BadRecord, NotSent, NotAgent, NotStep}
use Rattle.grasp_replay_main.specs.declared.exit.Status.{Status}
use Rattle.grasp_replay_main.specs.declared.exit.Status.TheVariants as status
use Rattle.grasp_replay_main.specs.declared.task.Task.{Task}
use Rattle.grasp_replay_main.specs.declared.task.Task.TheVariants.{Show, Pack, Replay, Keep, Resolve, Record, Audit, Gen, Draw}
use Rattle.grasp_replay_main.specs.declared.unfinished.Unfinished.{Unfinished}
use Rattle.grasp_replay_main.proofs.Audited.{audit_one, audit_well, never_too_much}
use Rattle.grasp_replay_main.proofs.OneRecord.{one_record, one_stopped_record, record_or_stop, records_too_much}

-- a stream divides in one way

same_length : (f g r s t : List ℕ) → t ≡ f ++ r → t ≡ g ++ s → r ≡ s → length f ≡ length g
same_length f g r s t a b e = omega (arith, ap length a, ap length b, length-append f r, length-append g s, ap length e)

shows_one : (limit : ℕ) (input a b : List ℕ) (f g : Option Finding) → AllBytes input → Shows limit input a f → Shows limit input b g → (a ≡ b) × (f ≡ g)
shows_one limit input a b f g bytes x y =
    let one = one_division input limit x.messages y.messages x.rest y.rest x.divides.splits y.divides.splits in
    let kind_y : IsRest x.rest limit y.kind = subst (λ (r : List ℕ). IsRest r limit y.kind) (sym one.1) y.divides.kind_is in
    let kinds = one_kind x.rest limit x.kind y.kind (AllBytes-back x.front x.rest (subst AllBytes x.parts bytes)) x.divides.kind_is kind_y in
    let before = same_length x.front y.front x.rest y.rest input x.parts y.parts one.1 in (
      x.output_is ∙ ap shown one.0 ∙ sym y.output_is,
      x.finding_is ∙ ap (λ n. rest_finding n x.rest x.kind) before ∙ ap (λ r. rest_finding (length y.front) r x.kind) one.1 ∙ ap (rest_finding (length y.front) y.rest) kinds ∙ sym y.finding_is,
    )

divides_whole : (limit : ℕ) (ms : List Message) (s : List ℕ) → 0 < limit → AreWireForms ms s limit → Divides s limit ms [] waiting
divides_whole limit [] s some forms = subst (λ (t : List ℕ). Divides t limit [] [] waiting) (sym forms) (divides_alone limit [] waiting tt (nothing_waits limit some))
divides_whole limit (m ∷ ms) s some forms =
    subst (λ (t : List ℕ). Divides t limit (m ∷ ms) [] waiting) (sym forms.4) (divides_more limit m forms.0 forms.1 ms [] waiting forms.2 (divides_whole limit ms forms.1 some forms.3))

shows_whole : (limit : ℕ) (ms : List Message) (input : List ℕ) → 0 < limit → AreWireForms ms input limit → Shows limit input (shown ms) None
shows_whole limit ms input some forms = record {
  messages = ms;
  front = input;
  rest = [];
  kind = waiting;
  parts = sym (append-nil input);
  divides = divides_whole limit ms input some forms;
  output_is = refl;
  finding_is = refl;
}

-- lines are packed in one way

refused_one : (limit : ℕ) (text : List ℕ) (n : ℕ) (f g : Finding) → IsRefused limit text n f → IsRefused limit text n g → f ≡ g
refused_one limit text n (BadText l a) (BadText m b) x y = ap (λ k. BadText k a) (x.0 ∙ sym y.0) ∙ ap (BadText m) (place_one text a b x.2 y.2)
refused_one limit text n (BadText l a) (TooLong m) x y = absurd (x.1 y.1.message y.1.is_line)
refused_one limit text n (TooLong l) (BadText m b) x y = absurd (y.1 x.1.message x.1.is_line)
refused_one limit text n (TooLong l) (TooLong m) x y = ap TooLong (x.0 ∙ sym y.0)
refused_one limit text n (Cut fault) g x y = absurd x
refused_one limit text n (Truncated at) g x y = absurd x
refused_one limit text n (BadRecord l) g x y = absurd x
refused_one limit text n (NotSent l) g x y = absurd x
refused_one limit text n (NotAgent l) g x y = absurd x
refused_one limit text n (NotStep l) g x y = absurd x
refused_one limit text n _ _ x y = absurd y

first_one : (a b : List ℕ) (x y z : List (List ℕ)) → z ≡ a ∷ x → z ≡ b ∷ y → a ≡ b
first_one a b x y z e f = cc (e, f)

stops_one : (limit k : ℕ) (lines : List (List ℕ)) (f g : Option Finding) → StopsAt limit k lines f → StopsAt limit k lines g → f ≡ g
stops_one limit k lines None None x y = refl
stops_one limit k lines None (Some g) x y = absurd (cc (x, y.first))
stops_one limit k lines (Some f) None x y = absurd (cc (x.first, y))
stops_one limit k lines (Some f) (Some g) x y =
    ap Some (refused_one limit x.text (k + 1) f g x.refused (subst (λ (t : List ℕ). IsRefused limit t (k + 1) g) (first_one y.text x.text y.others x.others lines y.first x.first) y.refused))

no_refusal : (limit n : ℕ) (m : Message) (f : Finding) → CanPack limit m → IsRefused limit (line_of m) n f → ⊥
no_refusal limit n m (BadText l a) can x = x.1 m can.is_line
no_refusal limit n m (TooLong l) can x =
    let same : x.1.message ≡ m = line_one (line_of m) x.1.message m x.1.is_line can.is_line in
    omega (arith, x.1.long, can.sendable.1, ap (λ (y : Message). length (shortest (item_of y))) same)
no_refusal limit n m _ can x = x

no_stop : (limit k : ℕ) (m : Message) (lines others : List (List ℕ)) (f : Option Finding) → CanPack limit m → lines ≡ line_of m ∷ others → StopsAt limit k lines f → ⊥
no_stop limit k m lines others None can e x = cc (e, x)
no_stop limit k m lines others (Some f) can e x =
    no_refusal limit (k + 1) m f can (subst (λ (t : List ℕ). IsRefused limit t (k + 1) f) (first_one x.text (line_of m) x.others others lines x.first e) x.refused)

packs_same : (limit before k j : ℕ) (ms ns : List Message) (x y : List (List ℕ)) (f g : Option Finding) → All (CanPack limit) ms → All (CanPack limit) ns
    → map line_of ms ++ x ≡ map line_of ns ++ y → k ≡ before + length ms → j ≡ before + length ns → StopsAt limit k x f → StopsAt limit j y g → (ms ≡ ns) × (f ≡ g)
packs_same limit before k j [] [] x y f g all_m all_n e is_k is_j a b =
    (refl, stops_one limit k x f g a (subst (λ (n : ℕ). StopsAt limit n x g) (is_j ∙ sym is_k) (subst (λ (l : List (List ℕ)). StopsAt limit j l g) (sym e) b)))
packs_same limit before k j [] (n ∷ ns) x y f g all_m all_n e is_k is_j a b = absurd (no_stop limit k n x (map line_of ns ++ y) f (All-head (CanPack limit) n ns all_n) e a)
packs_same limit before k j (m ∷ ms) [] x y f g all_m all_n e is_k is_j a b = absurd (no_stop limit j m y (map line_of ms ++ x) g (All-head (CanPack limit) m ms all_m) (sym e) b)
packs_same limit before k j (m ∷ ms) (n ∷ ns) x y f g all_m all_n e is_k is_j a b =
    let can_m = All-head (CanPack limit) m ms all_m in
    let can_n = All-head (CanPack limit) n ns all_n in
    let line : line_of n ≡ line_of m = cc e in
    let same : m ≡ n = line_one (line_of m) m n can_m.is_line (subst (λ (t : List ℕ). IsLineOf t n) line can_n.is_line) in
    let others = packs_same limit (before + 1) k j ms ns x y f g (All-tail (CanPack limit) m ms all_m) (All-tail (CanPack limit) n ns all_n) (cc e) (omega (arith, is_k)) (omega (arith, is_j)) a b in
    (ap (λ z. z ∷ ms) same ∙ ap (λ z. n ∷ z) others.0, others.1)

packs_one : (limit : ℕ) (input a b : List ℕ) (f g : Option Finding) → Packs limit input a f → Packs limit input b g → (a ≡ b) × (f ≡ g)
packs_one limit input a b f g x y =
    let one = packs_same limit 0 (length x.messages) (length y.messages) x.messages y.messages x.others y.others f g x.can y.can (sym x.lines ∙ y.lines) (omega arith) (omega arith) x.stops y.stops in
    (x.output_is ∙ ap encoded one.0 ∙ sym y.output_is, one.1)

packs_whole : (limit : ℕ) (ms : List Message) (input : List ℕ) → AreLines limit input ms → Packs limit input (encoded ms) None
packs_whole limit ms input l = record { messages = ms; others = []; lines = l.lines ∙ sym (append-nil (map line_of ms)); can = l.can; output_is = refl; stops = refl }

-- the status is that of a finding, or of none, of which P holds
pub record HasFinding (P : Option Finding → Type 0) (s : Status) : Type 0 where
  pub finding : Option Finding
  pub is : s ≡ status_of finding
  pub holds : P finding

show_finding : (limit : ℕ) (input output : List ℕ) (s : Status) → ShowMakes limit input output s → HasFinding (Shows limit input output) s
show_finding limit input output status.Ok x = record { finding = None; is = refl; holds = x }
show_finding limit input output (status.Finding f) x = record { finding = Some f; is = refl; holds = x }
show_finding limit input output _ x = absurd x

pack_finding : (limit : ℕ) (input output : List ℕ) (s : Status) → PackMakes limit input output s → HasFinding (Packs limit input output) s
pack_finding limit input output status.Ok x = record { finding = None; is = refl; holds = x }
pack_finding limit input output (status.Finding f) x = record { finding = Some f; is = refl; holds = x }
pack_finding limit input output _ x = absurd x

-- a run ends well, with what P says, or it is cut off, as Q says
abbrev EndsOrStops : (P Q : List ℕ → Type 0) → List ℕ → Status → Type 0
EndsOrStops P Q output s = ((s ≡ status.Ok) × P output) ⊎ ((s ≡ status.TooLarge) × Q output)

replay_end : (input output : List ℕ) (s : Status) → ReplayMakes input output s → EndsOrStops (Replays input) (Stops input) output s
replay_end input output status.Ok x = inl (refl, x)
replay_end input output status.TooLarge x = inr (refl, x)
replay_end input output _ x = absurd x

keep_end : (input output : List ℕ) (s : Status) → KeepMakes input output s → EndsOrStops (KeepsReporting input) (StopsKeeping input) output s
keep_end input output status.Ok x = inl (refl, x)
keep_end input output status.TooLarge x = inr (refl, x)
keep_end input output _ x = absurd x

resolve_end : (input output : List ℕ) (s : Status) → ResolveMakes input output s → EndsOrStops (Settles input) (StopsSettling input) output s
resolve_end input output status.Ok x = inl (refl, x)
resolve_end input output status.TooLarge x = inr (refl, x)
resolve_end input output _ x = absurd x

record_end : (input output : List ℕ) (s : Status) → RecordMakes input output s → EndsOrStops (Records input) (IsStoppedRecordOf input) output s
record_end input output status.Ok x = inl (refl, x)
record_end input output status.TooLarge x = inr (refl, x)
record_end input output _ x = absurd x

-- what is written of a drawn script whose run is cut off: nothing
abbrev NothingOf : ℕ → List ℕ → Type 0
NothingOf number output = (output ≡ []) × Overruns number

gen_end : (number : ℕ) (output : List ℕ) (s : Status) → GenMakes number output s → EndsOrStops (Summarizes number) (NothingOf number) output s
gen_end number output status.Ok x = inl (refl, x)
gen_end number output status.TooLarge x = inr (refl, x)
gen_end number output _ x = absurd x

-- where each has one output, and none of both, there is one output with one status
ends_one : (P Q : List ℕ → Type 0) (a b : List ℕ) (s t : Status) → (P a → P b → a ≡ b) → (Q a → Q b → a ≡ b) → (P a → Q b → ⊥) → (P b → Q a → ⊥)
    → EndsOrStops P Q a s → EndsOrStops P Q b t → (a ≡ b) × (s ≡ t)
ends_one P Q a b s t ends stops not_both not_either (inl x) (inl y) = (ends x.1 y.1, x.0 ∙ sym y.0)
ends_one P Q a b s t ends stops not_both not_either (inr x) (inr y) = (stops x.1 y.1, x.0 ∙ sym y.0)
ends_one P Q a b s t ends stops not_both not_either (inl x) (inr y) = absurd (not_both x.1 y.1)
ends_one P Q a b s t ends stops not_both not_either (inr x) (inl y) = absurd (not_either y.1 x.1)

-- a run that is cut off sends too much
pub too_much : (input output : List ℕ) → Stops input output → TextSendsTooMuch input
too_much input output x = record { plan = x.plan; lines = x.lines; script = x.script; stops = x.stopped.stops }

pub keeps_too_much : (input output : List ℕ) → StopsKeeping input output → KeepsTooMuch input
keeps_too_much input output x = record { plan = x.plan; lines = x.lines; script = x.script; stops = x.stopped.stops }

pub resolves_too_much : (input output : List ℕ) → StopsSettling input output → ResolvesTooMuch input
resolves_too_much input output x =
    record { plan = x.stops.plan; lines = x.stops.lines; script = x.stops.script; stops = x.stops.stopped.stops }

stopped_one : TextsAgree → (input a b : List ℕ) → Stops input a → Stops input b → a ≡ b
stopped_one k input a b x y =
    let one = one_script input x.plan y.plan x.lines y.lines x.script y.script in
    let at_plan : IsStoppedText x.plan y.lines b = subst (λ (p : WorldPlan). IsStoppedText p y.lines b) (sym one.0) y.stopped in
    k.stopped x.plan x.lines a b x.stopped (subst (λ (ls : List Line). IsStoppedText x.plan ls b) (sym one.1) at_plan)

same_status : (s t : Status) (f g : Option Finding) → s ≡ status_of f → t ≡ status_of g → f ≡ g → s ≡ t
same_status s t f g is_s is_t e = is_s ∙ ap status_of e ∙ sym is_t

show_one : (limit : ℕ) (input a b : List ℕ) (s t : Status) → AllBytes input → ShowMakes limit input a s → ShowMakes limit input b t → (a ≡ b) × (s ≡ t)
show_one limit input a b s t bytes x y =
    let p = show_finding limit input a s x in
    let q = show_finding limit input b t y in
    let one = shows_one limit input a b p.finding q.finding bytes p.holds q.holds in
    (one.0, same_status s t p.finding q.finding p.is q.is one.1)

pack_one : (limit : ℕ) (input a b : List ℕ) (s t : Status) → PackMakes limit input a s → PackMakes limit input b t → (a ≡ b) × (s ≡ t)
pack_one limit input a b s t x y =
    let p = pack_finding limit input a s x in
    let q = pack_finding limit input b t y in
    let one = packs_one limit input a b p.finding q.finding p.holds q.holds in
    (one.0, same_status s t p.finding q.finding p.is q.is one.1)

replay_one : TextsAgree → RunsOrStops → (input a b : List ℕ) (s t : Status) → ReplayMakes input a s → ReplayMakes input b t → (a ≡ b) × (s ≡ t)
replay_one k j input a b s t x y =
    ends_one (Replays input) (Stops input) a b s t (k.replays input a b) (stopped_one k input a b) (λ ends stops. j.replays input a ends (too_much input b stops))
    (λ ends stops. j.replays input b ends (too_much input a stops)) (replay_end input a s x) (replay_end input b t y)

keep_one : (input a b : List ℕ) (s t : Status) → KeepMakes input a s → KeepMakes input b t → (a ≡ b) × (s ≡ t)
keep_one input a b s t x y =
    ends_one (KeepsReporting input) (StopsKeeping input) a b s t (kept_texts_agree.texts input a b) (kept_texts_agree.stopped input a b)
    (λ ends stops. kept_runs_or_stop.texts input a ends (keeps_too_much input b stops)) (λ ends stops. kept_runs_or_stop.texts input b ends (keeps_too_much input a stops)) (keep_end input a s x) (keep_end input b t y)

resolve_one : (input a b : List ℕ) (s t : Status) → ResolveMakes input a s → ResolveMakes input b t → (a ≡ b) × (s ≡ t)
resolve_one input a b s t x y =
    ends_one (Settles input) (StopsSettling input) a b s t (λ p q. doubt_texts_agree.texts input a b p.resolves q.resolves)
    (λ p q. doubt_texts_agree.stopped input a b p.stops q.stops)
    (λ ends stops. doubt_runs_or_stop.texts input a ends.resolves (resolves_too_much input b stops))
    (λ ends stops. doubt_runs_or_stop.texts input b ends.resolves (resolves_too_much input a stops))
    (resolve_end input a s x) (resolve_end input b t y)

record_one : (input a b : List ℕ) (s t : Status) → RecordMakes input a s → RecordMakes input b t → (a ≡ b) × (s ≡ t)
record_one input a b s t x y =
    ends_one (Records input) (IsStoppedRecordOf input) a b s t (λ p q. one_record input a b p.recorded q.recorded) (one_stopped_record input a b)
    (λ ends stops. record_or_stop input a ends.recorded (records_too_much input b stops))
    (λ ends stops. record_or_stop input b ends.recorded (records_too_much input a stops))
    (record_end input a s x) (record_end input b t y)

gen_one : TextsAgree → RunsOrStops → (number : ℕ) (a b : List ℕ) (s t : Status) → GenMakes number a s → GenMakes number b t → (a ≡ b) × (s ≡ t)
gen_one k j number a b s t x y =
    ends_one (Summarizes number) (NothingOf number) a b s t (k.summaries (script_of number) number a b) (λ p q. p.0 ∙ sym q.0) (λ ends stops. j.summaries (script_of number) number a ends stops.1)
    (λ ends stops. j.summaries (script_of number) number b ends stops.1) (gen_end number a s x) (gen_end number b t y)

draw_one : (number : ℕ) (a b : List ℕ) (s t : Status) → DrawMakes number a s → DrawMakes number b t → (a ≡ b) × (s ≡ t)
draw_one number a b status.Ok status.Ok x y = (x ∙ sym y, refl)
draw_one number a b status.Ok _ x y = absurd y
draw_one number a b _ t x y = absurd x

pub tasks_are_functions : TextsAgree → RunsOrStops → AuditsAgree → TasksAreFunctions
tasks_are_functions k j agree Show limit input a b s t some bytes x y = show_one limit input a b s t bytes x y
tasks_are_functions k j agree Pack limit input a b s t some bytes x y = pack_one limit input a b s t x y
tasks_are_functions k j agree Replay limit input a b s t some bytes x y = replay_one k j input a b s t x y
tasks_are_functions k j agree Keep limit input a b s t some bytes x y = keep_one input a b s t x y
tasks_are_functions k j agree Resolve limit input a b s t some bytes x y = resolve_one input a b s t x y
tasks_are_functions k j agree Record limit input a b s t some bytes x y = record_one input a b s t x y
tasks_are_functions k j agree Audit limit input a b s t some bytes x y = audit_one agree input a b s t x y
tasks_are_functions k j agree (Gen number) limit input a b s t some bytes x y = gen_one k j number a b s t x y
tasks_are_functions k j agree (Draw number) limit input a b s t some bytes x y = draw_one number a b s t x y

-- the run of a short script doesn't send too much
short_runs : (input : List ℕ) (plan : WorldPlan) (lines : List Line) → IsShortScript input plan lines → ¬ TextSendsTooMuch input
short_runs input plan lines short x =
    let one = one_script input x.plan plan x.lines lines x.script short.script in
    let at_plan : SendsTooMuch plan x.lines = subst (λ (p : WorldPlan). SendsTooMuch p x.lines) one.0 x.stops in
    short.fits (subst (λ (ls : List Line). SendsTooMuch plan ls) one.1 at_plan)

short_keeps : (input : List ℕ) (plan : WorldPlan) (lines : List KeptLine) → IsShortKeptScript input plan lines → ¬ KeepsTooMuch input
short_keeps input plan lines short x =
    let one = one_kept_script input x.plan plan x.lines lines x.script short.script in
    let at_plan : KeptSendsTooMuch plan x.lines = subst (λ (p : WorldPlan). KeptSendsTooMuch p x.lines) one.0 x.stops in
    short.fits (subst (λ (ls : List KeptLine). KeptSendsTooMuch plan ls) one.1 at_plan)

short_resolves : (input : List ℕ) (plan : WorldPlan) (lines : List DoubtLine) → IsShortDoubtScript input plan lines → ¬ ResolvesTooMuch input
short_resolves input plan lines short x =
    let one = one_doubt_script input x.plan plan x.lines lines x.script short.script in
    let at_plan : DoubtsSendTooMuch plan x.lines = subst (λ (p : WorldPlan). DoubtsSendTooMuch p x.lines) one.0 x.stops in
    short.fits (subst (λ (ls : List DoubtLine). DoubtsSendTooMuch plan ls) one.1 at_plan)

pub whole_runs : AuditsAgree → (task : Task) (limit : ℕ) (input : List ℕ) → RunsTooFar task input → ¬ IsWholeInput task limit input
whole_runs agree Show limit input far whole = far
whole_runs agree Pack limit input far whole = far
whole_runs agree Replay limit input far whole = short_runs input whole.0 whole.1 whole.2 far
whole_runs agree Keep limit input far whole = short_keeps input whole.0 whole.1 whole.2 far
whole_runs agree Resolve limit input far whole = short_resolves input whole.0 whole.1 whole.2 far
whole_runs agree Record limit input far whole = short_runs input whole.0 whole.1 whole.2 far
whole_runs agree Audit limit input far whole = never_too_much agree input whole far
whole_runs agree (Gen number) limit input far whole = whole far
whole_runs agree (Draw number) limit input far whole = far

-- what is made with this status stops no whole run
pub stops_too_far : (task : Task) (limit : ℕ) (input output : List ℕ) → Makes task limit input output status.TooLarge → RunsTooFar task input
stops_too_far Show limit input output x = absurd x
stops_too_far Pack limit input output x = absurd x
stops_too_far Replay limit input output x = too_much input output x
stops_too_far Keep limit input output x = keeps_too_much input output x
stops_too_far Resolve limit input output x = resolves_too_much input output x
stops_too_far Record limit input output x = records_too_much input output x
stops_too_far Audit limit input output x = x.1
stops_too_far (Gen number) limit input output x = x.1
stops_too_far (Draw number) limit input output x = x

well_unless : (P Q : List ℕ → Type 0) (output : List ℕ) (s : Status) → EndsOrStops P Q output s → ¬ Q output → s ≡ status.Ok
well_unless P Q output s (inl x) not = x.0
well_unless P Q output s (inr x) not = absurd (not x.1)

draw_ends : (number : ℕ) (output : List ℕ) (s : Status) → DrawMakes number output s → s ≡ status.Ok
draw_ends number output status.Ok x = refl
draw_ends number output _ x = absurd x

pub whole_inputs_end_well : AuditsAgree → WholeInputsEndWell
whole_inputs_end_well agree Show limit input output ended some bytes whole x =
    (show_one limit input output (shown whole.0) ended status.Ok bytes x (shows_whole limit whole.0 input some whole.1)).1
whole_inputs_end_well agree Pack limit input output ended some bytes whole x =
    (pack_one limit input output (encoded whole.0) ended status.Ok x (packs_whole limit whole.0 input whole.1)).1
whole_inputs_end_well agree Replay limit input output ended some bytes whole x =
    well_unless (Replays input) (Stops input) output ended (replay_end input output ended x) (λ stops. whole_runs agree Replay limit input (too_much input output stops) whole)
whole_inputs_end_well agree Keep limit input output ended some bytes whole x =
    well_unless (KeepsReporting input) (StopsKeeping input) output ended (keep_end input output ended x) (λ stops. whole_runs agree Keep limit input (keeps_too_much input output stops) whole)
whole_inputs_end_well agree Resolve limit input output ended some bytes whole x =
    well_unless (Settles input) (StopsSettling input) output ended (resolve_end input output ended x)
    (λ stops. whole_runs agree Resolve limit input (resolves_too_much input output stops) whole)
whole_inputs_end_well agree Record limit input output ended some bytes whole x =
    well_unless (Records input) (IsStoppedRecordOf input) output ended (record_end input output ended x)
    (λ stops. whole_runs agree Record limit input (records_too_much input output stops) whole)
whole_inputs_end_well agree Audit limit input output ended some bytes whole x = audit_well agree input output ended whole x
whole_inputs_end_well agree (Gen number) limit input output ended some bytes whole x =
    well_unless (Summarizes number) (NothingOf number) output ended (gen_end number output ended x) (λ stops. whole stops.1)
whole_inputs_end_well agree (Draw number) limit input output ended some bytes whole x = draw_ends number output ended x

-- no finding of a task is want of memory

-- the status of what `show` found
pub show_made : (limit : ℕ) (input output : List ℕ) (f : Option Finding) (s : Status) → s ≡ status_of f → Shows limit input output f → ShowMakes limit input output s
show_made limit input output None s is x = rw is x
show_made limit input output (Some f) s is x = rw is x

-- the status of what `pack` found
pub pack_made : (limit : ℕ) (input output : List ℕ) (f : Option Finding) → Packs limit input output f → PackMakes limit input output (status_of f)
pack_made limit input output None x = x
pack_made limit input output (Some f) x = x

-- what is made of a whole input ends well

pub made_whole : AuditsAgree → (task named : Task) (limit : ℕ) (input output : List ℕ) (s : Status) → 0 < limit → AllBytes input → task ≡ named → Makes named limit input output s
    → IsWholeInput task limit input → s ≡ status.Ok
made_whole agree task named limit input output s some bytes is makes whole = whole_inputs_end_well agree named limit input output s some bytes (subst (λ (t : Task). IsWholeInput t limit input) is whole) makes

-- what is made of a whole input ends well, where all of it was written
pub written_whole : AuditsAgree → (P : List ℕ → Status → Type 0) (task named : Task) (limit : ℕ) (input : List ℕ) (before after : Option (List ℕ)) (r : Result Status Unfinished) → 0 < limit → AllBytes input
    → task ≡ named → ((output : List ℕ) (s : Status) → P output s → Makes named limit input output s) → IfOk r (λ s. Writes P before after s)
    → IfOk r (λ s. IsWholeInput task limit input → s ≡ status.Ok)
written_whole agree P task named limit input before after (Ok s) some bytes is makes w = made_whole agree task named limit input w.output s some bytes is (makes w.output s w.makes)
written_whole agree P task named limit input before after (Err e) some bytes is makes w = tt

-- no line of a whole input is bad
pub no_bad_input : (task : Task) (limit : ℕ) (input : List ℕ) (line : ℕ) → IsBadScript task input line → ¬ IsWholeInput task limit input
no_bad_input Replay limit input line bad whole = no_bad_line input whole.0 whole.1 line whole.2.script bad.0
no_bad_input Keep limit input line bad whole = bad.1 whole.0 whole.1 whole.2.script
no_bad_input Resolve limit input line bad whole = bad.1 whole.0 whole.1 whole.2.script
no_bad_input Record limit input line bad whole = no_bad_line input whole.0 whole.1 line whole.2.script bad.0
no_bad_input _ limit input line bad whole = bad
