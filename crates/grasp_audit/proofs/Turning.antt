-- The clock before a line, and the event behind it.
use Rattle.std.proofs.Common.{◌≡◌, ◌↔◌, refl, sym, ap, ◌∙◌, subst, arith, tests, ℕ, ◌≤◌, ◌<◌, Bool, true, false, nat_lt, if◌then◌else◌, List, [], ◌∷◌, length, Option, Some, Result, Ok, Err, IfOk}
use Rattle.std.specs.Prelude.{IsTrue}
use Rattle.grasp_cbor.specs.declared.memory.OutOfMemory.{OutOfMemory}
use Rattle.grasp_core.specs.Stands.{NodeStands}
use Rattle.grasp_core.specs.declared.node_core.NodeCore.{NodeCore}
use Rattle.grasp_laws_network.proofs.Going.{not_too_much}
use Rattle.grasp_model_audit.specs.Lines.{answered_words, gave_words}
use Rattle.grasp_model_audit.specs.Naming.{clock_before, reading_of}
use Rattle.grasp_model_network.specs.EventSteps.{after_clock, clock_seat}
use Rattle.grasp_model_network.specs.Events.{IsFit, Overflows, after_by, after_event}
use Rattle.grasp_model_network.specs.Plans.{IsNode}
use Rattle.grasp_model_network.specs.Reports.{report_of}
use Rattle.grasp_model_network.specs.Runs.{Happening, IsReached, IsRun, world_after}
use Rattle.grasp_model_network.specs.Sending.{stepped}
use Rattle.grasp_model_network.specs.Setting.{Setting}
use Rattle.grasp_model_network.specs.Visits.{Choice, visit_seat}
use Rattle.grasp_model_network.specs.World.{Seat, WorldState, is_too_much, most_bytes, present_life, seat_at}
use Rattle.grasp_model_network.specs.declared.event.Event.{Event}
use Rattle.grasp_model_network.specs.declared.event.Event.TheVariants as event
use Rattle.grasp_model_network.specs.declared.report.Report.{Report}
use Rattle.grasp_model_network.specs.declared.report.Report.TheVariants as report
use Rattle.grasp_model_network.specs.declared.report.WorldStop.{WorldStop}
use Rattle.grasp_model_network.specs.declared.report.WorldStop.TheVariants as stop
use Rattle.grasp_model_node.specs.Node.{NodeState}
use Rattle.grasp_record.specs.Answers.{drained_words, told_words}
use Rattle.grasp_record.specs.declared.line.RecordLine.{RecordLine}
use Rattle.grasp_script.specs.Reports.{report_words}
use Rattle.grasp_simulator.specs.Contract.{Answers, Halted, Reported, going}
use Rattle.grasp_simulator.specs.Lending.{LendsOutputs, StandsFor}
use Rattle.grasp_simulator.specs.WorldStands.{LendsCore, WorldStands}
use Rattle.grasp_simulator.specs.WorldSteps.{IsAsked, Stepped}
use Rattle.grasp_simulator.specs.declared.world.World.{World}
use Rattle.grasp_types.specs.declared.traffic.Input.TheVariants as input
use Rattle.grasp_types.specs.declared.traffic.Output.{Output}
use Rattle.grasp_audit.specs.LineFaults.{stopped_by, told_of}
use Rattle.grasp_audit.specs.Lines.{AnswersEvent, ClockTurned, TurnsClock}
use Rattle.grasp_audit.specs.Standing.{HasLine, MayAnswer}
use Rattle.grasp_audit.specs.Told.{IsNoDrain, IsWritten}
use Rattle.grasp_audit.specs.declared.fault.LineFault.{LineFault as Fault}
use Rattle.grasp_audit.proofs.Seats.{IsThere, line_ranges, line_there, node_there, own_reading}

-- an event that came out so
abbrev pub came : Event → Choice → Happening
came e c = record { event = e; choice = c }

-- what the code answers to an event, in a network for which it goes on
comes_to : (old new : World) (e : Event) (result : Result Report WorldStop) (s : Setting) (w : WorldState) → Stepped old new e result → StandsFor old s w → IsFit s w e → Answers (WorldStands new) s (going w) e result
comes_to old new e result s w steps stands fit = steps (record { setting = s; standing = going w }) (record { stands = stands; fit = fit })

-- ---- the clock

is_less : (a b : ℕ) → a < b → nat_lt a b ≡ true
is_less a b e = grind (arith, tests)

not_less : (a b : ℕ) → b ≤ a → nat_lt a b ≡ false
not_less a b e = grind (arith, tests)

abbrev clock_of : RecordLine → Event
clock_of x = event.Clock x.node x.now

clock_is : (w : WorldState) (x : RecordLine) (own : ℕ) (b : Bool) → reading_of w x.node ≡ own → nat_lt own x.now ≡ b → (if b then clock_of x ∷ [] else []) ≡ clock_before w x
clock_is w x own b reads test = (λ i. if (sym test i) then clock_of x ∷ [] else []) ∙ (λ i. if nat_lt (sym reads i) x.now then clock_of x ∷ [] else [])

pub clock_asked : (code : World) (x : RecordLine) → HasLine code x → IsAsked code (event.Clock x.node x.now)
clock_asked code x h = record { network = record { setting = h.setting; standing = going h.network }; meets = record { stands = h.stands; fit = h.ranges.node } }

-- it sends nothing
clock_bytes : (s : Setting) (w : WorldState) (node millis : ℕ) (seat : Seat) (c : Choice) → seat_at w (present_life w node) ≡ Some seat → (after_event s w (event.Clock node millis) c).byte_count ≡ w.byte_count
unfolding after_event after_clock stepped
clock_bytes s w node millis seat c here = ap (λ (o : Option Seat). (after_by s w (event.Clock node millis) c (clock_seat (present_life w node) millis o)).byte_count) here

clock_fits : (s : Setting) (w : WorldState) (node millis : ℕ) (seat : Seat) → IsReached s w → seat_at w (present_life w node) ≡ Some seat → Overflows s w (event.Clock node millis) → ⊥
clock_fits s w node millis seat r here over =
    let same : is_too_much (after_event s w (event.Clock node millis) over.choice) ≡ is_too_much w = ap (nat_lt most_bytes) (clock_bytes s w node millis seat over.choice here) in
    absurd (let z : true ≡ false = sym over.too_much ∙ same ∙ not_too_much s w r in cc)

module _ (old : World) (x : RecordLine) (line : HasLine old x) (own : ℕ) (core : NodeCore) (lends : LendsCore old x.node core) (reads : (n : NodeState) → NodeStands core n → own ≡ n.reading) where
  reading_here : (s : Setting) (w : WorldState) → StandsFor old s w → reading_of w x.node ≡ own
  reading_here s w stands = own_reading old s w x.node own core stands (line_ranges old x s w line stands).node lends reads

  -- it shows a later reading
  pub turns_so : (new : World) (told : Report) (r : Result (Unit {0}) Fault) → r ≡ Ok tt → own < x.now → Stepped old new (event.Clock x.node x.now) (Ok told) → TurnsClock old new x r
  unfolding IsRun world_after
  turns_so new told r is less steps = λ s w stands.
      let d : Reported (WorldStands new) s w (clock_of x) told = comes_to old new (clock_of x) (Ok told) s w steps stands (line_ranges old x s w line stands).node in
      subst (λ (v : Result (Unit {0}) Fault). ClockTurned new s w x v) (sym is) (record { clock = came (clock_of x) d.choice ∷ []; is_clock = clock_is w x own true (reading_here s w stands) (is_less own x.now less); run = (d.occurs, tt); stands = d.stands })

  -- it can't for want of memory
  turned_by : (new : World) (why : WorldStop) (s : Setting) (w : WorldState) → StandsFor old s w → Halted (WorldStands new) s w (clock_of x) why → ClockTurned new s w x (Err (stopped_by why))
  turned_by new stop.TooMuch s w stands d = absurd (clock_fits s w x.node x.now (line_there old x s w line stands).seat stands.stands.goes.reached (line_there old x s w line stands).here d.may_stop)
  turned_by new stop.OutOfMemory s w stands d = tt

  pub turns_not : (new : World) (why : WorldStop) (failed : Fault) → Stepped old new (event.Clock x.node x.now) (Err why) → failed ≡ stopped_by why → TurnsClock old new x (Err failed)
  turns_not new why failed steps is = λ s w stands.
      subst (λ (f : Fault). ClockTurned new s w x (Err f)) (sym is)
      (turned_by new why s w stands (comes_to old new (clock_of x) (Err why) s w steps stands (line_ranges old x s w line stands).node))

  -- it needn't
  pub turns_nothing : x.now ≤ own → TurnsClock old old x (Ok tt)
  unfolding IsRun world_after
  turns_nothing most = λ s w stands. record { clock = []; is_clock = clock_is w x own false (reading_here s w stands) (not_less own x.now most); run = tt; stands = stands }

-- ---- the event

pub event_asked : (code : World) (e : Event) → MayAnswer code e → IsAsked code e
event_asked code e h = record { network = record { setting = h.setting; standing = going h.network }; meets = record { stands = h.stands; fit = h.fit } }

-- but for a drain it is answered as it is reported
answered_plain : (s : Setting) (w : WorldState) (e : Event) (c : Choice) → IsNoDrain e → answered_words s w e c ≡ report_words (report_of s w e c)
answered_plain s w (event.Drain node max) c other = absurd other
answered_plain s w _ c other = refl

module _ (old new : World) (text : List ℕ) (x : RecordLine) (written : IsWritten text x) where
  -- the words are, or aren't, what the line says
  abbrev Tells : List (List ℕ) → Result Bool OutOfMemory → Type 0
  Tells words r = IfOk r (λ is_so. (y : RecordLine) → IsWritten text y → IsTrue is_so ↔ (words ≡ told_words y.answer))

  drain_gave : (s : Setting) (w : WorldState) (node max : ℕ) (outputs : List Output) (c : Choice) → StandsFor old s w → IsNode (length s.members) node → LendsOutputs old node max outputs
      → answered_words s w (event.Drain node max) c ≡ drained_words outputs
  drain_gave s w node max outputs c stands n lends =
      let there : IsThere w node = node_there old s w node stands n in
      ap (λ (o : Option Seat). gave_words max (visit_seat (present_life w node) (input.Drain max) o)) there.here
      ∙ ap drained_words (sym (lends s w there.seat (record { stands = stands; here = there.here })))

  pub drain_answers : (node max : ℕ) (outputs : List Output) (r : Result Bool OutOfMemory) (told : Result Bool Fault) → Stepped old new (event.Drain node max) (Ok (report.Sent (length outputs)))
      → LendsOutputs old node max outputs → Tells (drained_words outputs) r → told ≡ told_of r → AnswersEvent old new x (event.Drain node max) told
  drain_answers node max outputs (Err e) told steps lends tells is = subst (λ (t : Result Bool Fault). AnswersEvent old new x (event.Drain node max) t) (sym is) (λ s w stands fit. tt)
  drain_answers node max outputs (Ok is_so) told steps lends tells is = subst (λ (t : Result Bool Fault). AnswersEvent old new x (event.Drain node max) t) (sym is) (λ s w stands fit.
      let d : Reported (WorldStands new) s w (event.Drain node max) (report.Sent (length outputs)) = comes_to old new (event.Drain node max) (Ok (report.Sent (length outputs))) s w steps stands fit in
      record {
        choice = d.choice;
        occurs = d.occurs;
        stands = d.stands;
        same = subst (λ (ws : List (List ℕ)). IsTrue is_so ↔ (ws ≡ told_words x.answer)) (sym (drain_gave s w node max outputs d.choice stands fit lends)) (tells x written);
      })

  pub step_answers : (e : Event) (told : Report) (r : Result Bool OutOfMemory) (answered : Result Bool Fault) → IsNoDrain e → Stepped old new e (Ok told) → Tells (report_words told) r → answered ≡ told_of r
      → AnswersEvent old new x e answered
  step_answers e told (Err f) answered other steps tells is = subst (λ (t : Result Bool Fault). AnswersEvent old new x e t) (sym is) (λ s w stands fit. tt)
  step_answers e told (Ok is_so) answered other steps tells is = subst (λ (t : Result Bool Fault). AnswersEvent old new x e t) (sym is) (λ s w stands fit.
      let d : Reported (WorldStands new) s w e told = comes_to old new e (Ok told) s w steps stands fit in
      record {
        choice = d.choice;
        occurs = d.occurs;
        stands = d.stands;
        same = subst (λ (ws : List (List ℕ)). IsTrue is_so ↔ (ws ≡ told_words x.answer)) (ap report_words d.report_is ∙ sym (answered_plain s w e d.choice other)) (tells x written);
      })

  -- it stops the network
  pub stop_answers : (e : Event) (why : WorldStop) (failed : Fault) → Stepped old new e (Err why) → failed ≡ stopped_by why → AnswersEvent old new x e (Err failed)
  stop_answers e stop.TooMuch failed steps is = subst (λ (f : Fault). AnswersEvent old new x e (Err f)) (sym is) (λ s w stands fit. (comes_to old new e (Err stop.TooMuch) s w steps stands fit).may_stop)
  stop_answers e stop.OutOfMemory failed steps is = subst (λ (f : Fault). AnswersEvent old new x e (Err f)) (sym is) (λ s w stands fit. tt)
