-- The record line of a clock, and of a drain.
use Rattle.std.proofs.Common.{◌≡◌, refl, sym, ap, ◌∙◌, subst, inl, ℕ, ◌-◌, ◌++◌, List, [], ◌∷◌, IfOk, length, map, drop, take, slice_get, slice_set, Option, Some, Result, Ok, Err, true, false}
use Rattle.grasp_cbor.specs.declared.memory.OutOfMemory.{OutOfMemory}
use Rattle.grasp_laws_network.proofs.Agreeing.{drain_step}
use Rattle.grasp_laws_network.proofs.LivesKept.{lives_are_kept}
use Rattle.grasp_laws_network.specs.Lives.{LivesStand}
use Rattle.grasp_model_node.specs.Begin.{begin}
use Rattle.grasp_model_node.specs.Draining as core
use Rattle.grasp_model_node.specs.Node.{NodeState}
use Rattle.grasp_model_node.specs.Queue.{Queued, output_of}
use Rattle.grasp_model_node.specs.Streams.{closing_numbers}
use Rattle.grasp_types.specs.declared.reply.Reply.TheVariants as reply
use Rattle.grasp_types.specs.declared.traffic.Input.TheVariants as input
use Rattle.grasp_types.specs.declared.traffic.Output.{Output}
use Rattle.grasp_types.specs.declared.traffic.Output.TheVariants.{Close}
use Rattle.grasp_model_network.specs.EventSteps.{clock_seat}
use Rattle.grasp_model_network.specs.Events.{Occurs, after_event, visit_of}
use Rattle.grasp_model_network.specs.Plans.{IsNode}
use Rattle.grasp_model_network.specs.Reports.{report_by, report_of}
use Rattle.grasp_model_network.specs.Sending.{event_drain}
use Rattle.grasp_model_network.specs.Setting.{Setting}
use Rattle.grasp_model_network.specs.Visits.{Choice, Visit, VisitStep, visit_seat}
use Rattle.grasp_model_network.specs.World.{Seat, WorldState, member_of, present_life}
use Rattle.grasp_model_network.specs.declared.event.Event.{Event}
use Rattle.grasp_model_network.specs.declared.event.Event.TheVariants as event
use Rattle.grasp_model_network.specs.declared.report.Report.{Report}
use Rattle.grasp_model_network.specs.declared.report.Report.TheVariants as report
use Rattle.grasp_model_network.specs.declared.report.WorldStop.{WorldStop}
use Rattle.grasp_record.specs.Records.{record_line}
use Rattle.grasp_record.specs.declared.line.RecordInput.TheVariants as took
use Rattle.grasp_record.specs.declared.line.RecordLine.{RecordLine}
use Rattle.grasp_model_audit.specs.Naming.{reading_of}
use Rattle.grasp_model_audit.specs.Recording.{answer_by, ended_lines, event_lines, lines_by, step_lines}
use Rattle.grasp_simulator.specs.Contract.{Reported}
use Rattle.grasp_simulator.specs.Lending.{LendsOutputs}
use Rattle.grasp_simulator.specs.WorldStands.{WorldStands}
use Rattle.grasp_simulator.specs.WorldSteps.{IsAsked, Stepped}
use Rattle.grasp_simulator.specs.declared.world.World.{World}
use Rattle.grasp_runner.proofs.Placing.{IsThere, node_there}
use Rattle.grasp_runner.specs.Lines.{network_at}
use Rattle.grasp_recorder.specs.Taking.{CanRecordEvent, EventRecorded, HasReading, IsReading, MeetsEvent, RecordsEvent, TellsStep, drained_line, told_of}
use Rattle.grasp_recorder.specs.declared.recorder.Recorder.{Recorder}
use Rattle.grasp_recorder.proofs.Known.{has_reading, known_clock, known_still, told_reading}
use Rattle.grasp_recorder.proofs.Readings.{clock_reads, readings_stay, visit_step}

-- ---- a drain of nothing

take_none : {A : Type 0} (xs : List A) → take 0 xs ≡ []
take_none [] = refl
take_none (x ∷ xs) = refl

closes_queue : (n : NodeState) (queue : List Queued) → n.queue ≡ queue → core.closes_behind n 0 (drop 0 queue) ≡ []
closes_queue n [] is = ap (λ (q : List Queued). take (0 - length q) (closing_numbers n.streams)) is ∙ take_none (closing_numbers n.streams)
closes_queue n (q ∷ qs) is = refl

closes_none : (n : NodeState) → core.closes n 0 ≡ []
closes_none n = closes_queue n n.queue refl

-- it gives nothing
gives_none : (n : NodeState) → core.drained n 0 ≡ []
gives_none n = (λ i. map output_of (take_none n.queue i) ++ map Close (closes_none n i))

-- ---- the line

-- the node of the event is there, as it stands
node_here : (code : World) (s : Setting) (w : WorldState) (node : ℕ) → WorldStands code (network_at s w) → IsNode (length s.members) node → IsThere w node
node_here code s w node stands n = node_there code s w node stands n

line_is : (s : Setting) (w : WorldState) (e : Event) (c : Choice) (v : Visit) → visit_of s w e ≡ Some v → event_lines s w e c ≡ lines_by s w e c (Some v)
unfolding event_lines
line_is s w e c v is = ap (λ (o : Option Visit). lines_by s w e c o) is

reports : (s : Setting) (w : WorldState) (e : Event) (c : Choice) (v : Visit) → visit_of s w e ≡ Some v → report_of s w e c ≡ report_by w e c (Some v)
unfolding report_of
reports s w e c v is = ap (λ (o : Option Visit). report_by w e c o) is

told_line : (written : List ℕ) (ls : List RecordLine) (line : RecordLine) → written ≡ ended_lines (record_line line ∷ []) → ls ≡ line ∷ [] → written ≡ ended_lines (map record_line ls)
told_line written ls line is same = is ∙ sym (ap (λ (xs : List RecordLine). ended_lines (map record_line xs)) same)

-- ---- a clock

module _ (s : Setting) (w : WorldState) (node millis : ℕ) (there : IsThere w node) where
  abbrev clocking : Visit
  clocking = record { node = present_life w node; seat = there.seat; now = millis; input = input.Drain 0 }

  clock_visits : visit_of s w (event.Clock node millis) ≡ Some clocking
  clock_visits = ap (λ (o : Option Seat). clock_seat (present_life w node) millis o) there.here

  clock_shows : (c : Choice) (now : ℕ) → report.Reading now ≡ report_of s w (event.Clock node millis) c → now ≡ c.after.reading
  clock_shows c now is = same_reading (is ∙ reports s w (event.Clock node millis) c clocking clock_visits) where
    same_reading : report.Reading now ≡ report.Reading c.after.reading → now ≡ c.after.reading
    same_reading e = cc

  clock_line : (stand : LivesStand s w) (c : Choice) (now : ℕ) → IsNode (length s.members) node → Occurs s w (event.Clock node millis) c → now ≡ c.after.reading
      → event_lines s w (event.Clock node millis) c ≡ drained_line node now 0 [] ∷ []
  clock_line stand c now n o shows =
      let step : VisitStep clocking c = visit_step s w (event.Clock node millis) clocking c clock_visits o.comes in
      let own : member_of w (present_life w node) ≡ node = stand.own node n in
      let gave : c.reply ≡ reply.Outputs [] =
      (drain_step (begin there.seat.core millis) 0 c.reply c.after step.fed step.steps.acts).reply ∙ ap (λ (outputs : List Output). reply.Outputs outputs) (gives_none (begin there.seat.core millis)) in
      let reads : reading_of (after_event s w (event.Clock node millis) c) node ≡ now = clock_reads s w node millis clocking c clock_visits refl ∙ sym shows in
      line_is s w (event.Clock node millis) c clocking clock_visits
      ∙ ap (λ m. step_lines m (reading_of (after_event s w (event.Clock node millis) c) m) (event.Clock node millis) clocking c) own
      ∙ (λ i. record { node = node; now = reads i; input = took.Drain 0; answer = answer_by (gave i) } ∷ [])

pub reads_clock : (recorder : Recorder) (old new : World) (node millis : ℕ) (told : Report) → CanRecordEvent recorder old (event.Clock node millis) → Stepped old new (event.Clock node millis) (Ok told) → IsReading told
reads_clock recorder old new node millis told can stepped = by (stepped (network_at can.setting can.network) (record { stands = can.meets.met.stands; fit = can.meets.met.fit })) where
  there : IsThere can.network node
  there = node_here old can.setting can.network node can.meets.met.stands can.meets.met.fit

  by : Reported (WorldStands new) can.setting can.network (event.Clock node millis) told → IsReading told
  by d = subst IsReading (sym (d.report_is ∙ reports can.setting can.network (event.Clock node millis) d.choice (clocking can.setting can.network node millis there) (clock_visits can.setting can.network node millis there))) tt

pub clock_reading : (recorder : Recorder) (old : World) (node millis : ℕ) → CanRecordEvent recorder old (event.Clock node millis) → HasReading node
clock_reading recorder old node millis can = has_reading old can.setting can.network node can.meets.met.stands can.meets.met.fit

pub clock_recorded : (before after : Recorder) (old new : World) (node millis now : ℕ) (told : Report) (line : RecordLine) (text : Result (List ℕ) OutOfMemory) (r : Result (List ℕ) WorldStop) → Stepped old new (event.Clock node millis) (Ok told)
    → told ≡ report.Reading now → after ≡ record before { readings = slice_set before.readings (node - 1) now } → line ≡ drained_line node now 0 [] → IfOk text (λ t. t ≡ ended_lines (record_line line ∷ []))
    → r ≡ told_of text → RecordsEvent before old after new (event.Clock node millis) r
clock_recorded before after old new node millis now told line (Err fault) r stepped shows set is texts result =
    subst (RecordsEvent before old after new (event.Clock node millis)) (sym result) (λ s w meets. tt)
clock_recorded before after old new node millis now told line (Ok text) r stepped shows set is texts result =
    subst (RecordsEvent before old after new (event.Clock node millis)) (sym result) (λ s w meets. whole s w meets (stepped (network_at s w) (record { stands = meets.met.stands; fit = meets.met.fit })))
  where
    whole : (s : Setting) (w : WorldState) → MeetsEvent before old s w (event.Clock node millis) → Reported (WorldStands new) s w (event.Clock node millis) told → EventRecorded after new s w (event.Clock node millis) text
    whole s w meets d =
        let there : IsThere w node = node_here old s w node meets.met.stands meets.met.fit in
        let visits = clock_visits s w node millis there in
        let reads : now ≡ d.choice.after.reading = clock_shows s w node millis there d.choice now (sym shows ∙ d.report_is) in
        let reached = meets.met.stands.stands.goes.reached in
        record {
          choice = d.choice;
          occurs = d.occurs;
          written_is =
              told_line text (event_lines s w (event.Clock node millis) d.choice) line texts
              (clock_line s w node millis there (lives_are_kept s w reached) d.choice now meets.met.fit d.occurs reads ∙ ap (λ (l : RecordLine). l ∷ []) (sym is));
          stands = d.stands;
          knows = known_clock before after s w node millis now (clocking s w node millis there) d.choice reached meets.met.fit visits refl reads set meets.knows;
        }

-- ---- a drain

module _ (s : Setting) (w : WorldState) (node most : ℕ) (there : IsThere w node) where
  abbrev draining : Visit
  draining = record { node = present_life w node; seat = there.seat; now = there.seat.core.reading; input = input.Drain most }

  drain_visits : visit_of s w (event.Drain node most) ≡ Some draining
  drain_visits = ap (λ (o : Option Seat). visit_seat (present_life w node) (input.Drain most) o) there.here

  drain_line : (stand : LivesStand s w) (c : Choice) (now : ℕ) (outputs : List Output) → IsNode (length s.members) node → Occurs s w (event.Drain node most) c → now ≡ reading_of w node
      → outputs ≡ core.drained (begin there.seat.core there.seat.core.reading) most → event_lines s w (event.Drain node most) c ≡ drained_line node now most outputs ∷ []
  drain_line stand c now outputs n o at given =
      let step : VisitStep draining c = visit_step s w (event.Drain node most) draining c drain_visits o.comes in
      let own : member_of w (present_life w node) ≡ node = stand.own node n in
      let gave : c.reply ≡ reply.Outputs outputs =
      (drain_step (begin there.seat.core there.seat.core.reading) most c.reply c.after step.fed step.steps.acts).reply ∙ ap (λ (os : List Output). reply.Outputs os) (sym given) in
      let reads : reading_of (after_event s w (event.Drain node most) c) node ≡ now = readings_stay s w (event.Drain node most) c tt o.comes node ∙ sym at in
      line_is s w (event.Drain node most) c draining drain_visits
      ∙ ap (λ m. step_lines m (reading_of (after_event s w (event.Drain node most) c) m) (event.Drain node most) draining c) own
      ∙ (λ i. record { node = node; now = reads i; input = took.Drain most; answer = answer_by (gave i) } ∷ [])

pub drain_asked : (recorder : Recorder) (code : World) (node most : ℕ) → CanRecordEvent recorder code (event.Drain node most) → IsAsked code (event.Drain node most)
drain_asked recorder code node most can = record { network = network_at can.setting can.network; meets = record { stands = can.meets.met.stands; fit = can.meets.met.fit } }

pub drain_reading : (recorder : Recorder) (old : World) (node most : ℕ) → CanRecordEvent recorder old (event.Drain node most) → HasReading node
drain_reading recorder old node most can = has_reading old can.setting can.network node can.meets.met.stands can.meets.met.fit

pub drain_recorded : (recorder : Recorder) (old new : World) (node most now : ℕ) (outputs : List Output) (line : RecordLine) (text : Result (List ℕ) OutOfMemory) (r : Result (List ℕ) WorldStop)
    → Stepped old new (event.Drain node most) (Ok (report.Sent (length outputs))) → LendsOutputs old node most outputs → Some now ≡ slice_get recorder.readings (node - 1) → line ≡ drained_line node now most outputs
    → IfOk text (λ t. t ≡ ended_lines (record_line line ∷ [])) → r ≡ told_of text → RecordsEvent recorder old recorder new (event.Drain node most) r
drain_recorded recorder old new node most now outputs line (Err fault) r stepped lends read is texts result =
    subst (RecordsEvent recorder old recorder new (event.Drain node most)) (sym result) (λ s w meets. tt)
drain_recorded recorder old new node most now outputs line (Ok text) r stepped lends read is texts result =
    subst (RecordsEvent recorder old recorder new (event.Drain node most)) (sym result) (λ s w meets. whole s w meets (stepped (network_at s w) (record { stands = meets.met.stands; fit = meets.met.fit })))
  where
    whole : (s : Setting) (w : WorldState) → MeetsEvent recorder old s w (event.Drain node most) → Reported (WorldStands new) s w (event.Drain node most) (report.Sent (length outputs))
        → EventRecorded recorder new s w (event.Drain node most) text
    whole s w meets d =
        let there : IsThere w node = node_here old s w node meets.met.stands meets.met.fit in
        let at : now ≡ reading_of w node = told_reading recorder s w node now meets.knows meets.met.fit read in
        let given : outputs ≡ core.drained (begin there.seat.core there.seat.core.reading) most = lends s w there.seat (record { stands = meets.met.stands; here = there.here }) in
        record {
          choice = d.choice;
          occurs = d.occurs;
          written_is =
              told_line text (event_lines s w (event.Drain node most) d.choice) line texts
              (drain_line s w node most there (lives_are_kept s w meets.met.stands.stands.goes.reached) d.choice now outputs meets.met.fit d.occurs at given ∙ ap (λ (l : RecordLine). l ∷ []) (sym is));
          stands = d.stands;
          knows = known_still recorder s w (event.Drain node most) d.choice tt d.occurs meets.knows;
        }

-- ---- the lines of a step and its drain

pub alone_told : (code : World) (line : RecordLine) (text : Result (List ℕ) OutOfMemory) (r : Result (List ℕ) WorldStop) → IfOk text (λ t. t ≡ ended_lines (record_line line ∷ [])) → r ≡ told_of text → TellsStep code code line false r
alone_told code line (Ok text) r texts result = subst (TellsStep code code line false) (sym result) (refl, texts)
alone_told code line (Err fault) r texts result = subst (TellsStep code code line false) (sym result) refl

pub both_told : (mid new : World) (line second : RecordLine) (outputs : List Output) (text : Result (List ℕ) OutOfMemory) (r : Result (List ℕ) WorldStop) → Stepped mid new (event.Drain line.node event_drain) (Ok (report.Sent (length outputs)))
    → LendsOutputs mid line.node event_drain outputs → second ≡ drained_line line.node line.now event_drain outputs → IfOk text (λ t. t ≡ ended_lines (record_line line ∷ record_line second ∷ [])) → r ≡ told_of text → TellsStep mid new line true r
both_told mid new line second outputs (Ok text) r stepped lends is texts result =
    subst (TellsStep mid new line true) (sym result)
    (record { outputs = outputs; steps = stepped; lends = lends; written_is = texts ∙ ap (λ (l : RecordLine). ended_lines (record_line line ∷ record_line l ∷ [])) is })
both_told mid new line second outputs (Err fault) r stepped lends is texts result = subst (TellsStep mid new line true) (sym result) (inl refl)
