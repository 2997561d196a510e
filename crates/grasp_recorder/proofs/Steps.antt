-- The record lines of an event at which something comes in, of a want or of a return.
use Rattle.std.proofs.Common.{◌≡◌, inl, inr, refl, sym, ap, ◌∙◌, subst, ℕ, ◌-◌, Bool, true, false, List, [], ◌∷◌, length, map, slice_get, Option, None, Some, IsSome, Result, Ok, Err}
use Rattle.std.proofs.lemmas.Bool.{true≢false}
use Rattle.std.proofs.lemmas.Option.{none-some, same_Some}
use Rattle.grasp_laws_delivery.proofs.Holding.{IsStep}
use Rattle.grasp_laws_delivery.specs.Ready.{StepsArePresent}
use Rattle.grasp_laws_delivery.specs.Undrained.{undrained}
use Rattle.grasp_model_node.specs.Begin.{begin}
use Rattle.grasp_model_node.specs.Draining as core
use Rattle.grasp_model_node.specs.Node.{NodeState}
use Rattle.grasp_types.specs.declared.traffic.Output.{Output}
use Rattle.grasp_model_network.specs.EventSteps.{returning_reply, wanting_reply}
use Rattle.grasp_model_network.specs.Events.{IsFit, Occurs, after_event, drains, visit_of}
use Rattle.grasp_model_network.specs.Plans.{IsNode}
use Rattle.grasp_model_network.specs.Reports.{report_by, report_of}
use Rattle.grasp_model_network.specs.Runs.{IsReached}
use Rattle.grasp_model_network.specs.Sending.{event_drain}
use Rattle.grasp_model_network.specs.Setting.{Setting}
use Rattle.grasp_model_network.specs.Visits.{Choice, Visit}
use Rattle.grasp_model_network.specs.World.{WorldState, member_of, present_life}
use Rattle.grasp_model_network.specs.declared.event.Event.{Event}
use Rattle.grasp_model_network.specs.declared.event.Event.TheVariants as event
use Rattle.grasp_model_network.specs.declared.report.Report.{Report}
use Rattle.grasp_model_network.specs.declared.report.Report.TheVariants as report
use Rattle.grasp_model_network.specs.declared.report.WorldStop.{WorldStop}
use Rattle.grasp_model_network.specs.declared.report.WorldStop.TheVariants as stop
use Rattle.grasp_record.specs.Records.{record_line}
use Rattle.grasp_record.specs.declared.line.RecordAnswer.{RecordAnswer}
use Rattle.grasp_record.specs.declared.line.RecordAnswer.TheVariants as answer
use Rattle.grasp_record.specs.declared.line.RecordInput.TheVariants as took
use Rattle.grasp_record.specs.declared.line.RecordLine.{RecordLine}
use Rattle.grasp_model_audit.specs.Naming.{reading_of}
use Rattle.grasp_model_audit.specs.Recording.{answer_by, drain_lines, ended_lines, event_lines, lines_by, took_by, untaken_lines}
use Rattle.grasp_simulator.specs.Contract.{Answers, Halted, Reported, going}
use Rattle.grasp_simulator.specs.Lending.{LendsOutputs}
use Rattle.grasp_simulator.specs.WorldStands.{WorldStands}
use Rattle.grasp_simulator.specs.WorldSteps.{IsAsked, Stepped}
use Rattle.grasp_simulator.specs.declared.world.World.{World}
use Rattle.grasp_runner.specs.Lines.{network_at}
use Rattle.grasp_recorder.specs.Taking.{CanHappen, CanRecordEvent, DrainTold, EventAnswers, EventMayStop, EventRecorded, HasReading, IsRecordedStep, MeetsEvent, MeetsFit, RecordsEvent, TellsStep, TellsTaken, answer_in, drained_line, taken_by}
use Rattle.grasp_recorder.specs.declared.recorder.Recorder.{Recorder}
use Rattle.grasp_recorder.specs.declared.taken.Taken.{Taken}
use Rattle.grasp_recorder.proofs.Held.{IsMember, alone_after, alone_occurs, behind_drain, drained_occurs, drained_overflows, drains_step, held_fit, held_none, held_overflows, held_visit, left_core, left_here, left_seat, step_member, visit_member}
use Rattle.grasp_recorder.proofs.Known.{has_reading, known_still, told_reading}
use Rattle.grasp_recorder.proofs.Readings.{IsNoClock, readings_stay}

-- ---- what comes of the step

unclocked : (e : Event) → IsRecordedStep e → IsNoClock e
unclocked (event.Clock node millis) h = absurd h
unclocked _ h = tt

-- what is reported of the event without its drain
held_report : (s : Setting) (w : WorldState) (e : Event) (c : Choice) (o : Option Visit) → visit_of s w e ≡ o → report_of s w (undrained e) c ≡ report_by w (undrained e) c o
unfolding report_of
held_report s w e c o is = ap (λ (x : Option Visit). report_by w (undrained e) c x) (held_visit s w e ∙ is)

-- a step is answered by its reply
step_answer : (s : Setting) (w : WorldState) (e : Event) (v : Visit) (c : Choice) → IsRecordedStep e → visit_of s w e ≡ Some v → answer_in (report_by w (undrained e) c (Some v)) ≡ Some (answer_by c.reply)
step_answer s w (event.Clock node millis) v c h is = absurd h
step_answer s w (event.Drain node most) v c h is = absurd h
step_answer s w (event.Want node shortest longest peer) v c h is = absurd (none-some v is)
step_answer s w (event.Return node prefix peer) v c h is = absurd (none-some v is)
step_answer s w _ v c h is = refl

-- where something is sent behind it, and no step is made, there is no answer
silent : (w : WorldState) (e : Event) (c : Choice) → drains e ≡ true → answer_in (report_by w (undrained e) c None) ≡ None
silent w (event.Clock node millis) c some = absurd (true≢false (sym some))
silent w (event.Want node shortest longest peer) c some = absurd (true≢false (sym some))
silent w (event.Return node prefix peer) c some = absurd (true≢false (sym some))
silent w (event.Drain node most) c some = absurd (true≢false (sym some))
silent w _ c some = refl

-- this was taken and answered, and these are the record lines
pub record Came (s : Setting) (w : WorldState) (e : Event) (c : Choice) (a : RecordAnswer) : Type 0 where
  pub taken : Taken
  pub by : taken_by w e (visit_of s w e) ≡ Some taken
  pub node : IsNode (length s.members) taken.node
  pub lines : (now : ℕ) → now ≡ reading_of (after_event s w e c) taken.node
      → event_lines s w e c ≡ record { node = taken.node; now = now; input = taken.input; answer = a } ∷ drain_lines (drains e) taken.node now c

module _ (s : Setting) (w : WorldState) (c : Choice) (a : RecordAnswer) where
  lines_are : (e : Event) (o : Option Visit) → visit_of s w e ≡ o → event_lines s w e c ≡ lines_by s w e c o
  unfolding event_lines
  lines_are e o is = ap (λ (x : Option Visit). lines_by s w e c x) is

  -- a step
  step_came : (e : Event) (v : Visit) → IsReached s w → visit_of s w e ≡ Some v → Some (answer_by c.reply) ≡ Some a → Came s w e c a
  step_came e v r is same = record {
    taken = record { node = member_of w v.node; input = took_by e v.input };
    by = ap (λ (o : Option Visit). taken_by w e o) is;
    node = visit_member s w e v r is;
    lines = λ now at.
        lines_are e (Some v) is
        ∙ (λ i. record { node = member_of w v.node; now = sym at i; input = took_by e v.input; answer = same_Some (answer_by c.reply) a same i } ∷ drain_lines (drains e) (member_of w v.node) (sym at i) c);
  }

  -- no step: a want or a return is answered by the node's own agent
  none_came : (e : Event) → IsFit s w e → visit_of s w e ≡ None → answer_in (report_by w (undrained e) c None) ≡ Some a → Came s w e c a
  none_came (event.Want node shortest longest peer) fit is same = record {
    taken = record { node = node; input = took.Want shortest longest peer };
    by = refl;
    node = fit.0;
    lines = λ now at.
        lines_are (event.Want node shortest longest peer) None refl
        ∙ (λ i. record { node = node; now = sym at i; input = took.Want shortest longest peer; answer = same_Some (answer.Want (wanting_reply w (present_life w node))) a same i } ∷ []);
  }
  none_came (event.Return node prefix peer) fit is same = record {
    taken = record { node = node; input = took.Return prefix peer };
    by = refl;
    node = fit.0;
    lines = λ now at.
        lines_are (event.Return node prefix peer) None refl
        ∙ (λ i. record { node = node; now = sym at i; input = took.Return prefix peer; answer = same_Some (answer.Return (returning_reply w (present_life w node) prefix)) a same i } ∷ []);
  }
  none_came (event.Clock node millis) fit is same = absurd (none-some a same)
  none_came _ fit is same = absurd (none-some a same)

  pub came : (e : Event) → IsReached s w → IsFit s w e → IsRecordedStep e → answer_in (report_of s w (undrained e) c) ≡ Some a → Came s w e c a
  came e r fit h same = by (visit_of s w e) refl where
    by : (o : Option Visit) → visit_of s w e ≡ o → Came s w e c a
    by None is = none_came e fit is (sym (ap answer_in (held_report s w e c None is)) ∙ same)
    by (Some v) is = step_came e v r is (sym (step_answer s w e v c h is) ∙ sym (ap answer_in (held_report s w e c (Some v) is)) ∙ same)

-- nothing came of the event
record CameToNothing (s : Setting) (w : WorldState) (e : Event) (c : Choice) : Type 0 where
  lines : event_lines s w e c ≡ []
  after : after_event s w (undrained e) c ≡ after_event s w e c

none_lines : (s : Setting) (w : WorldState) (e : Event) (c : Choice) → visit_of s w e ≡ None → event_lines s w e c ≡ untaken_lines s w e c
unfolding event_lines
none_lines s w e c is = ap (λ (x : Option Visit). lines_by s w e c x) is

no_lines : (s : Setting) (w : WorldState) (e : Event) (c : Choice) → IsRecordedStep e → visit_of s w e ≡ None → answer_in (report_by w (undrained e) c None) ≡ None → event_lines s w e c ≡ []
no_lines s w (event.Want node shortest longest peer) c h is none = absurd (none-some (answer.Want (wanting_reply w (present_life w node))) (sym none))
no_lines s w (event.Return node prefix peer) c h is none = absurd (none-some (answer.Return (returning_reply w (present_life w node) prefix)) (sym none))
no_lines s w (event.Clock node millis) c h is none = absurd h
no_lines s w (event.Drain node most) c h is none = absurd h
no_lines s w (event.Agent node hold) c h is none = none_lines s w (event.Agent node hold) c is
no_lines s w (event.Api node asa call hold) c h is none = none_lines s w (event.Api node asa call hold) c is
no_lines s w (event.Datagram index hold) c h is none = none_lines s w (event.Datagram index hold) c is
no_lines s w (event.Arrive stream hold) c h is none = none_lines s w (event.Arrive stream hold) c is
no_lines s w (event.Bytes stream far count hold) c h is none = none_lines s w (event.Bytes stream far count hold) c is
no_lines s w (event.Cut stream far hold) c h is none = none_lines s w (event.Cut stream far hold) c is

came_to_nothing : (s : Setting) (w : WorldState) (e : Event) (c : Choice) → IsRecordedStep e → answer_in (report_of s w (undrained e) c) ≡ None → CameToNothing s w e c
came_to_nothing s w e c h none = by (visit_of s w e) refl where
  by : (o : Option Visit) → visit_of s w e ≡ o → CameToNothing s w e c
  by None is = record { lines = no_lines s w e c h is (sym (ap answer_in (held_report s w e c None is)) ∙ none); after = held_none s w e c is }
  by (Some v) is = absurd (none-some (answer_by c.reply) (sym none ∙ ap answer_in (held_report s w e c (Some v) is) ∙ step_answer s w e v c h is))

-- ---- asking

pub step_asked : (recorder : Recorder) (code : World) (e : Event) → CanRecordEvent recorder code e → IsAsked code (undrained e)
step_asked recorder code e can =
    record { network = network_at can.setting can.network; meets = record { stands = can.meets.met.stands; fit = held_fit can.setting can.network e can.meets.met.fit } }

-- how the step came out in a network for which the code went on
held_steps : (old mid : World) (s : Setting) (w : WorldState) (e : Event) (told : Report) → Stepped old mid (undrained e) (Ok told) → MeetsFit old s w e → Reported (WorldStands mid) s w (undrained e) told
held_steps old mid s w e told stepped met = stepped (network_at s w) (record { stands = met.stands; fit = held_fit s w e met.fit })

came_here : (old mid : World) (s : Setting) (w : WorldState) (e : Event) (told : Report) (a : RecordAnswer) → IsRecordedStep e → MeetsFit old s w e → (d : Reported (WorldStands mid) s w (undrained e) told) → answer_in told ≡ Some a → Came s w e d.choice a
came_here old mid s w e told a h met d same = came s w d.choice a e met.stands.stands.goes.reached met.fit h (sym (ap answer_in d.report_is) ∙ same)

-- where something is answered, something was taken
pub taken_there : (recorder : Recorder) (old mid : World) (e : Event) (told : Report) (a : RecordAnswer) (found : Option Taken) → IsRecordedStep e → CanRecordEvent recorder old e → Stepped old mid (undrained e) (Ok told) → answer_in told ≡ Some a
    → TellsTaken old e found → found ≡ None → ⊥
taken_there recorder old mid e told a found h can stepped same tells none = by (came_here old mid can.setting can.network e told a h can.meets.met d same) where
  d : Reported (WorldStands mid) can.setting can.network (undrained e) told
  d = held_steps old mid can.setting can.network e told stepped can.meets.met

  by : Came can.setting can.network e d.choice a → ⊥
  by k = none-some k.taken (sym none ∙ tells can.setting can.network can.meets.met k.taken k.by)

-- whoever took it is a node
taken_node : (old mid : World) (s : Setting) (w : WorldState) (e : Event) (told : Report) (a : RecordAnswer) (taken : Taken) → IsRecordedStep e → MeetsFit old s w e → Stepped old mid (undrained e) (Ok told) → answer_in told ≡ Some a
    → TellsTaken old e (Some taken) → IsNode (length s.members) taken.node
taken_node old mid s w e told a taken h met stepped same tells = by (held_steps old mid s w e told stepped met) where
  by_came : (d : Reported (WorldStands mid) s w (undrained e) told) → Came s w e d.choice a → IsNode (length s.members) taken.node
  by_came d k = subst (λ (x : Taken). IsNode (length s.members) x.node) (sym (same_Some taken k.taken (tells s w met k.taken k.by))) k.node

  by : Reported (WorldStands mid) s w (undrained e) told → IsNode (length s.members) taken.node
  by d = by_came d (came_here old mid s w e told a h met d same)

pub taken_reading : (recorder : Recorder) (old mid : World) (e : Event) (told : Report) (a : RecordAnswer) (taken : Taken) → IsRecordedStep e → CanRecordEvent recorder old e → Stepped old mid (undrained e) (Ok told) → answer_in told ≡ Some a
    → TellsTaken old e (Some taken) → HasReading taken.node
taken_reading recorder old mid e told a taken h can stepped same tells =
    has_reading old can.setting can.network taken.node can.meets.met.stands (taken_node old mid can.setting can.network e told a taken h can.meets.met stepped same tells)

-- so its drain may be asked for
pub drain_happens : (recorder : Recorder) (old mid : World) (e : Event) (told : Report) (a : RecordAnswer) (taken : Taken) → IsRecordedStep e → CanRecordEvent recorder old e → Stepped old mid (undrained e) (Ok told) → answer_in told ≡ Some a
    → TellsTaken old e (Some taken) → CanHappen mid (event.Drain taken.node event_drain)
drain_happens recorder old mid e told a taken h can stepped same tells = by (held_steps old mid can.setting can.network e told stepped can.meets.met) where
  by : Reported (WorldStands mid) can.setting can.network (undrained e) told → CanHappen mid (event.Drain taken.node event_drain)
  by d = record {
    setting = can.setting;
    network = after_event can.setting can.network (undrained e) d.choice;
    meets = record { stands = d.stands; fit = taken_node old mid can.setting can.network e told a taken h can.meets.met stepped same tells };
  }

pub drain_asked : (code : World) (node : ℕ) → CanHappen code (event.Drain node event_drain) → IsAsked code (event.Drain node event_drain)
drain_asked code node can = record { network = network_at can.setting can.network; meets = record { stands = can.meets.stands; fit = can.meets.fit } }

-- ---- where the network stops

starves : (s : Setting) (w : WorldState) (e : Event) (why : WorldStop) → why ≡ stop.OutOfMemory → EventMayStop s w e why
starves s w e why is = subst (λ (x : WorldStop). EventMayStop s w e x) (sym is) tt

step_stops : (s : Setting) (w : WorldState) (e : Event) (mid : World) (why : WorldStop) → Halted (WorldStands mid) s w (undrained e) why → EventMayStop s w e why
step_stops s w e mid stop.TooMuch h = held_overflows s w e h.may_stop
step_stops s w e mid stop.OutOfMemory h = tt

pub step_stopped : (recorder : Recorder) (old mid : World) (e : Event) (why : WorldStop) → Stepped old mid (undrained e) (Err why) → RecordsEvent recorder old recorder mid e (Err why)
step_stopped recorder old mid e why stepped s w meets = step_stops s w e mid why (stepped (network_at s w) (record { stands = meets.met.stands; fit = held_fit s w e meets.met.fit }))

-- there was no memory
pub event_starved : (before after : Recorder) (old new : World) (e : Event) → RecordsEvent before old after new e (Err stop.OutOfMemory)
event_starved before after old new e s w meets = tt

-- ---- where nothing came of the event

pub nothing_recorded : (recorder : Recorder) (old mid : World) (e : Event) (told : Report) (text : List ℕ) → IsRecordedStep e → Stepped old mid (undrained e) (Ok told) → answer_in told ≡ None → text ≡ [] → RecordsEvent recorder old recorder mid e (Ok text)
nothing_recorded recorder old mid e told text h stepped none empty s w meets = by (held_steps old mid s w e told stepped meets.met) where
  by_nothing : (d : Reported (WorldStands mid) s w (undrained e) told) → CameToNothing s w e d.choice → EventRecorded recorder mid s w e text
  by_nothing d k =
      let o : Occurs s w e d.choice = alone_occurs s w e d.choice meets.met.fit d.occurs k.after in
      record {
        choice = d.choice;
        occurs = o;
        written_is = empty ∙ sym (ap (λ (ls : List RecordLine). ended_lines (map record_line ls)) k.lines);
        stands = subst (λ (x : WorldState). WorldStands mid (network_at s x)) k.after d.stands;
        knows = known_still recorder s w e d.choice (unclocked e h) o meets.knows;
      }

  by : Reported (WorldStands mid) s w (undrained e) told → EventRecorded recorder mid s w e text
  by d = by_nothing d (came_to_nothing s w e d.choice h (sym (ap answer_in d.report_is) ∙ none))

-- ---- where something did

module _ (present : StepsArePresent) (recorder : Recorder) (old mid new : World) (e : Event) (told : Report) (a : RecordAnswer) (taken : Taken) (now : ℕ) (h : IsRecordedStep e) (stepped : Stepped old mid (undrained e) (Ok told))
    (same : answer_in told ≡ Some a) (tells : TellsTaken old e (Some taken)) (read : Some now ≡ slice_get recorder.readings (taken.node - 1)) where
  abbrev line : RecordLine
  line = record { node = taken.node; now = now; input = taken.input; answer = a }

  module _ (s : Setting) (w : WorldState) (meets : MeetsEvent recorder old s w e) where
    d : Reported (WorldStands mid) s w (undrained e) told
    d = held_steps old mid s w e told stepped meets.met

    abbrev c : Choice
    c = d.choice

    abbrev between : WorldState
    between = after_event s w (undrained e) c

    k : Came s w e c a
    k = came_here old mid s w e told a h meets.met d same

    taken_is : taken ≡ k.taken
    taken_is = same_Some taken k.taken (tells s w meets.met k.taken k.by)

    node : IsNode (length s.members) taken.node
    node = taken_node old mid s w e told a taken h meets.met stepped same tells

    now_is : Occurs s w e c → now ≡ reading_of (after_event s w e c) taken.node
    now_is o = told_reading recorder s w taken.node now meets.knows node read ∙ sym (readings_stay s w e c (unclocked e h) o.comes taken.node)

    lines_is : Occurs s w e c → event_lines s w e c ≡ line ∷ drain_lines (drains e) taken.node now c
    lines_is o =
        k.lines now (now_is o ∙ ap (λ (t : Taken). reading_of (after_event s w e c) t.node) taken_is)
        ∙ sym (ap (λ (t : Taken). record { node = t.node; now = now; input = t.input; answer = a } ∷ drain_lines (drains e) t.node now c) taken_is)

    text_is : (written : List ℕ) (ls : List RecordLine) → Occurs s w e c → drain_lines (drains e) taken.node now c ≡ ls → written ≡ ended_lines (record_line line ∷ map record_line ls) → written ≡ ended_lines (map record_line (event_lines s w e c))
    text_is written ls o behind is = is ∙ sym (ap (λ (xs : List RecordLine). ended_lines (map record_line xs)) (lines_is o ∙ ap (λ (xs : List RecordLine). line ∷ xs) behind))

    -- nothing is sent behind it
    alone : (written : List ℕ) → drains e ≡ false → new ≡ mid → written ≡ ended_lines (record_line line ∷ []) → EventRecorded recorder new s w e written
    alone written none still is =
        let o : Occurs s w e c = alone_occurs s w e c meets.met.fit d.occurs (alone_after s w e c none) in
        record {
          choice = c;
          occurs = o;
          written_is = text_is written [] o (ap (λ (b : Bool). drain_lines b taken.node now c) none) is;
          stands = subst (λ (x : World). WorldStands x (network_at s (after_event s w e c))) (sym still) (subst (λ (x : WorldState). WorldStands mid (network_at s x)) (alone_after s w e c none) d.stands);
          knows = known_still recorder s w e c (unclocked e h) o meets.knows;
        }

    -- outputs are, by the life that made the step
    module _ (some : drains e ≡ true) (v : Visit) (is : visit_of s w e ≡ Some v) where
      member : IsMember s w v
      member = step_member present s w e v meets.met.stands.stands.goes.reached meets.met.fit is

      step : IsStep e
      step = drains_step e some

      at : taken.node ≡ member_of w v.node
      at = ap (λ (t : Taken). t.node) (taken_is ∙ same_Some k.taken (record { node = member_of w v.node; input = took_by e v.input }) (sym k.by ∙ ap (λ (x : Option Visit). taken_by w e x) is))

      -- the drain comes out so
      drain_steps : (r : Result Report WorldStop) → Stepped mid new (event.Drain taken.node event_drain) r → Answers (WorldStands new) s (going between) (event.Drain (member_of w v.node) event_drain) r
      drain_steps r t =
          subst (λ n. Stepped mid new (event.Drain n event_drain) r) at t (network_at s between) (record { stands = d.stands; fit = member.is_node })

      given : (outputs : List Output) → LendsOutputs mid taken.node event_drain outputs → outputs ≡ core.drained (begin c.after c.after.reading) event_drain
      given outputs lends =
          subst (λ n. LendsOutputs mid n event_drain outputs) at lends s between (left_seat s w e v c is member step some) (record { stands = d.stands; here = left_here s w e v c is member step some })
          ∙ ap (λ (m : NodeState). core.drained (begin m m.reading) event_drain) (left_core s w e v c is member step some)

      with_drain : (written : List ℕ) → DrainTold mid new line written → EventRecorded recorder new s w e written
      with_drain written t = by (drain_steps (Ok (report.Sent (length t.outputs))) t.steps) where
        by : Reported (WorldStands new) s between (event.Drain (member_of w v.node) event_drain) (report.Sent (length t.outputs)) → EventRecorded recorder new s w e written
        by r =
            let o : Occurs s w e c = drained_occurs s w e v c is member step some r.choice meets.met.fit d.occurs r.occurs in
            record {
              choice = c;
              occurs = o;
              written_is =
                  text_is written (drained_line taken.node now event_drain t.outputs ∷ []) o
                  (ap (λ (b : Bool). drain_lines b taken.node now c) some ∙ ap (λ (outputs : List Output). drained_line taken.node now event_drain outputs ∷ []) (sym (given t.outputs t.lends)))
                  t.written_is;
              stands = subst (λ (x : WorldState). WorldStands new (network_at s x)) (behind_drain s w e v c is member step some r.choice) r.stands;
              knows = known_still recorder s w e c (unclocked e h) o meets.knows;
            }

      drain_stops : (why : WorldStop) → Stepped mid new (event.Drain taken.node event_drain) (Err why) → EventMayStop s w e why
      drain_stops stop.TooMuch t = drained_overflows s w e v c is member step some d.occurs (drain_steps (Err stop.TooMuch) t).may_stop
      drain_stops stop.OutOfMemory t = tt

      drain_told : (r : Result (List ℕ) WorldStop) → TellsStep mid new line true r → EventAnswers recorder new s w e r
      drain_told (Ok written) t = with_drain written t
      drain_told (Err why) (inl none) = starves s w e why none
      drain_told (Err why) (inr t) = drain_stops why t

    behind : (r : Result (List ℕ) WorldStop) → drains e ≡ true → TellsStep mid new line true r → EventAnswers recorder new s w e r
    behind r some t = by (visit_of s w e) refl where
      by : (o : Option Visit) → visit_of s w e ≡ o → EventAnswers recorder new s w e r
      by None is = absurd (none-some a (sym (silent w e c some) ∙ (sym (ap answer_in (held_report s w e c None is)) ∙ (sym (ap answer_in d.report_is) ∙ same))))
      by (Some v) is = drain_told some v is r t

  pub something_recorded : (b : Bool) (r : Result (List ℕ) WorldStop) → b ≡ drains e → TellsStep mid new line b r → RecordsEvent recorder old recorder new e r
  something_recorded false (Ok written) is t s w meets = alone s w meets written (sym is) t.0 t.1
  something_recorded false (Err why) is t s w meets = starves s w e why t
  something_recorded true r is t s w meets = behind s w meets r (sym is) t

-- ---- as the code comes by them

module _ (recorder : Recorder) (old mid : World) (e held : Event) (told : Report) (a : RecordAnswer) (found : Option Taken) (h : IsRecordedStep e) (can : CanRecordEvent recorder old e) (is : held ≡ undrained e) (stepped : Stepped old mid held (Ok told))
    (same : Some a ≡ answer_in told) (tells : TellsTaken old e found) where
  undrained_steps : Stepped old mid (undrained e) (Ok told)
  undrained_steps = subst (λ (x : Event). Stepped old mid x (Ok told)) is stepped

  -- something was taken
  pub taken_some : IsSome found
  taken_some = by found refl where
    by : (o : Option Taken) → found ≡ o → IsSome o
    by None none = absurd (taken_there recorder old mid e told a found h can undrained_steps (sym same) tells none)
    by (Some t) there = refl

  module _ (taken : Taken) (there : found ≡ Some taken) where
    tells_it : TellsTaken old e (Some taken)
    tells_it = subst (λ (o : Option Taken). TellsTaken old e o) there tells

    -- by a node
    pub reads_taken : HasReading taken.node
    reads_taken = taken_reading recorder old mid e told a taken h can undrained_steps (sym same) tells_it

    pub drains_taken : CanHappen mid (event.Drain taken.node event_drain)
    drains_taken = drain_happens recorder old mid e told a taken h can undrained_steps (sym same) tells_it

    -- and so it is recorded
    pub taken_recorded : StepsArePresent → (new : World) (now : ℕ) (drained : Bool) (r : Result (List ℕ) WorldStop) → Some now ≡ slice_get recorder.readings (taken.node - 1) → drained ≡ drains e
        → TellsStep mid new (record { node = taken.node; now = now; input = taken.input; answer = a }) drained r → RecordsEvent recorder old recorder new e r
    taken_recorded present new now drained r read sent t = something_recorded present recorder old mid new e told a taken now h undrained_steps (sym same) tells_it read drained r sent t

pub held_asked : (recorder : Recorder) (code : World) (e held : Event) → CanRecordEvent recorder code e → held ≡ undrained e → IsAsked code held
held_asked recorder code e held can is = subst (λ (x : Event). IsAsked code x) (sym is) (step_asked recorder code e can)

pub held_nothing : (recorder : Recorder) (old mid : World) (e held : Event) (told : Report) (text : List ℕ) → IsRecordedStep e → held ≡ undrained e → Stepped old mid held (Ok told) → None ≡ answer_in told → text ≡ [] → RecordsEvent recorder old recorder mid e (Ok text)
held_nothing recorder old mid e held told text h is stepped none empty =
    nothing_recorded recorder old mid e told text h (subst (λ (x : Event). Stepped old mid x (Ok told)) is stepped) (sym none) empty

pub held_stopped : (recorder : Recorder) (old mid : World) (e held : Event) (why : WorldStop) → held ≡ undrained e → Stepped old mid held (Err why) → RecordsEvent recorder old recorder mid e (Err why)
held_stopped recorder old mid e held why is stepped = step_stopped recorder old mid e why (subst (λ (x : Event). Stepped old mid x (Err why)) is stepped)

-- the event may happen
pub can_happen : (recorder : Recorder) (code : World) (e : Event) → CanRecordEvent recorder code e → CanHappen code e
can_happen recorder code e can = record { setting = can.setting; network = can.network; meets = can.meets.met }
