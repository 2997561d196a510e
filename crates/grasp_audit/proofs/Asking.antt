-- A line that was read, on its way.
use Rattle.std.proofs.Common.{◌≡◌, ◌↔◌, refl, sym, ap, ◌∙◌, subst, ℕ, ◌≤◌, Bool, true, false, List, [], ◌∷◌, ◌++◌, Option, None, Result, Ok, Err}
use Rattle.std.specs.Prelude.{IsTrue}
use Rattle.std.proofs.lemmas.List.{map-append}
use Rattle.grasp_agent.specs.Calls.{next_call}
use Rattle.grasp_agent.specs.States.{AgentState}
use Rattle.grasp_laws_audit.proofs.Runs.{after_joined, run_joined}
use Rattle.grasp_model_audit.specs.Lines.{Asks, ComesTo, Means, Names, answered_words, last_answered}
use Rattle.grasp_model_audit.specs.Naming.{IsNextCall, IsOfAgent}
use Rattle.grasp_model_network.specs.Events.{IsFit, after_event}
use Rattle.grasp_model_network.specs.Runs.{Happening, IsRun, events_of, world_after}
use Rattle.grasp_model_network.specs.Setting.{Setting}
use Rattle.grasp_model_network.specs.Visits.{Choice}
use Rattle.grasp_model_network.specs.World.{Seat, WorldState}
use Rattle.grasp_model_network.specs.declared.event.Event.{Event}
use Rattle.grasp_record.specs.Records.{IsRecord}
use Rattle.grasp_record.specs.declared.line.RecordInput.{RecordInput}
use Rattle.grasp_record.specs.declared.line.RecordInput.TheVariants as took
use Rattle.grasp_record.specs.declared.line.RecordLine.{RecordLine}
use Rattle.grasp_script.specs.Calls.{call_words}
use Rattle.grasp_simulator.specs.Lending.{StandsFor}
use Rattle.grasp_simulator.specs.WorldStands.{LendsAgent}
use Rattle.grasp_simulator.specs.declared.world.World.{World}
use Rattle.grasp_types.specs.declared.call.Call.{Call}
use Rattle.grasp_audit.specs.LineFaults.{verdict_of}
use Rattle.grasp_audit.specs.Lines.{AnswersEvent, AuditsLine, ClockTurned, HasAnswered, HasAsked, HasNamed, HasRead, HasTurned, IsAnswered, LineAudited, NamesEvent, TellsAgent, TurnsClock}
use Rattle.grasp_audit.specs.Standing.{GoesOn, HasLine, IsAt, MayAnswer}
use Rattle.grasp_audit.specs.Told.{IsWritten}
use Rattle.grasp_audit.specs.declared.fault.LineFault.{LineFault as Fault}
use Rattle.grasp_audit.specs.declared.fault.LineFault.TheVariants as fault
use Rattle.grasp_audit.proofs.NamedLines.{named_fits}
use Rattle.grasp_audit.proofs.ReadLines.{found_line}
use Rattle.grasp_audit.proofs.Seats.{IsThere, line_there}
use Rattle.grasp_audit.proofs.Turning.{came}

-- ---- the node's own agent

no_truth : false ≡ true → ⊥
no_truth e = absurd (cc)

-- a line that isn't a call of it
pub asks_no_agent : (code : World) (x : RecordLine) → ((call : Call) → x.input ≡ took.Agent call → ⊥) → TellsAgent code x true
asks_no_agent code x other = λ s w stands. ((λ it. of_other s w x.input other), (λ is. refl)) where
  of_other : (s : Setting) (w : WorldState) (i : RecordInput) → ((call : Call) → i ≡ took.Agent call → ⊥) → IsOfAgent w x.node i
  of_other s w (took.Agent call) none = absurd (none call refl)
  of_other s w _ none = tt

pub asks_agent : (code : World) (x : RecordLine) (call : Call) (agent : AgentState) (is_so : Bool) → HasLine code x → x.input ≡ took.Agent call → LendsAgent code x.node agent
    → (IsTrue is_so ↔ (call_words (next_call agent) ≡ call_words call)) → TellsAgent code x is_so
asks_agent code x call agent is_so line is lends tells = λ s w stands.
    let there : IsThere w x.node = line_there code x s w line stands in
    let same : agent ≡ there.seat.agent = lends s w there.seat (record { stands = stands; here = there.here }) in
    subst (λ (i : RecordInput). IsTrue is_so ↔ IsOfAgent w x.node i) (sym is)
    (subst (λ (o : Option Seat). IsTrue is_so ↔ IsNextCall call o) (sym there.here)
    (subst (λ (a : AgentState). IsTrue is_so ↔ (call_words (next_call a) ≡ call_words call)) same tells))

-- ---- what the steps of a line need

module _ (code : World) (nodes : ℕ) (line : List ℕ) (x : RecordLine) where
  pub read_line : HasRead code nodes line x → HasLine code x
  read_line h = found_line code nodes line x h.found

  pub written_line : nodes ≤ 255 → HasRead code nodes line x → IsWritten line x
  written_line few h = record { nodes = nodes; few = few; is_line = h.found.is_line }

  module _ (s : Setting) (w : WorldState) (at : IsAt code nodes s w) where
    line_means : HasRead code nodes line x → Means nodes w line x
    line_means h = record { is_line = h.found.is_line; in_time = (h.in_time s w at.stands).0 refl }

    line_names : (e : Event) → HasNamed code nodes line x e → Names nodes s w line x e
    line_names e h = record { means = line_means h.read; named = h.names s w at.stands }

    line_asks : (e : Event) → HasAsked code nodes line x e → Asks nodes s w line x e
    line_asks e h = record { names = line_names e h.named; of_agent = (h.tells s w at.stands).0 refl }

    line_fits : (e : Event) → HasAsked code nodes line x e → IsFit s w e
    line_fits e h = named_fits code s w x e at.stands (subst (λ (n : ℕ). IsRecord n x) (sym at.count) h.named.read.found.is_line.ranges) (h.named.names s w at.stands)

  pub may_answer : (mid : World) (e : Event) → HasAsked code nodes line x e → TurnsClock code mid x (Ok tt) → MayAnswer mid e
  may_answer mid e h turns =
      let goes : GoesOn code nodes = h.named.read.found.goes in
      let t : HasTurned mid goes.setting goes.network x = turns goes.setting goes.network goes.is_at.stands in
      record { setting = goes.setting; network = world_after goes.setting goes.network t.clock; stands = t.stands; fit = line_fits goes.setting goes.network goes.is_at e h }

-- ---- lines that fail

pub fails_starved : (old new : World) (nodes : ℕ) (line : List ℕ) → AuditsLine old new nodes line (Err fault.OutOfMemory)
fails_starved old new nodes line = λ s w at. tt

pub fails_unsent : (code : World) (nodes : ℕ) (line : List ℕ) (x : RecordLine) → HasRead code nodes line x → NamesEvent code x None → AuditsLine code code nodes line (Err fault.NotSent)
fails_unsent code nodes line x h names = λ s w at. record { meant = x; means = line_means code nodes line x s w at h; unsent = names s w at.stands }

pub fails_unasked : (code : World) (nodes : ℕ) (line : List ℕ) (x : RecordLine) (e : Event) → HasNamed code nodes line x e → TellsAgent code x false → AuditsLine code code nodes line (Err fault.NotAgent)
fails_unasked code nodes line x e h tells = λ s w at.
    record { meant = x; event = e; names = line_names code nodes line x s w at e h; other = λ is. no_truth ((tells s w at.stands).1 is) }

-- ---- one event behind others

events_behind : (hs : List Happening) (h : Happening) → events_of (hs ++ h ∷ []) ≡ events_of hs ++ h.event ∷ []
events_behind hs h = map-append (λ (g : Happening). g.event) hs (h ∷ [])

run_behind : (s : Setting) (w : WorldState) (hs : List Happening) (h : Happening) → IsRun s w hs → IsRun s (world_after s w hs) (h ∷ []) → IsRun s w (hs ++ h ∷ [])
run_behind s w hs h a b = run_joined s hs (h ∷ []) w a b

after_behind : (s : Setting) (w : WorldState) (hs : List Happening) (h : Happening) → world_after s w (hs ++ h ∷ []) ≡ after_event s (world_after s w hs) h.event h.choice
unfolding world_after
after_behind s w hs h = after_joined s hs (h ∷ []) w

answered_behind : (s : Setting) (hs : List Happening) (w : WorldState) (h : Happening) → last_answered s w (hs ++ h ∷ []) ≡ answered_words s (world_after s w hs) h.event h.choice
unfolding last_answered world_after
answered_behind s [] w h = refl
answered_behind s (g ∷ []) w h = refl
answered_behind s (g ∷ i ∷ hs) w h = answered_behind s (i ∷ hs) (after_event s w g.event g.choice) h

-- ---- a line whose event happens

module _ (before mid after : World) (nodes : ℕ) (line : List ℕ) (x : RecordLine) (e : Event) (asked : HasAsked before nodes line x e) (turns : TurnsClock before mid x (Ok tt)) where
  module _ (s : Setting) (w : WorldState) (at : IsAt before nodes s w) (t : HasTurned mid s w x) where
    abbrev then : WorldState
    then = world_after s w t.clock

    abbrev happened : Choice → List Happening
    happened c = t.clock ++ came e c ∷ []

    comes : (is_so : Bool) (a : HasAnswered after s then x e is_so) → ComesTo s w x e (happened a.choice)
    unfolding IsRun
    comes is_so a = record {
      events = events_behind t.clock (came e a.choice) ∙ ap (λ (es : List Event). es ++ e ∷ []) t.is_clock;
      run = run_behind s w t.clock (came e a.choice) t.run (a.occurs, tt);
    }

    audited_by : (answered : Result Bool Fault) → IsAnswered after s then x e answered → LineAudited after nodes s w line (verdict_of answered)
    audited_by (Ok true) a = record {
      meant = x;
      happened = happened a.choice;
      holds = record {
        event = e;
        asks = line_asks before nodes line x s w at e asked;
        comes = comes true a;
        answer = answered_behind s t.clock w (came e a.choice) ∙ a.same.0 refl;
      };
      is_at = record { stands = subst (λ (v : WorldState). StandsFor after s v) (sym (after_behind s w t.clock (came e a.choice))) a.stands; count = at.count };
    }
    audited_by (Ok false) a = record {
      meant = x;
      event = e;
      asks = line_asks before nodes line x s w at e asked;
      happened = happened a.choice;
      comes = comes false a;
      other = λ same. no_truth (a.same.1 (sym (answered_behind s t.clock w (came e a.choice)) ∙ same));
    }
    audited_by (Err fault.TooMuch) a = record { meant = x; event = e; asks = line_asks before nodes line x s w at e asked; clock = t.clock; is_clock = t.is_clock; run = t.run; overflows = a }
    audited_by (Err fault.OutOfMemory) a = tt
    audited_by (Err fault.BadRecord) a = absurd a
    audited_by (Err fault.NotSent) a = absurd a
    audited_by (Err fault.NotAgent) a = absurd a
    audited_by (Err fault.NotStep) a = absurd a

  pub event_audits : (answered : Result Bool Fault) (r : Result (Unit {0}) Fault) → AnswersEvent mid after x e answered → r ≡ verdict_of answered → AuditsLine before after nodes line r
  event_audits answered r answers is = λ s w at.
      let t : HasTurned mid s w x = turns s w at.stands in
      subst (λ (v : Result (Unit {0}) Fault). LineAudited after nodes s w line v) (sym is)
      (audited_by s w at t answered (answers s (world_after s w t.clock) t.stands (line_fits before nodes line x s w at e asked)))

-- a clock that wants memory
turned_starved : (after : World) (nodes : ℕ) (line : List ℕ) (x : RecordLine) (s : Setting) (w : WorldState) (f : Fault) → ClockTurned after s w x (Err f) → LineAudited after nodes s w line (Err f)
turned_starved after nodes line x s w fault.OutOfMemory h = tt
turned_starved after nodes line x s w fault.TooMuch h = absurd h
turned_starved after nodes line x s w fault.BadRecord h = absurd h
turned_starved after nodes line x s w fault.NotSent h = absurd h
turned_starved after nodes line x s w fault.NotAgent h = absurd h
turned_starved after nodes line x s w fault.NotStep h = absurd h

pub clock_fails : (before after : World) (nodes : ℕ) (line : List ℕ) (x : RecordLine) (f : Fault) → TurnsClock before after x (Err f) → AuditsLine before after nodes line (Err f)
clock_fails before after nodes line x f turns = λ s w at. turned_starved after nodes line x s w f (turns s w at.stands)
