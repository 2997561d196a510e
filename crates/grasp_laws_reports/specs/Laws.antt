-- What every network that turns lead to holds to: what polls tell, readings, and closed streams; and what the words of an agreement tell.
use Rattle.std.specs.Prelude.{◌≡◌, ◌≤◌, ℕ, List, ◌∷◌, Ok, Some, codes, slice_get}
use Rattle.grasp_model_node.specs.Begin.{begin}
use Rattle.grasp_model_node.specs.SessionCalls.{MayPollNode}
use Rattle.grasp_session.specs.Messages.{Side}
use Rattle.grasp_session.specs.Sessions.{SessionState}
use Rattle.grasp_text.specs.Line.{objective_words}
use Rattle.grasp_types.specs.declared.objective.Objective.{Objective}
use Rattle.grasp_types.specs.declared.reply.ApiAnswer.{ApiAnswer}
use Rattle.grasp_types.specs.declared.reply.ApiAnswer.TheVariants as answer
use Rattle.grasp_types.specs.declared.reply.Reply.{Reply}
use Rattle.grasp_types.specs.declared.reply.Reply.TheVariants as reply
use Rattle.grasp_types.specs.declared.session.By.{By}
use Rattle.grasp_types.specs.declared.session.Handle.{Handle}
use Rattle.grasp_types.specs.declared.session.Outcome.{Outcome}
use Rattle.grasp_types.specs.declared.session.Outcome.TheVariants as outcome
use Rattle.grasp_types.specs.declared.session.Progress.TheVariants as progress
use Rattle.grasp_model_network.specs.Events.{Occurs, after_event}
use Rattle.grasp_model_network.specs.Reports.{report_of}
use Rattle.grasp_model_network.specs.Runs.{Happening, IsReached, IsRun, world_after}
use Rattle.grasp_model_network.specs.Setting.{Setting}
use Rattle.grasp_model_network.specs.Streams.{StreamState, told_closed, side_at}
use Rattle.grasp_model_network.specs.Turns.{TakenTurn, AreTurns, after_turn, world_turned}
use Rattle.grasp_model_network.specs.Visits.{Visit, Choice}
use Rattle.grasp_model_network.specs.World.{Seat, WorldState, seat_at}
use Rattle.grasp_model_network.specs.declared.event.Event.{Event}
use Rattle.grasp_model_network.specs.declared.report.Report.{Report}
use Rattle.grasp_model_network.specs.declared.turn.Turn.{Turn}
use Rattle.grasp_script.specs.Answers.{by_word, reply_words}
use Rattle.grasp_script.specs.Reports.{report_words}
use Rattle.grasp_laws_reports.specs.Outcomes.{TellsAgreement, TellsOutcome, IsOver, WasTold, StaysClosed, reply_in}

-- the outcome that an agent is told is that of the transcript of its session, which is no longer live then
abbrev pub PollsTellOutcomes : Type 0
PollsTellOutcomes = (s : Setting) (w : WorldState) → IsReached s w → (e : Event) (c : Choice) (v : Visit) (asa : ℕ) (h : Handle) (o : Outcome)
    → TellsOutcome s w e c v asa h o → WasTold v.seat.core c.after v.now asa h o

-- whatever happens after, the session is over, and no poll of an agent at any reading is answered for its handle
pub record StaysTold (s : Setting) (w : WorldState) (v : Visit) (h : Handle) (x : SessionState) : Type 0 where
  pub over : (hs : List Happening) (seat : Seat) → IsRun s w hs → seat_at (world_after s w hs) v.node ≡ Some seat → IsOver seat.core.sessions h x
  pub unanswered : (hs : List Happening) (seat : Seat) (now asa : ℕ) (a : ApiAnswer) → IsRun s w hs → seat_at (world_after s w hs) v.node ≡ Some seat
      → ¬ MayPollNode (begin seat.core now) asa h (Ok a)

-- an outcome that an agent is told is told no more
abbrev pub OutcomesAreToldOnce : Type 0
OutcomesAreToldOnce = (s : Setting) (w : WorldState) → IsReached s w → (e : Event) (c : Choice) (v : Visit) (asa : ℕ) (h : Handle) (o : Outcome)
    → TellsOutcome s w e c v asa h o → (told : WasTold v.seat.core c.after v.now asa h o) → StaysTold s (after_event s w e c) v h told.session

-- whatever turns are taken after, it is so too
pub record StaysToldOverTurns (s : Setting) (w : WorldState) (v : Visit) (h : Handle) (x : SessionState) : Type 0 where
  pub over : (ts : List TakenTurn) (seat : Seat) → AreTurns s w ts → seat_at (world_turned s w ts) v.node ≡ Some seat → IsOver seat.core.sessions h x
  pub unanswered : (ts : List TakenTurn) (seat : Seat) (now asa : ℕ) (a : ApiAnswer) → AreTurns s w ts → seat_at (world_turned s w ts) v.node ≡ Some seat
      → ¬ MayPollNode (begin seat.core now) asa h (Ok a)

-- an outcome that an agent is told is told no more in its life, whatever is settled and whoever begins anew
abbrev pub OutcomesAreToldOnceOverTurns : Type 0
OutcomesAreToldOnceOverTurns = (s : Setting) (w : WorldState) → IsReached s w → (e : Event) (c : Choice) (v : Visit) (asa : ℕ) (h : Handle) (o : Outcome)
    → TellsOutcome s w e c v asa h o → (told : WasTold v.seat.core c.after v.now asa h o) → StaysToldOverTurns s (after_event s w e c) v h told.session

-- no event lowers a node's reading
abbrev pub ReadingsNeverFall : Type 0
ReadingsNeverFall = (s : Setting) (w : WorldState) (e : Event) (c : Choice) → Occurs s w e c
    → (node : ℕ) (before after : Seat) → seat_at w node ≡ Some before → seat_at (after_event s w e c) node ≡ Some after → before.core.reading ≤ after.core.reading

-- whatever happens, a side of a stream that was told that the stream is closed stays so, and is delivered nothing more
abbrev pub CutsAreFinal : Type 0
CutsAreFinal = (s : Setting) (w : WorldState) → IsReached s w → (e : Event) (c : Choice) → (place : ℕ) (side : Side) (t : StreamState)
    → slice_get w.streams place ≡ Some t → side_at t side ≡ told_closed
    → (u : StreamState) × (slice_get (after_event s w e c).streams place ≡ Some u) × StaysClosed side t u

-- and so whatever turn is taken
abbrev pub CutsAreFinalOverTurns : Type 0
CutsAreFinalOverTurns = (s : Setting) (w : WorldState) → IsReached s w → (turn : Turn) (c : Choice) → (place : ℕ) (side : Side) (t : StreamState)
    → slice_get w.streams place ≡ Some t → side_at t side ≡ told_closed
    → (u : StreamState) × (slice_get (after_turn s w turn c).streams place ≡ Some u) × StaysClosed side t u

-- words that begin with `ended agreed` and whose doing it was are those of a session that came to this agreement, whether of a reply or
-- of a report
pub record AgreedWordsTell : Type 0 where
  pub replies : (r : Reply) (by : By) (words : List (List ℕ)) → reply_words r ≡ codes "ended" ∷ codes "agreed" ∷ by_word by ∷ words
      → (o : Objective) × (r ≡ reply.Api (answer.Polled (progress.Ended (outcome.Agreed by o)))) × (words ≡ objective_words o)
  pub reports : (r : Report) (by : By) (words : List (List ℕ)) → report_words r ≡ codes "ended" ∷ codes "agreed" ∷ by_word by ∷ words
      → (o : Objective) × (reply_in r ≡ Some (reply.Api (answer.Polled (progress.Ended (outcome.Agreed by o))))) × (words ≡ objective_words o)

-- an event whose report's words begin so is a poll of an agent that was told this agreement
abbrev pub AgreedReportsTell : Type 0
AgreedReportsTell = (s : Setting) (w : WorldState) → IsReached s w → (e : Event) (c : Choice) → Occurs s w e c → (by : By) (words : List (List ℕ))
    → report_words (report_of s w e c) ≡ codes "ended" ∷ codes "agreed" ∷ by_word by ∷ words → TellsAgreement s w e c by words
