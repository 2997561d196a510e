-- When a line of a record holds: it means something, names an event, and the event is answered as the line says.
use Rattle.std.specs.Prelude.{◌≡◌, ◌≤◌, ◌++◌, ℕ, List, [], ◌∷◌, Option, None, Some}
use Rattle.grasp_model_node.specs.Begin.{begin}
use Rattle.grasp_model_node.specs.Draining.{drained}
use Rattle.grasp_model_network.specs.Events.{after_event, visit_of}
use Rattle.grasp_model_network.specs.Reports.{report_of}
use Rattle.grasp_model_network.specs.Runs.{Happening, IsRun, events_of, world_after}
use Rattle.grasp_model_network.specs.Setting.{Setting}
use Rattle.grasp_model_network.specs.Visits.{Choice, Visit}
use Rattle.grasp_model_network.specs.World.{WorldState}
use Rattle.grasp_model_network.specs.declared.event.Event.{Event}
use Rattle.grasp_model_network.specs.declared.event.Event.TheVariants as event
use Rattle.grasp_script.specs.Reports.{report_words}
use Rattle.grasp_record.specs.Answers.{drained_words, told_words}
use Rattle.grasp_record.specs.Records.{IsRecordLine}
use Rattle.grasp_record.specs.declared.line.RecordLine.{RecordLine}
use Rattle.grasp_model_audit.specs.Naming.{IsOfAgent, clock_before, event_named, reading_of}

-- ---- what a line means

-- the line, in a record of so many nodes, means this: it is a line of a record, whose reading isn't below the one that its node has in this network
pub record Means (nodes : ℕ) (w : WorldState) (line : List ℕ) (x : RecordLine) : Type 0 where
  pub is_line : IsRecordLine nodes line x
  pub in_time : reading_of w x.node ≤ x.now

-- it means this and names this event: what it says that came in was sent, and comes there next
pub record Names (nodes : ℕ) (s : Setting) (w : WorldState) (line : List ℕ) (x : RecordLine) (e : Event) : Type 0 where
  pub means : Means nodes w line x
  pub named : event_named s w x ≡ Some e

-- and a call of the node's own agent is the one that the agent makes next
pub record Asks (nodes : ℕ) (s : Setting) (w : WorldState) (line : List ℕ) (x : RecordLine) (e : Event) : Type 0 where
  pub names : Names nodes s w line x e
  pub of_agent : IsOfAgent w x.node x.input

-- ---- what its events come to

-- the clock, where it shows a later reading, and the event that the line names
abbrev pub line_events : WorldState → RecordLine → Event → List Event
line_events w x e = clock_before w x ++ e ∷ []

abbrev pub gave_words : ℕ → Option Visit → List (List ℕ)
gave_words max None = []
gave_words max (Some v) = drained_words (drained (begin v.seat.core v.now) max)

-- how an event is answered, in the words of a record: that of a drain is all that the drain gives
abbrev pub answered_words : Setting → WorldState → Event → Choice → List (List ℕ)
answered_words s w (event.Drain node max) c = gave_words max (visit_of s w (event.Drain node max))
answered_words s w e c = report_words (report_of s w e c)

-- how the last of these events is answered
unfoldable pub last_answered : Setting → WorldState → List Happening → List (List ℕ)
last_answered s w [] = []
last_answered s w (h ∷ []) = answered_words s w h.event h.choice
last_answered s w (h ∷ g ∷ hs) = last_answered s (after_event s w h.event h.choice) (g ∷ hs)

-- the line's events come out so, whatever the line says of their answer
pub record ComesTo (s : Setting) (w : WorldState) (x : RecordLine) (e : Event) (hs : List Happening) : Type 0 where
  pub events : events_of hs ≡ line_events w x e
  pub run : IsRun s w hs

-- ---- lines that hold

-- the line holds in this network: it means this, its events come out so, and the last of them is answered as the line says
pub record LineHolds (nodes : ℕ) (s : Setting) (w : WorldState) (line : List ℕ) (x : RecordLine) (hs : List Happening) : Type 0 where
  pub event : Event
  pub asks : Asks nodes s w line x event
  pub comes : ComesTo s w x event hs
  pub answer : last_answered s w hs ≡ told_words x.answer

-- a line that was audited: its text, what it means, and how its events came out
pub record AuditedLine : Type 0 where
  pub text : List ℕ
  pub meant : RecordLine
  pub happened : List Happening

-- lines hold one after the other, from this network on
unfoldable pub AllHold : ℕ → Setting → WorldState → List AuditedLine → Type 0
AllHold nodes s w [] = Unit {0}
AllHold nodes s w (y ∷ ys) = LineHolds nodes s w y.text y.meant y.happened × AllHold nodes s (world_after s w y.happened) ys

-- the network after them
unfoldable pub after_lines : Setting → WorldState → List AuditedLine → WorldState
after_lines s w [] = w
after_lines s w (y ∷ ys) = after_lines s (world_after s w y.happened) ys

-- the run of their events
unfoldable pub run_of : List AuditedLine → List Happening
run_of [] = []
run_of (y ∷ ys) = y.happened ++ run_of ys

-- their texts
abbrev pub texts_of : List AuditedLine → List (List ℕ)
texts_of [] = []
texts_of (y ∷ ys) = y.text ∷ texts_of ys
