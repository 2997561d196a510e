-- The lines of a script behind its header: what each is, and its words. The layout is this project's own.
use Rattle.std.specs.Prelude.{◌≡◌, ℕ, ◌<◌, ◌^◌, Bool, true, false, List, [], ◌∷◌, codes, decimal}
use Rattle.std.specs.Str.{IsUtf8}
use Rattle.grasp_text.specs.Line.{prefix_word}
use Rattle.grasp_text.specs.Words.{words_of}
use Rattle.grasp_types.specs.Prefix.{IsPrefix}
use Rattle.grasp_model_network.specs.Events.{AreLengths}
use Rattle.grasp_model_network.specs.Plans.{IsNode}
use Rattle.grasp_model_network.specs.declared.event.Event.{Event}
use Rattle.grasp_model_network.specs.declared.event.Event.TheVariants as event
use Rattle.grasp_script.specs.Calls.{call_words, IsCall, may_call}
use Rattle.grasp_script.specs.declared.line.LineAct.{LineAct}
use Rattle.grasp_script.specs.declared.line.LineAct.TheVariants as act

-- a side of a stream: that of the node which was dialled, or that of the one which dialled
abbrev pub side_word : Bool → List ℕ
side_word true = codes "far"
side_word false = codes "near"

-- the line of an event behind which nothing is sent begins with `hold`
abbrev pub held : Bool → List (List ℕ) → List (List ℕ)
held true words = codes "hold" ∷ words
held false words = words

-- the words of an event's line
abbrev pub event_words : Event → List (List ℕ)
event_words (event.Clock node millis) = codes "clock" ∷ decimal node ∷ decimal millis ∷ []
event_words (event.Want node length longest peer) = codes "want" ∷ decimal node ∷ decimal length ∷ decimal longest ∷ decimal peer ∷ []
event_words (event.Return node prefix peer) = codes "return" ∷ decimal node ∷ prefix_word prefix ∷ decimal peer ∷ []
event_words (event.Agent node hold) = held hold (codes "agent" ∷ decimal node ∷ [])
event_words (event.Api node asa call hold) = held hold (codes "api" ∷ decimal node ∷ decimal asa ∷ call_words call)
event_words (event.Datagram index hold) = held hold (codes "datagram" ∷ decimal index ∷ [])
event_words (event.Arrive stream hold) = held hold (codes "arrive" ∷ decimal stream ∷ [])
event_words (event.Bytes stream far count hold) = held hold (codes "bytes" ∷ decimal stream ∷ side_word far ∷ decimal count ∷ [])
event_words (event.Cut stream far hold) = held hold (codes "cut" ∷ decimal stream ∷ side_word far ∷ [])
event_words (event.Drain node max) = codes "drain" ∷ decimal node ∷ decimal max ∷ []

-- the words of a line: an event, or a node whose state is shown
abbrev pub act_words : LineAct → List (List ℕ)
act_words (act.Event e) = event_words e
act_words (act.State node) = codes "state" ∷ decimal node ∷ []

-- each part of the event is within its range, the nodes that it names are nodes of the script, and it is one that may come
abbrev pub IsEvent : ℕ → Event → Type 0
IsEvent nodes (event.Clock node millis) = IsNode nodes node × (millis < 2 ^ 64)
IsEvent nodes (event.Want node length longest peer) = IsNode nodes node × AreLengths length longest × IsNode nodes peer
IsEvent nodes (event.Return node prefix peer) = IsNode nodes node × IsPrefix prefix.address prefix.length × IsNode nodes peer
IsEvent nodes (event.Agent node hold) = IsNode nodes node
IsEvent nodes (event.Api node asa call hold) = IsNode nodes node × (asa < 2 ^ 32) × IsCall nodes call × (may_call asa call ≡ true)
IsEvent nodes (event.Datagram index hold) = index < 2 ^ 64
IsEvent nodes (event.Arrive stream hold) = stream < 2 ^ 64
IsEvent nodes (event.Bytes stream far count hold) = (stream < 2 ^ 64) × (count < 2 ^ 64)
IsEvent nodes (event.Cut stream far hold) = stream < 2 ^ 64
IsEvent nodes (event.Drain node max) = IsNode nodes node × (max < 2 ^ 32)

abbrev pub IsAct : ℕ → LineAct → Type 0
IsAct nodes (act.Event e) = IsEvent nodes e
IsAct nodes (act.State node) = IsNode nodes node

-- the line, in a script of so many nodes, means this: it is a text whose words, which stand between single blanks, are these
pub record IsLine (nodes : ℕ) (line : List ℕ) (a : LineAct) : Type 0 where
  pub ranges : IsAct nodes a
  pub text : IsUtf8 line
  pub spelled : words_of line ≡ act_words a

-- the line means nothing
abbrev pub IsNoLine : ℕ → List ℕ → Type 0
IsNoLine nodes line = (a : LineAct) → ¬ IsLine nodes line a
