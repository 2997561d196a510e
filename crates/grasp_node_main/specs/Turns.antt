-- The turns of a node's network loop: its calls, and what it hands to the links.
use Rattle.std.specs.Prelude.{◌≤◌, ℕ, Bool, true, false, if◌then◌else◌, List, [], ◌∷◌, ◌++◌, Option, None, Some}
use Rattle.grasp_types.specs.declared.reply.Reply.{Reply}
use Rattle.grasp_types.specs.declared.reply.Reply.TheVariants as reply
use Rattle.grasp_types.specs.declared.traffic.Input.{Input}
use Rattle.grasp_types.specs.declared.traffic.Input.TheVariants as input
use Rattle.grasp_types.specs.declared.traffic.Output.{Output}
use Rattle.grasp_types.specs.declared.traffic.Output.TheVariants as output
use Rattle.grasp_shared.specs.History.{Entry, History}

-- what asking the links came to: an input, with the node's reply to it, nothing, or want of memory
pub data Asking : Type 0 where
  got : Input → Reply → Asking
  nothing : Asking
  no_memory : Asking

-- a turn: the reading of the clock, what asking the links came to, and the node's reply to the drain
pub record Turn : Type 0 where
  pub now : ℕ
  pub asking : Asking
  pub drained : Reply

-- ---- the calls of the loop, which is caller 0

abbrev pub loop_call : ℕ → Input → Reply → Entry
loop_call now i r = record { caller = 0; now = now; input = i; reply = r }

-- the input that the links gave, where they gave one
abbrev pub asking_calls : ℕ → Asking → History
asking_calls now (got i r) = loop_call now i r ∷ []
asking_calls now nothing = []
asking_calls now no_memory = []

-- in a turn: that input, and then a drain of at most 64 outputs, both with the turn's reading
abbrev pub turn_calls : Turn → History
turn_calls t = asking_calls t.now t.asking ++ loop_call t.now (input.Drain 64) t.drained ∷ []

abbrev pub all_turn_calls : List Turn → History
all_turn_calls [] = []
all_turn_calls (t ∷ ts) = turn_calls t ++ all_turn_calls ts

-- the reading of the last turn, or this one where there is none
abbrev pub last_reading : ℕ → List Turn → ℕ
last_reading now [] = now
last_reading now (t ∷ ts) = last_reading t.now ts

-- the readings of the turns never fall, and the first isn't before this one
abbrev pub NeverFall : ℕ → List Turn → Type 0
NeverFall now [] = Unit {0}
NeverFall now (t ∷ ts) = (now ≤ t.now) × NeverFall t.now ts

-- the calls of the turns, and then a drain of at most 320 outputs with the last reading
abbrev pub loop_calls : List Turn → Reply → History
loop_calls ts last = all_turn_calls ts ++ loop_call (last_reading 0 ts) (input.Drain 320) last ∷ []

-- ---- what is handed to the links

-- the outputs that a drain was answered
abbrev pub outputs_in : Reply → List Output
outputs_in (reply.Outputs outputs) = outputs
outputs_in _ = []

-- the stream that a peer opened
abbrev pub opened_in : Input → Option ℕ
opened_in (input.Opened stream from) = Some stream
opened_in _ = None

-- the input was turned away, or there was no memory for it
abbrev pub is_away : Reply → Bool
is_away reply.Turned = true
is_away reply.OutOfMemory = true
is_away _ = false

abbrev pub closings : Option ℕ → List Output
closings None = []
closings (Some stream) = output.Close stream ∷ []

-- the closing of a stream whose opening was turned away, or for which there was no memory
abbrev pub closed_again : Asking → List Output
closed_again (got i r) = if is_away r then closings (opened_in i) else []
closed_again nothing = []
closed_again no_memory = []

-- in a turn: the outputs that the drain was answered, and then such a closing, which is no call of the history
abbrev pub turn_outputs : Turn → List Output
turn_outputs t = outputs_in t.drained ++ closed_again t.asking
