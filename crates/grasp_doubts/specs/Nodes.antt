-- How the code of a network and the doubter of a node go on, and the events of that node.
use Rattle.std.specs.Prelude.{◌≡◌, ℕ, Bool, length, Option, None, Some, Result, Ok, Err}
use Rattle.grasp_doubter.specs.Calls as doubter
use Rattle.grasp_doubter.specs.Seeing.{after_saw}
use Rattle.grasp_doubter.specs.States.{DoubterState}
use Rattle.grasp_doubter.specs.declared.asking.AskFault.{AskFault}
use Rattle.grasp_pool.specs.Holdings.{Holding}
use Rattle.grasp_types.specs.Prefix.{AddressBlock as Prefix}
use Rattle.grasp_model_network.specs.Events.{MayStop, Occurs, after_event}
use Rattle.grasp_model_network.specs.Plans.{IsNode}
use Rattle.grasp_model_network.specs.Ranges.{IsCall}
use Rattle.grasp_model_network.specs.Reports.{report_of}
use Rattle.grasp_model_network.specs.Setting.{Setting, numbered}
use Rattle.grasp_model_network.specs.Settling.{IsDead}
use Rattle.grasp_model_network.specs.Visits.{Choice}
use Rattle.grasp_model_network.specs.World.{WorldState}
use Rattle.grasp_model_network.specs.declared.event.Event.TheVariants as event
use Rattle.grasp_model_network.specs.declared.report.Report.{Report}
use Rattle.grasp_model_network.specs.declared.report.Report.TheVariants as report
use Rattle.grasp_model_network.specs.declared.report.WorldStop.{WorldStop}
use Rattle.grasp_model_doubts.specs.Runs.{IsDoubted}
use Rattle.grasp_model_doubts.specs.Steps.{after_asking, after_doubter_call, after_plain, asking_reply, doubter_event, settled_where, taken_at}
use Rattle.grasp_model_doubts.specs.World.{DoubtState, with_doubter}
use Rattle.grasp_simulator.specs.Contract.{Network, going}
use Rattle.grasp_simulator.specs.WorldStands.{WorldStands}
use Rattle.grasp_simulator.specs.declared.world.World.{World}

-- a network that goes on
abbrev pub network_at : Setting → WorldState → Network
network_at s w = record { setting = s; standing = going w }

-- ---- a node and its doubter

-- Inside: the code stands for the network, to which events have led, and this is the doubter of the node
pub record NodeGoes (world : World) (doubter : DoubterState) (s : Setting) (x : DoubtState) (node : ℕ) : Type 0 where
  pub stands : WorldStands world (network_at s x.world)
  pub doubted : IsDoubted s x
  pub member : IsNode (length s.members) node
  pub here : numbered x.doubters node ≡ Some doubter

-- Inside: for some network with its doubters
pub record HasDoubter (world : World) (doubter : DoubterState) (node : ℕ) : Type 0 where
  pub setting : Setting
  pub state : DoubtState
  pub goes : NodeGoes world doubter setting state node

-- ---- a call of its agent of prefixes

-- Inside: the doubter is told of what was reported
abbrev pub after_report : DoubterState → Holding → Report → DoubterState
after_report d pool (report.Agent call reply) = after_saw d pool call reply
after_report d pool _ = d

-- Inside: the call came out so, the code stands for the network after it, and the doubter has seen it
pub record CallSeen (world : World) (doubter : DoubterState) (s : Setting) (x : DoubtState) (node : ℕ) (hold : Bool) (told : Report) : Type 0 where
  pub choice : Choice
  pub occurs : Occurs s x.world (event.Agent node hold) choice
  pub report_is : told ≡ report_of s x.world (event.Agent node hold) choice
  pub stands : WorldStands world (network_at s (after_event s x.world (event.Agent node hold) choice))
  pub doubters : (after_plain s x (event.Agent node hold) choice).doubters ≡ with_doubter x.doubters node doubter

-- Inside: or it may stop the network for this
abbrev pub SeeingAnswers : World → DoubterState → Setting → DoubtState → ℕ → Bool → Result Report WorldStop → Type 0
SeeingAnswers world doubter s x node hold (Ok told) = CallSeen world doubter s x node hold told
SeeingAnswers world doubter s x node hold (Err why) = MayStop s x.world (event.Agent node hold) why

-- Inside: for each network with its doubters
abbrev pub SeesCall : World → World → DoubterState → DoubterState → ℕ → Bool → Result Report WorldStop → Type 0
SeesCall before after old new node hold result = (s : Setting) (x : DoubtState) → NodeGoes before old s x node → SeeingAnswers after new s x node hold result

-- ---- a call of the doubter

-- Inside: each doubter's next call is within the ranges of what calls carry
abbrev pub CallsFit : Type 0
CallsFit = (s : Setting) (x : DoubtState) → IsDoubted s x → (node : ℕ) → IsNode (length s.members) node → (d : DoubterState) → numbered x.doubters node ≡ Some d → IsCall (doubter.next_call d)

-- Inside: what a call's report tells is a reply
abbrev pub IsReply : Report → Type 0
IsReply (report.Reply reply) = Unit {0}
IsReply _ = ⊥

-- Inside: the call came out so, the code stands for the network after it and after what the doubter then settles, and the doubter has taken the reply
pub record DoubterCalled (world : World) (old new : DoubterState) (s : Setting) (x : DoubtState) (node : ℕ) (told : Report) : Type 0 where
  pub choice : Choice
  pub occurs : Occurs s x.world (doubter_event old node) choice
  pub report_is : told ≡ report.Agent (doubter.next_call old) choice.reply
  pub stands : WorldStands world (network_at s (settled_where (after_doubter_call s x.world node old choice) node (taken_at s x.world node old choice).settled))
  pub taken : new ≡ (taken_at s x.world node old choice).after

-- Inside: or it may stop the network for this
abbrev pub CallingAnswers : World → DoubterState → DoubterState → Setting → DoubtState → ℕ → Result Report WorldStop → Type 0
CallingAnswers world old new s x node (Ok told) = DoubterCalled world old new s x node told
CallingAnswers world old new s x node (Err why) = MayStop s x.world (doubter_event old node) why

-- Inside: for each network with its doubters
abbrev pub MakesCall : World → World → DoubterState → DoubterState → ℕ → Result Report WorldStop → Type 0
MakesCall before after old new node result = (s : Setting) (x : DoubtState) → NodeGoes before old s x node → CallingAnswers after old new s x node result

-- ---- a prefix that is settled

-- Inside: the code stands for the network, in which the prefix is dead
pub record MaySettle (world : World) (s : Setting) (w : WorldState) (node : ℕ) (p : Prefix) : Type 0 where
  pub stands : WorldStands world (network_at s w)
  pub dead : IsDead w node p

-- Inside: for some network
pub record CanSettle (world : World) (node : ℕ) (p : Prefix) : Type 0 where
  pub setting : Setting
  pub network : WorldState
  pub may : MaySettle world setting network node p

-- Inside: for each network
abbrev pub Settles : World → World → ℕ → Prefix → Type 0
Settles before after node p = (s : Setting) (w : WorldState) → MaySettle before s w node p → WorldStands after (network_at s (settled_where w node (Some p)))

-- Inside: where there is a prefix to settle, the code stands for a network in which it is dead
abbrev pub CanSettleWhere : World → ℕ → Option Prefix → Type 0
CanSettleWhere world node None = Unit {0}
CanSettleWhere world node (Some p) = CanSettle world node p

-- Inside: the network is the same, or it is settled there
abbrev pub SettlesWhere : World → World → ℕ → Option Prefix → Type 0
SettlesWhere before after node None = after ≡ before
SettlesWhere before after node (Some p) = Settles before after node p

-- ---- a question

-- Inside: it is answered so, and this is the doubter after it
pub record AskDone (old new : DoubterState) (s : Setting) (x : DoubtState) (node : ℕ) (p : Prefix) (peer : ℕ) (answer : Result (Unit {0}) AskFault) : Type 0 where
  pub answer_is : answer ≡ asking_reply x node p
  pub doubters : (after_asking s x node p peer).doubters ≡ with_doubter x.doubters node new

-- Inside: for each network with its doubters, and a peer that is there
abbrev pub Asks : World → DoubterState → DoubterState → ℕ → Prefix → ℕ → Result (Unit {0}) AskFault → Type 0
Asks world old new node p peer answer = (s : Setting) (x : DoubtState) → NodeGoes world old s x node → IsNode (length s.peers) peer → AskDone old new s x node p peer answer
