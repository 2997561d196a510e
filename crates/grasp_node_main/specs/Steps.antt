-- What each part of the network loop adds to the root's calls, and what it tells.
use Rattle.std.specs.List.{AllByRecursion}
use Rattle.std.specs.Prelude.{◌≡◌, ◌≤◌, ℕ, List, [], ◌∷◌, ◌+◌, length, slice_get, Option, Some, Result, Ok, Err}
use Rattle.grasp_cbor.specs.declared.memory.OutOfMemory.{OutOfMemory}
use Rattle.grasp_types.specs.declared.reply.Reply.{Reply}
use Rattle.grasp_types.specs.declared.traffic.Input.{Input}
use Rattle.grasp_types.specs.declared.traffic.Input.TheVariants as input
use Rattle.grasp_model_node.specs.Node.{NodeState}
use Rattle.grasp_shared.specs.History.{History, IsLegalHistory, own_calls}
use Rattle.grasp_shared.specs.Handles.{IsRootOf, root_view, out_of}
use Rattle.grasp_shared.specs.declared.shared.Root.{Root}
use Rattle.grasp_shared.specs.declared.shared.Shared.{Shared}
use Rattle.grasp_node_main.specs.Roots.{RootMade}
use Rattle.grasp_node_main.specs.Seats.{SeatsStand}
use Rattle.grasp_node_main.specs.Sharing.{Went, IsLeft, keeps}
use Rattle.grasp_node_main.specs.Tells.{LinksTold, Told, AsksOnce, asked_in, HandsOnly, TellsTurn, TellsTurns, TellsRun}
use Rattle.grasp_node_main.specs.Turns.{Asking, got, Turn, turn_calls, all_turn_calls, loop_calls, loop_call, asking_calls, closed_again, outputs_in, closings, last_reading, NeverFall}
use Rattle.grasp_node_main.specs.declared.daemon.Daemon.{Daemon}
use Rattle.grasp_node_main.specs.declared.seated_agent.SeatedAgent.{SeatedAgent}
use Rattle.grasp_node_main.specs.declared.worker.Worker.{Worker}

-- ---- the links

-- the links were asked, and what they gave went to the node; the stream that is to be closed again, where there is one
pub record TakesIn (shared : Shared) (now wait : ℕ) (root : Root) (old : LinksTold) (away : Option ℕ) (root_after : Root) (new : LinksTold) : Type 0 where
  pub asking : Asking
  pub made : RootMade shared root (asking_calls now asking) root_after
  pub asks : AsksOnce wait old (asked_in asking) new
  pub away_is : closings away ≡ closed_again asking

-- Inside: what the links gave went to the node
pub record GivesIn (shared : Shared) (now : ℕ) (i : Input) (root : Root) (away : Option ℕ) (root_after : Root) : Type 0 where
  pub reply : Reply
  pub made : RootMade shared root (loop_call now i reply ∷ []) root_after
  pub away_is : closings away ≡ closed_again (got i reply)

-- Inside: the node was drained, and its outputs were handed over
pub record DrainsOut (shared : Shared) (now max : ℕ) (root : Root) (old : LinksTold) (root_after : Root) (new : LinksTold) : Type 0 where
  pub drained : Reply
  pub made : RootMade shared root (loop_call now (input.Drain max) drained ∷ []) root_after
  pub hands : HandsOnly old (outputs_in drained) new

-- a turn of the loop
pub record Exchanges (shared : Shared) (wait : ℕ) (root : Root) (old : Told) (now : ℕ) (root_after : Root) (new : Told) : Type 0 where
  pub turn : Turn
  pub now_is : turn.now ≡ now
  pub made : RootMade shared root (turn_calls turn) root_after
  pub tells : TellsTurn wait old turn new

-- ---- turns

-- the loop made so many turns
pub record Looped (shared : Shared) (wait count : ℕ) (root : Root) (old : Told) (now : ℕ) (root_after : Root) (new : Told) : Type 0 where
  pub turns : List Turn
  pub count_is : length turns ≡ count
  pub now_is : now ≡ last_reading 0 turns
  pub made : RootMade shared root (all_turn_calls turns) root_after
  pub tells : TellsTurns wait old turns new
  pub rising : NeverFall 0 turns

-- the node made all its turns, and its agents are now so
pub record RanSeats (from : NodeState) (crew : List Worker) (wait count : ℕ) (old : Told) (seats : List SeatedAgent) (new : Told) : Type 0 where
  pub history : History
  pub to : NodeState
  pub turns : List Turn
  pub last : Reply
  pub legal : IsLegalHistory from history to
  pub callers : AllByRecursion (λ e. e.caller ≤ length crew) history
  pub count_is : length turns ≡ count
  pub loop : own_calls 0 history ≡ loop_calls turns last
  pub tells : TellsRun wait old turns last new
  pub rising : NeverFall 0 turns
  pub agents : SeatsStand crew history count seats

-- the node made all its turns, and its agents are now so; or there was no memory, and nothing is touched
abbrev pub RunsSeats : Type 0 → NodeState → List Worker → ℕ → ℕ → Told → Result Daemon OutOfMemory → Told → Type 0
RunsSeats untouched from crew wait count old (Ok d) new = RanSeats from crew wait count old d.seats.items new
RunsSeats untouched from crew wait count old (Err fault) new = untouched

-- Inside: The same, as the root tells it once all passes were given back and the last drain was made. The passes were those of
-- `ready`.
pub record RanShared (shared : Shared) (wait count : ℕ) (old : Told) (before : Root) (olds : List SeatedAgent) (new : Told) (after : Root) (news : List SeatedAgent) : Type 0 where
  pub turns : List Turn
  pub last : Reply
  pub count_is : length turns ≡ count
  pub tells : TellsRun wait old turns last new
  pub rising : NeverFall 0 turns
  pub own : IsRootOf shared after
  pub none : out_of after ≡ 0
  pub mine : (root_view after).mine ≡ loop_calls turns last
  pub opened : (root_view after).opened ≡ (root_view before).opened
  pub ready : List SeatedAgent
  pub joined : (root_view after).joined ≡ keeps ready
  pub same_ready : length ready ≡ length olds
  pub same : length news ≡ length olds
  pub went : (place : ℕ) (s t : SeatedAgent) → slice_get olds place ≡ Some s → slice_get ready place ≡ Some t → Went count (place + 1) s t
  pub left : (place : ℕ) (s t : SeatedAgent) → slice_get ready place ≡ Some s → slice_get news place ≡ Some t → IsLeft s t
