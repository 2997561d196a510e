-- What a round exchanges with the links.
use Rattle.std.specs.Prelude.{◌≡◌, ℕ, ◌||◌, Bool, true, false}
use Rattle.grasp_core.specs.declared.node_core.NodeCore.{NodeCore}
use Rattle.grasp_io.specs.declared.links.Asked.{Asked}
use Rattle.grasp_node_main.specs.Tells.{Told, TellsTurn, asked_in}
use Rattle.grasp_node_main.specs.Turns.{Asking, got, nothing, no_memory, Turn, turn_calls, asking_calls, closed_again, closings}
use Rattle.grasp_shared.specs.Adding.{Adds}
use Rattle.grasp_shared.specs.Calls.{GoesOn, answered}
use Rattle.grasp_types.specs.declared.reply.Reply.{Reply}
use Rattle.grasp_types.specs.declared.traffic.Input.{Input}
use Rattle.grasp_service_visits.specs.Calling.{is_starved}
use Rattle.grasp_service.specs.declared.exchange.Exchange.{Exchange}
use Rattle.grasp_service.specs.declared.exchange.Taken.{Taken}

-- an input came
abbrev pub has_come : Asking → Bool
has_come (got i r) = true
has_come nothing = false
has_come no_memory = false

-- the node had no memory for it
abbrev pub is_asking_starved : Asking → Bool
is_asking_starved (got i r) = is_starved r
is_asking_starved nothing = false
is_asking_starved no_memory = false

-- the node had no memory for a turn's input or its drain
abbrev pub is_turn_starved : Turn → Bool
is_turn_starved t = is_asking_starved t.asking || is_starved t.drained

-- Inside: an input went to the node
pub record GivesIn (old : NodeCore) (now : ℕ) (i : Input) (x : Taken) (new : NodeCore) : Type 0 where
  pub reply : Reply
  pub went : GoesOn old (answered now i reply) new
  pub came : x.came ≡ true
  pub away : closings x.away ≡ closed_again (got i reply)
  pub starved : x.starved ≡ is_starved reply

-- Inside: what came of asking the links went to the node
pub record TakesIn (old : NodeCore) (now : ℕ) (asked : Asked) (x : Taken) (new : NodeCore) : Type 0 where
  pub asking : Asking
  pub asked_is : asked ≡ asked_in asking
  pub adds : Adds old (asking_calls now asking) new
  pub came : x.came ≡ has_come asking
  pub away : closings x.away ≡ closed_again asking
  pub starved : x.starved ≡ is_asking_starved asking

-- a turn was made
pub record Exchanged (wait : ℕ) (old : NodeCore) (before : Told) (x : Exchange) (new : NodeCore) (after : Told) : Type 0 where
  pub turn : Turn
  pub reading : x.reading ≡ turn.now
  pub came : x.came ≡ has_come turn.asking
  pub starved : x.starved ≡ is_turn_starved turn
  pub adds : Adds old (turn_calls turn) new
  pub tells : TellsTurn wait before turn after
