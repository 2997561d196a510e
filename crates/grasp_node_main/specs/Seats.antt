-- An agent at its place.
use Rattle.std.specs.Prelude.{◌≡◌, ◌≤◌, ◌+◌, ℕ, false, List, length, slice_get, Some, None}
use Rattle.grasp_shared.specs.History.{History, own_calls}
use Rattle.grasp_node_main.specs.Workers.{AreCallsOf, after_calls}
use Rattle.grasp_node_main.specs.declared.seated_agent.SeatedAgent.{SeatedAgent}
use Rattle.grasp_node_main.specs.declared.worker.Worker.{Worker}

-- an agent that may make its first call
abbrev pub first_seat : Worker → SeatedAgent
first_seat w = record { worker = w; stopped = false; pass = None }

-- The calls are the first that the agent makes, at most so many. Unless it has stopped they are just so many, and it is as they left
-- it.
pub record SeatStands (w : Worker) (calls : History) (count : ℕ) (s : SeatedAgent) : Type 0 where
  pub calls_are : AreCallsOf w calls
  pub most : length calls ≤ count
  pub going : s.stopped ≡ false → (length calls ≡ count) × (s.worker ≡ after_calls w calls)

-- each agent stands so with its own calls of the history
pub record SeatsStand (crew : List Worker) (history : History) (count : ℕ) (seats : List SeatedAgent) : Type 0 where
  pub same : length seats ≡ length crew
  pub each : (place : ℕ) (w : Worker) (s : SeatedAgent) → slice_get crew place ≡ Some w → slice_get seats place ≡ Some s → SeatStands w (own_calls (place + 1) history) count s
