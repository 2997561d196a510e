-- A network in which each node has a doubter.
use Rattle.std.specs.Prelude.{ℕ, ◌-◌, List, Option, None, Some, slice_set}
use Rattle.grasp_doubter.specs.States.{DoubterState}
use Rattle.grasp_model_network.specs.Setting.{numbered}
use Rattle.grasp_model_network.specs.World.{Seat, WorldState, present_life, seat_at}

-- the network, and the doubter of each member
pub record DoubtState : Type 0 where
  pub world : WorldState
  pub doubters : List DoubterState

-- the doubter of this member
abbrev pub doubter_at : DoubtState → ℕ → Option DoubterState
doubter_at x node = numbered x.doubters node

-- the doubters, of which that of this member is another one
abbrev pub with_doubter : List DoubterState → ℕ → DoubterState → List DoubterState
with_doubter ds node d = slice_set ds (node - 1) d

-- a member in its present life
abbrev pub present_seat : WorldState → ℕ → Option Seat
present_seat w node = seat_at w (present_life w node)
