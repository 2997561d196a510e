-- That the node which dialled a stream is told where it arrives.
use Rattle.std.specs.Prelude.{◌≡◌, ℕ, All, Some}
use Rattle.grasp_laws_openers.specs.Told.{IsOpener, RecordTold}
use Rattle.grasp_model_network.specs.Runs.{IsReached}
use Rattle.grasp_model_network.specs.Setting.{Setting}
use Rattle.grasp_model_network.specs.World.{Seat, WorldState, end_of, seat_at}

-- in every network that turns lead to, each record of a node is that of a stream which it dialled, or tells of the node that did
abbrev pub OpenersAreTold : Type 0
OpenersAreTold = (s : Setting) (w : WorldState) → IsReached s w → (node : ℕ) (seat : Seat) → seat_at w node ≡ Some seat
    → All (RecordTold (λ number a. IsOpener s w (end_of node number) a)) seat.core.streams.records
