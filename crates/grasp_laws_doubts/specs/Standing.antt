-- How the doubters of a network stand with it.
use Rattle.std.specs.Prelude.{◌≡◌, ℕ, List, Some}
use Rattle.grasp_doubter.specs.Questions.{doubt_name}
use Rattle.grasp_doubter.specs.States.{DoubterState}
use Rattle.grasp_laws_owned.specs.Owned.{AreOwnedBy}
use Rattle.grasp_laws_owned.specs.Serving.{Serves}
use Rattle.grasp_model_network.specs.Setting.{numbered}
use Rattle.grasp_model_network.specs.World.{Seat, WorldState, seat_at}
use Rattle.grasp_model_node.specs.Node.{NodeState}

-- P holds of the number of each node, of how the node and its agents stand, and of its doubter
abbrev pub OfEachDoubter : (ℕ → Seat → DoubterState → Type 0) → WorldState → List DoubterState → Type 0
OfEachDoubter P w ds = (node : ℕ) (seat : Seat) → seat_at w node ≡ Some seat → (d : DoubterState) → numbered ds node ≡ Some d → P node seat d

-- agent 2 has PrefixDoubt with the flag F_NEG, listens for it, and alone has an objective of this name; and each session that was ever made is
-- whose it may be
pub record ServesDoubts (n : NodeState) : Type 0 where
  pub serves : Serves 2 doubt_name 2 n
  pub owned : AreOwnedBy 2 doubt_name n.sessions

-- so it is at each node
abbrev pub ServeStand : WorldState → Type 0
ServeStand w = (node : ℕ) (seat : Seat) → seat_at w node ≡ Some seat → ServesDoubts seat.core
