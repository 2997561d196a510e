-- Inside: what a settling and a restart need and leave.
use Rattle.std.specs.Prelude.{◌≡◌, ◌==◌, ◌||◌, ◌++◌, not, ℕ, Bool, false, List, Option, None, Some}
use Rattle.std.specs.List.{AllZip}
use Rattle.grasp_core.specs.Stands.{NodeStands}
use Rattle.grasp_model_network.specs.Offers.{is_listed, is_same_prefix}
use Rattle.grasp_model_network.specs.Restarting.{MayRestart, after_restart}
use Rattle.grasp_model_network.specs.Setting.{Setting}
use Rattle.grasp_model_network.specs.World.{WorldState}
use Rattle.grasp_model_node.specs.Node.{NodeState}
use Rattle.grasp_pool.specs.Holdings.{Holding}
use Rattle.grasp_pool.specs.declared.image.PoolImage.{PoolImage}
use Rattle.grasp_types.specs.Prefix.{AddressBlock as Prefix}
use Rattle.grasp_simulator.specs.WorldStands.{GoesOn}
use Rattle.grasp_simulator.specs.declared.marks.Mark.{Mark}
use Rattle.grasp_simulator.specs.declared.notes.OfferNote.{OfferNote}
use Rattle.grasp_simulator.specs.declared.seat.Seat.{Seat as SeatCode}
use Rattle.grasp_simulator.specs.declared.world.World.{World}

-- ---- what is remembered

-- Inside: there is a prefix that is this one
abbrev pub is_it : Option Prefix → Prefix → Bool
is_it None p = false
is_it (Some q) p = is_same_prefix p q

-- Inside: the note is one of another node, or of a prefix that the pool has reserved or in doubt
abbrev pub stays_noted : ℕ → Holding → OfferNote → Bool
stays_noted node h n = not (n.node == node) || is_listed h n.prefix

-- ---- marks

-- Inside: the mark says how many streams the code's node has dialled in its life when this node begins anew
pub record IsMarkOf (node : ℕ) (code : SeatCode) (m : Mark) : Type 0 where
  pub life : m.life ≡ code.life
  pub node_is : m.node ≡ node
  pub dialled : (n : NodeState) → NodeStands code.core n → m.dialled ≡ n.streams.dialled

-- Inside: such marks of each of these joined the others
pub record AreMarked (codes : List SeatCode) (node : ℕ) (before after : List Mark) : Type 0 where
  pub added : List Mark
  pub are : after ≡ before ++ added
  pub each : AllZip (IsMarkOf node) codes added

-- ---- a restart

-- Inside: for each network for which the code goes on, and in which the node may begin anew, it goes on for the network after that
abbrev pub BeginsAnew : World → World → ℕ → PoolImage → Type 0
BeginsAnew before after node image = (s : Setting) (w : WorldState) → GoesOn before s w → MayRestart s w node image → GoesOn after s (after_restart s w node image)
