-- The nodes of the audit's own network.
use Rattle.std.proofs.Common.{◌≡◌, sym, ap, ◌∙◌, subst, ℕ, length, Some}
use Rattle.grasp_core.specs.Stands.{NodeStands}
use Rattle.grasp_core.specs.declared.node_core.NodeCore.{NodeCore}
use Rattle.grasp_model_node.specs.Node.{NodeState}
use Rattle.grasp_laws_network.proofs.GoodPlans.{member_count}
use Rattle.grasp_laws_network.proofs.Lists.{numbered_there}
use Rattle.grasp_laws_network.proofs.LivesKept.{lives_are_kept}
use Rattle.grasp_model_audit.specs.Naming.{reading_in, reading_of}
use Rattle.grasp_model_network.specs.Plans.{IsNode}
use Rattle.grasp_model_network.specs.Setting.{Setting, script_setting}
use Rattle.grasp_model_network.specs.World.{Seat, WorldState, present_life, seat_at}
use Rattle.grasp_model_network.specs.declared.plan.WorldPlan.{WorldPlan}
use Rattle.grasp_record.specs.Records.{IsRecord}
use Rattle.grasp_record.specs.declared.line.RecordLine.{RecordLine}
use Rattle.grasp_simulator.proofs.SeatLists.{peers_count}
use Rattle.grasp_simulator.specs.Contract.{going}
use Rattle.grasp_simulator.specs.Lending.{StandsFor}
use Rattle.grasp_simulator.specs.WorldStands.{HasNode, LendsCore}
use Rattle.grasp_simulator.specs.declared.world.World.{World}
use Rattle.grasp_audit.specs.Standing.{HasLine}

-- ---- how many nodes there are

pub plan_members : (p : WorldPlan) → length (script_setting p).members ≡ p.nodes
unfolding script_setting
plan_members p = member_count p

-- as many as there are peers
pub peers_here : (code : World) (s : Setting) (w : WorldState) → StandsFor code s w → length s.peers ≡ length s.members
peers_here code s w h = subst (λ (x : Setting). length x.peers ≡ length x.members) (sym h.stands.goes.keeps.setting) (peers_count code.plan ∙ sym (plan_members code.plan))

-- as many in each network for which the code goes on
pub same_count : (code : World) (s t : Setting) (w v : WorldState) → StandsFor code s w → StandsFor code t v → length s.members ≡ length t.members
same_count code s t w v h k =
    let one : length code.seats.items ≡ length s.members = h.count in
    let other : length code.seats.items ≡ length t.members = k.count in
    sym one ∙ other

-- ---- nodes

-- the present life of the node of a number
pub record IsThere (w : WorldState) (node : ℕ) : Type 0 where
  pub seat : Seat
  pub here : seat_at w (present_life w node) ≡ Some seat

pub node_there : (code : World) (s : Setting) (w : WorldState) (node : ℕ) → StandsFor code s w → IsNode (length s.members) node → IsThere w node
node_there code s w node h n =
    let found = numbered_there w.seats (present_life w node) ((lives_are_kept s w h.stands.goes.reached).present node n) in
    record { seat = found.0; here = found.1 }

pub has_node : (code : World) (s : Setting) (w : WorldState) (node : ℕ) → StandsFor code s w → IsNode (length s.members) node → HasNode code node
has_node code s w node h n = record { network = record { setting = s; standing = going w }; stands = h; is_node = n }

-- ---- the node of a line

pub node_of_line : (code : World) (x : RecordLine) → HasLine code x → HasNode code x.node
node_of_line code x h = has_node code h.setting h.network x.node h.stands h.ranges.node

-- it is a node of each network for which the code goes on, in whose ranges the line is
pub line_ranges : (code : World) (x : RecordLine) (s : Setting) (w : WorldState) → HasLine code x → StandsFor code s w → IsRecord (length s.members) x
line_ranges code x s w h stands = subst (λ (n : ℕ). IsRecord n x) (same_count code h.setting s h.network w h.stands stands) h.ranges

pub line_there : (code : World) (x : RecordLine) (s : Setting) (w : WorldState) → HasLine code x → StandsFor code s w → IsThere w x.node
line_there code x s w h stands = node_there code s w x.node stands (line_ranges code x s w h stands).node

-- ---- its reading

pub own_reading : (code : World) (s : Setting) (w : WorldState) (node own : ℕ) (core : NodeCore) → StandsFor code s w → IsNode (length s.members) node → LendsCore code node core
    → ((n : NodeState) → NodeStands core n → own ≡ n.reading) → reading_of w node ≡ own
own_reading code s w node own core h n lends reads =
    let there : IsThere w node = node_there code s w node h n in
    ap reading_in there.here ∙ sym (reads there.seat.core (lends s w there.seat (record { stands = h; here = there.here })))
