-- A question that a node's doubter is to ask.
use Rattle.std.proofs.Common.{◌≡◌, sym, ◌∙◌, ap, ℕ, length, Option, Some, Result}
use Rattle.grasp_agent.specs.States.{AgentState}
use Rattle.grasp_doubter.specs.Asking.{after_ask, ask_reply}
use Rattle.grasp_doubter.specs.States.{DoubterState}
use Rattle.grasp_doubter.specs.declared.asking.AskFault.{AskFault}
use Rattle.grasp_types.specs.Prefix.{AddressBlock as Prefix}
use Rattle.grasp_types.specs.declared.address.Locator.{Locator}
use Rattle.grasp_model_network.specs.Plans.{IsNode}
use Rattle.grasp_model_network.specs.Setting.{Setting, numbered, script_locator}
use Rattle.grasp_model_network.specs.World.{Seat}
use Rattle.grasp_model_doubts.specs.Steps.{after_asking, asking_answer, asking_reply, doubter_asking}
use Rattle.grasp_model_doubts.specs.World.{DoubtState, present_seat, with_doubter}
use Rattle.grasp_simulator.specs.WorldStands.{HasNode, LendsAgent}
use Rattle.grasp_simulator.specs.declared.world.World.{World}
use Rattle.grasp_simulator.proofs.Told.{told_peer}
use Rattle.grasp_doubts.specs.Nodes.{Asks, HasDoubter, NodeGoes}
use Rattle.grasp_doubts.proofs.Lending.{has_node, is_lent, there}

module _ (world : World) (old new : DoubterState) (node : ℕ) (p : Prefix) (peer : ℕ) (agent : AgentState) (lends : LendsAgent world node agent) (locator : Locator) (named : locator ≡ script_locator peer)
    (answer : Result (Unit {0}) AskFault) (replies : answer ≡ ask_reply old agent.pool p) (after : new ≡ after_ask old p locator answer) where
  module _ (s : Setting) (x : DoubtState) (g : NodeGoes world old s x node) (is : IsNode (length s.peers) peer) where
    first : (seat : Seat) × (present_seat x.world node ≡ Some seat)
    first = there world s x.world node g.stands g.member

    answer_is : answer ≡ asking_reply x node p
    answer_is =
        replies
        ∙ ap (λ (a : AgentState). ask_reply old a.pool p) (is_lent world s x.world node g.stands g.member first.0 first.1 agent lends)
        ∙ sym (ap (λ (o : Option DoubterState). asking_answer o (present_seat x.world node) p) g.here ∙ ap (λ (o : Option Seat). asking_answer (Some old) o p) first.1)

    peer_is : numbered s.peers peer ≡ Some locator
    peer_is = told_peer world s peer locator g.stands.stands.goes.keeps.setting is named

    doubters_are : (after_asking s x node p peer).doubters ≡ with_doubter x.doubters node new
    unfolding after_asking
    doubters_are =
        ap (λ (o : Option Locator). doubter_asking x.doubters node p o (asking_reply x node p) (numbered x.doubters node)) peer_is
        ∙ ap (λ (o : Option DoubterState). doubter_asking x.doubters node p (Some locator) (asking_reply x node p) o) g.here
        ∙ ap (λ (d : DoubterState). with_doubter x.doubters node d) (sym (after ∙ ap (λ (r : Result (Unit {0}) AskFault). after_ask old p locator r) answer_is))

  pub asks : Asks world old new node p peer answer
  asks s x g is = record { answer_is = answer_is s x g is; doubters = doubters_are s x g is }

pub asking_node : (world : World) (old : DoubterState) (node : ℕ) → HasDoubter world old node → HasNode world node
asking_node world old node has = has_node world has.setting has.state.world node has.goes.stands has.goes.member
