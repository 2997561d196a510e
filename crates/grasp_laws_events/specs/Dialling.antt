-- Which locators a node dials: IPv6 and IPv4 addresses with TCP, and no others (RFC 8990, section 2.9.5).
use Rattle.std.specs.Prelude.{◌≡◌, ℕ, true, List, Contains}
use Rattle.grasp_model_node.specs.BoundedNodes.{IsBoundedNode}
use Rattle.grasp_model_node.specs.Node.{NodeState}
use Rattle.grasp_model_node.specs.Plan.{is_bad_plan}
use Rattle.grasp_model_node.specs.Step.{Coming, NodeStep}
use Rattle.grasp_model_node.specs.declared.plan.NodePlan.{NodePlan}
use Rattle.grasp_types.specs.declared.address.Locator.{Locator}
use Rattle.grasp_types.specs.declared.address.Locator.TheVariants.{V6, V4}
use Rattle.grasp_types.specs.declared.address.Proto.TheVariants.{Tcp}
use Rattle.grasp_types.specs.declared.call.Call.{Call}
use Rattle.grasp_types.specs.declared.call.Call.TheVariants as call
use Rattle.grasp_types.specs.declared.links.Neighbour.{Neighbour}
use Rattle.grasp_types.specs.declared.refusal.ApiRefused.TheVariants as refusal
use Rattle.grasp_types.specs.declared.reply.ApiAnswer.{ApiAnswer}
use Rattle.grasp_types.specs.declared.reply.Reply.{Reply}
use Rattle.grasp_types.specs.declared.reply.Reply.TheVariants as reply
use Rattle.grasp_types.specs.declared.traffic.Input.TheVariants as input

-- an IPv6 or IPv4 address with TCP
abbrev pub IsTcpAddress : Locator → Type 0
IsTcpAddress (V6 n Tcp port) = Unit {0}
IsTcpAddress (V4 n Tcp port) = Unit {0}
IsTcpAddress _ = ⊥

-- the call asks for a session with this peer
abbrev pub AsksPeer : Locator → Call → Type 0
AsksPeer peer (call.RequestNegotiate name value loops timeout dry other) = other ≡ peer
AsksPeer peer (call.Synchronize name loops timeout other) = other ≡ peer
AsksPeer peer _ = ⊥

pub record LocatorsAreDialled : Type 0 where
  -- where the peer is such an address, no call for a session with it is refused as one with a bad locator
  pub dialled : (n after : NodeState) (now asa : ℕ) (it : Call) (x : Coming) (r : Reply) (peer : Locator) → IsBoundedNode n → IsTcpAddress peer
      → AsksPeer peer it
      → NodeStep n now (input.Api asa it) x r after → ¬ (r ≡ reply.Refused refusal.BadLocator)
  -- and where it is another one, none is answered
  pub others : (n after : NodeState) (now asa : ℕ) (it : Call) (x : Coming) (a : ApiAnswer) (peer : Locator) → IsBoundedNode n
      → ¬ IsTcpAddress peer → AsksPeer peer it
      → ¬ NodeStep n now (input.Api asa it) x (reply.Api a) after
  -- no node can be opened that listens elsewhere, or has a neighbour that does
  pub plans : (plan : NodePlan) → ¬ IsTcpAddress plan.locator → is_bad_plan plan ≡ true
  pub neighbours : (plan : NodePlan) (link : List Neighbour) (x : Neighbour) → Contains plan.links link → Contains link x
      → ¬ IsTcpAddress x.locator → is_bad_plan plan ≡ true
