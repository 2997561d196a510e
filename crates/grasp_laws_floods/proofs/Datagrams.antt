-- What is so after a datagram, where it is so after each discovery and each flood: no other message does anything.
use Rattle.std.proofs.Common.{◌≡◌, refl, ℕ, List, Option, Some, None}
use Rattle.grasp_model_node.specs.Datagrams.{after_discovery, after_flood, datagram_of, datagram_by, after_datagram}
use Rattle.grasp_model_node.specs.Hear.{neighbour_at}
use Rattle.grasp_model_node.specs.Node.{NodeState}
use Rattle.grasp_discovery.specs.declared.answers.Cause.{Cause}
use Rattle.grasp_types.specs.declared.address.Address.{Address}
use Rattle.grasp_types.specs.declared.flood.FloodPart.{FloodPart}
use Rattle.grasp_types.specs.declared.links.Neighbour.{Neighbour}
use Rattle.grasp_types.specs.declared.message.Message.{Message}
use Rattle.grasp_types.specs.declared.message.Message.TheVariants.{Discovery, Flood}
use Rattle.grasp_types.specs.declared.objective.Objective.{Objective}

-- P holds after the message, where this is a discovery or a flood
pub record AfterMessage (P : NodeState → Type 0) (n : NodeState) (m : Option Message) : Type 0 where
  pub after_discoveries : (cause : Cause) (neighbour : Neighbour) (session : ℕ) (initiator : Address) (o : Objective) → m ≡ Some (Discovery session initiator o)
      → P (after_discovery n cause neighbour session initiator o)
  pub after_floods : (link session : ℕ) (initiator : Address) (ttl : ℕ) (parts : List FloodPart) → m ≡ Some (Flood session initiator ttl parts) → P (after_flood n link session initiator ttl parts)

module _ (P : NodeState → Type 0) (n : NodeState) (p : P n) where
  of_message : (cause : Cause) (neighbour : Neighbour) (m : Option Message) → AfterMessage P n m → P (datagram_of n cause neighbour m)
  of_message cause neighbour (Some (Discovery session initiator o)) a = a.after_discoveries cause neighbour session initiator o refl
  of_message cause neighbour (Some (Flood session initiator ttl parts)) a = a.after_floods cause.link session initiator ttl parts refl
  of_message cause neighbour _ a = p

  by_message : (cause : Cause) (m : Option Message) (neighbour : Option Neighbour) → AfterMessage P n m → P (datagram_by n cause m neighbour)
  by_message cause m None a = p
  by_message cause m (Some neighbour) a = of_message cause neighbour m a

  pub datagram_so : (link from : ℕ) (m : Option Message) → AfterMessage P n m → P (after_datagram n link from m)
  unfolding after_datagram
  datagram_so link from m a = by_message (record { link = link; from = from }) m (neighbour_at n link from) a
