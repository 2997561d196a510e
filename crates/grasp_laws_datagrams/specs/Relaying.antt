-- Where a message that a node sends on goes: along each way to another link.
use Rattle.std.specs.Prelude.{◌≡◌, ◌≢◌, ◌↔◌, ◌++◌, ℕ, List, length, map, Contains}
use Rattle.grasp_laws_node.specs.Means.{Fits}
use Rattle.grasp_laws_node.specs.Relays.{IsWay}
use Rattle.grasp_model_node.specs.Node.{NodeState}
use Rattle.grasp_model_node.specs.Queue.{Queued, datagram, along, other_ways}
use Rattle.grasp_model_node.specs.declared.way.Way.{Way}
use Rattle.grasp_types.specs.declared.links.Neighbour.{Neighbour}
use Rattle.grasp_types.specs.declared.message.Message.{Message}

-- the other ways of a link are just those to each neighbour of every other link
abbrev pub OtherWaysAreOther : Type 0
OtherWaysAreOther = (link : ℕ) (links : List (List Neighbour)) (way : Way) → Contains (other_ways link links) way ↔ (IsWay links way × (way.link ≢ link))

-- what goes along ways: a datagram with the message to each way's neighbour on its link, in order
abbrev pub to_each : Message → List Way → List Queued
to_each m ways = map (λ way. datagram way.link way.to m) ways

-- what a message is queued as along ways, wherever a law says `along`
abbrev pub EachWayIsTaken : Type 0
EachWayIsTaken = (m : Message) (ways : List Way) → along m ways ≡ to_each m ways

-- a datagram along each way to another link is queued, behind all others, where the message fits and there is room for all of them, and none elsewhere
pub record IsRelayed (n : NodeState) (link : ℕ) (m : Message) (after : NodeState) : Type 0 where
  pub sent : Fits n m (length (other_ways link n.plan.links)) → after ≡ record n { queue = n.queue ++ to_each m (other_ways link n.plan.links) }
  pub lost : ¬ Fits n m (length (other_ways link n.plan.links)) → after ≡ n
