-- What goes out for a message along ways.
use Rattle.std.proofs.Common.{◌≡◌, ℕ, List, [], ◌∷◌, ◌++◌, map, None, Some, refl, sym, ap, ◌∙◌}
use Rattle.std.proofs.lemmas.List.{map-append}
use Rattle.grasp_cbor.specs.DataItem.{DataItem}
use Rattle.grasp_types.specs.declared.message.Message.{Message}
use Rattle.grasp_types.specs.declared.session.Kind.{Kind}
use Rattle.grasp_types.specs.declared.traffic.Output.{Output}
use Rattle.grasp_types.specs.declared.traffic.Output.TheVariants as output
use Rattle.grasp_model_node.specs.FloodCalls.{to_all, discovery_message, begun, flood_message}
use Rattle.grasp_model_node.specs.Moves.{with_discoveries, with_draw, queue_up}
use Rattle.grasp_model_node.specs.Node.{NodeState}
use Rattle.grasp_core.specs.Outgoing.{searched, flood_of}
use Rattle.grasp_model_node.specs.Queue.{Queued, encoding, output_of, along, all_ways}
use Rattle.grasp_core.specs.Stands.{NodeStands}
use Rattle.grasp_model_node.specs.Tests.{owned_flags}
use Rattle.grasp_core.specs.declared.node_core.NodeCore.{NodeCore}
use Rattle.grasp_model_node.specs.declared.way.Way.{Way}

one_each : (m : Message) (ways : List Way) → map (λ (way : Way). output.Datagram way.link way.to (encoding m)) ways ≡ map output_of (along m ways)
one_each m [] = refl
one_each m (way ∷ ways) = ap (λ rest. output.Datagram way.link way.to (encoding m) ∷ rest) (one_each m ways)

-- a datagram with the encoding along each way of a node
pub along_outputs : (core : NodeCore) (n : NodeState) (m : Message) (bytes : List ℕ) (outputs : List Output) → NodeStands core n → bytes ≡ encoding m → outputs ≡ map (λ (way : Way). output.Datagram way.link way.to bytes) core.ways.items → outputs ≡ map output_of (along m (all_ways n.plan.links))
along_outputs core n m bytes outputs h b o = o ∙ (rw (b, h.ways) (one_each m (all_ways n.plan.links)))

-- more in the queue
pub queued : (before : List Output) (queue more : List Queued) (outputs : List Output) → before ≡ map output_of queue → outputs ≡ map output_of more → before ++ outputs ≡ map output_of (queue ++ more)
queued before queue more outputs a b = rw (a, b) (sym (map-append output_of queue more))

-- the message of a search, and what it changes
pub begun_is : (n : NodeState) (asa : ℕ) (name : List ℕ) (kind : Kind) (loops timeout : ℕ) → searched n asa kind timeout (discovery_message n name kind loops) ≡ begun n asa name kind loops timeout
unfolding with_draw with_discoveries
begun_is n asa name kind loops timeout = refl

-- the message of a flood
pub flood_is : (n : NodeState) (asa : ℕ) (name : List ℕ) (value : DataItem) (ttl loops flags : ℕ) → owned_flags n asa name ≡ Some flags
    → flood_of n ttl (record { objective = record { name = name; flags = flags; loops = loops; value = Some value }; locator = None }) ≡ flood_message n asa name value ttl loops
flood_is n asa name value ttl loops flags f = rw f refl

-- what a flood changes: one more word is drawn, and its message is queued along every way
pub flooded_is : (n : NodeState) (m : Message) → queue_up (with_draw n) (along m (all_ways n.plan.links)) ≡ to_all (with_draw n) m
unfolding with_draw
flooded_is n m = refl
