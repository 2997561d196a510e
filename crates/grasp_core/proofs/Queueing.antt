-- What is queued, as the code keeps it.
use Rattle.std.proofs.Common.{◌≡◌, ℕ, List, [], ◌∷◌, ◌++◌, length, map, take, drop, refl, sym, ap, ◌∙◌}
use Rattle.std.proofs.lemmas.List.{map-append, length-map, take-map, drop-map}
use Rattle.grasp_types.specs.declared.message.Message.{Message}
use Rattle.grasp_types.specs.declared.traffic.Output.{Output}
use Rattle.grasp_types.specs.declared.traffic.Output.TheVariants as output
use Rattle.grasp_model_node.specs.Queue.{Queued, output_of, encoding, along}
use Rattle.grasp_core.specs.Stands.{QueueStands}
use Rattle.grasp_model_node.specs.declared.way.Way.{Way}

pub queued_length : (outputs : List Output) (queue : List Queued) → QueueStands outputs queue → length outputs ≡ length queue
queued_length outputs queue h = ap length h.outputs_are ∙ length-map queue output_of

-- some more behind the others
pub queued_more : (outputs more : List Output) (queue added : List Queued) → QueueStands outputs queue → more ≡ map output_of added → QueueStands (outputs ++ more) (queue ++ added)
queued_more outputs more queue added h e = record { outputs_are = rw (h.outputs_are, e) (sym (map-append output_of queue added)) }

pub queued_along : (m : Message) (ways : List Way) → map (λ way. output.Datagram way.link way.to (encoding m)) ways ≡ map output_of (along m ways)
queued_along m [] = refl
queued_along m (way ∷ ways) = ap (λ (outputs : List Output). output.Datagram way.link way.to (encoding m) ∷ outputs) (queued_along m ways)

-- the first of them, and those behind
pub queued_first : (outputs : List Output) (queue : List Queued) (max : ℕ) → QueueStands outputs queue → take max outputs ≡ map output_of (take max queue)
queued_first outputs queue max h = ap (take max) h.outputs_are ∙ take-map output_of max queue

pub queued_rest : (outputs : List Output) (queue : List Queued) (max : ℕ) → QueueStands outputs queue → QueueStands (drop max outputs) (drop max queue)
queued_rest outputs queue max h = record { outputs_are = ap (drop max) h.outputs_are ∙ drop-map output_of max queue }
