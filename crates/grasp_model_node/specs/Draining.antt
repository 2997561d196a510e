-- What a drain gives.
use Rattle.std.specs.Prelude.{ℕ, ◌-◌, List, [], ◌∷◌, ◌++◌, length, map, take, drop, fold}
use Rattle.grasp_types.specs.declared.traffic.Output.{Output}
use Rattle.grasp_types.specs.declared.traffic.Output.TheVariants.{Close}
use Rattle.grasp_model_node.specs.Node.{NodeState}
use Rattle.grasp_model_node.specs.Queue.{Queued, output_of}
use Rattle.grasp_model_node.specs.Streams.{closing_numbers, without}

-- the streams that a drain of so many closes: once the queue is empty, those that are closing, by rising number
abbrev pub closes_behind : NodeState → ℕ → List Queued → List ℕ
closes_behind n max [] = take (max - length n.queue) (closing_numbers n.streams)
closes_behind n max (q ∷ qs) = []

abbrev pub closes : NodeState → ℕ → List ℕ
closes n max = closes_behind n max (drop max n.queue)

-- the outputs: the queued ones in order, and then the closings
abbrev pub drained : NodeState → ℕ → List Output
drained n max = map output_of (take max n.queue) ++ map Close (closes n max)

-- what was given isn't queued any more, and a stream whose closing was given has no record any more
unfoldable pub after_drain : NodeState → ℕ → NodeState
after_drain n max = record n { queue = drop max n.queue; streams = fold without n.streams (closes n max) }
