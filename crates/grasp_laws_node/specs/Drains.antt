-- What a drain gives: what is queued in order, and the closings behind it, each of which is given once.
use Rattle.std.specs.Prelude.{◌≡◌, ◌≢◌, ◌≤◌, ◌<◌, ◌+◌, ◌++◌, ℕ, [], length, map, take, drop, All, AllPairs, None}
use Rattle.grasp_types.specs.declared.traffic.Output.TheVariants.{Close}
use Rattle.grasp_model_node.specs.Draining.{closes, drained, after_drain}
use Rattle.grasp_model_node.specs.Node.{NodeState}
use Rattle.grasp_model_node.specs.Queue.{output_of}
use Rattle.grasp_model_node.specs.BoundedNodes.{IsBoundedNode}
use Rattle.grasp_model_node.specs.Streams.{closing_numbers, record_of}

-- at most so many outputs: the queued ones in order, what is left of them stays queued, and closings come only where
-- nothing is left
pub record GivesInOrder (n : NodeState) (max : ℕ) : Type 0 where
  pub few : length (drained n max) ≤ max
  pub outputs : drained n max ≡ map output_of (take max n.queue) ++ map Close (closes n max)
  pub left : (after_drain n max).queue ≡ drop max n.queue
  pub last : 1 ≤ length (closes n max) → (after_drain n max).queue ≡ []

abbrev pub DrainsGiveInOrder : Type 0
DrainsGiveInOrder = (n : NodeState) (max : ℕ) → GivesInOrder n max

-- closings come by rising number; a stream whose closing was given has no record any more, and every other record is as it
-- was; and with room for all of them no stream is closing any more
pub record ClosesOnce (n : NodeState) (max : ℕ) : Type 0 where
  pub rising : AllPairs (λ a b. a < b) (closes n max)
  pub gone : All (λ stream. record_of (after_drain n max).streams stream ≡ None) (closes n max)
  pub others : (stream : ℕ) → All (λ closed. stream ≢ closed) (closes n max) → record_of (after_drain n max).streams stream ≡ record_of n.streams stream
  pub none_left : length n.queue + length (closing_numbers n.streams) ≤ max → closing_numbers (after_drain n max).streams ≡ []

abbrev pub DrainsCloseOnce : Type 0
DrainsCloseOnce = (n : NodeState) (max : ℕ) → IsBoundedNode n → ClosesOnce n max
