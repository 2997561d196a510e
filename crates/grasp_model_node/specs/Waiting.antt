-- How many bytes a node keeps of what came on its streams.
use Rattle.std.specs.Prelude.{◌≡◌, ℕ, ◌-◌, ◌^◌, min, List, Option, None, Some}
use Rattle.std.specs.List.{AllZip, sum}
use Rattle.grasp_wire.specs.Cutter.{Past, HasRest}
use Rattle.grasp_model_node.specs.Node.{NodeState}

-- so many bytes came on a stream behind its last message; none are kept of one that is closing
abbrev pub HasWaiting : ℕ → Option Past → ℕ → Type 0
HasWaiting limit None count = count ≡ 0
HasWaiting limit (Some past) count = HasRest limit past count

-- so many bytes are kept of all streams, or as many as can be told
pub record KeepsBytes (n : NodeState) (count : ℕ) : Type 0 where
  pub counts : List ℕ
  pub each : AllZip (λ x waiting. HasWaiting n.plan.limit x.past waiting) n.streams.records counts
  pub count_is : count ≡ min (sum counts) (2 ^ 64 - 1)
