-- Who listens at a locator.
use Rattle.std.specs.Prelude.{ℕ, zero, suc, ◌+◌, if◌then◌else◌, Option, None, Some}
use Rattle.grasp_types.specs.Same.{same_locator}
use Rattle.grasp_types.specs.declared.address.Locator.{Locator}
use Rattle.grasp_model_network.specs.Setting.{script_locator}

-- the first of so many nodes, from this one on, that listens there
unfoldable pub listener_from : ℕ → ℕ → Locator → Option ℕ
listener_from node zero to = None
listener_from node (suc count) to = if same_locator to (script_locator node) then Some node else listener_from (node + 1) count to
