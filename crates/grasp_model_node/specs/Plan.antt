-- Which plans a node is opened with.
use Rattle.std.specs.Prelude.{Bool, ◌||◌, not, nat_lt, List, length}
use Rattle.std.specs.List.{list_any}
use Rattle.grasp_types.specs.Address.{is_dialable}
use Rattle.grasp_types.specs.declared.links.Neighbour.{Neighbour}
use Rattle.grasp_model_node.specs.declared.plan.NodePlan.{NodePlan}

-- more than 16 neighbours, or one whose locator can't be dialled
abbrev pub is_bad_link : List Neighbour → Bool
is_bad_link neighbours = nat_lt 16 (length neighbours) || list_any (λ x. not (is_dialable x.locator)) neighbours

-- more than 16 links, a bad one, a locator that isn't IPv6 or IPv4 with TCP, or a limit that isn't from 2048 to 65535
abbrev pub is_bad_plan : NodePlan → Bool
is_bad_plan plan =
    nat_lt 16 (length plan.links) || list_any is_bad_link plan.links || not (is_dialable plan.locator) || nat_lt plan.limit 2048 || nat_lt 65535 plan.limit
