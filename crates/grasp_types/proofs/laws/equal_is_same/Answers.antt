use Rattle.grasp_types.proofs.Same.{same_address_decides, same_locator_decides, same_origin_decides}
use Rattle.grasp_types.proofs.laws.equal_is_same.Goals as goal

pub returns : goal.returns
returns c = record { address = same_address_decides; locator = same_locator_decides; origin = same_origin_decides }
