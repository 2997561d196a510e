use Rattle.grasp_text.proofs.Places.{place_one}
use Rattle.grasp_text.proofs.message.lines_have_one_place.Goals as goal

pub returns : goal.returns
returns c = place_one
