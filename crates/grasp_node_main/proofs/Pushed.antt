-- Words behind words.
use Rattle.grasp_text.proofs.Pushed.{one_pushed, some_pushed}

pub ruleset pushes = (one_pushed, some_pushed)
