use Rattle.grasp_audit.proofs.Dividing.{told_nowhere, told_there}
use Rattle.grasp_audit.proofs.told.told_part.Goals as goal

pub returns-in-Some : goal.returns-in-Some
returns-in-Some c = λ us vs d. told_there c.args.text.now c.in-Some.at c.in-Some.ensures us vs d

pub returns-in-None : goal.returns-in-None
returns-in-None c = λ us vs d. told_nowhere c.args.text.now c.in-None.ensures us vs d
