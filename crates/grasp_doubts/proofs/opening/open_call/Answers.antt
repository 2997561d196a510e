use Rattle.grasp_doubts.proofs.Openings.{makes_opening, opening_asked}
use Rattle.grasp_doubts.proofs.opening.open_call.Goals as goal
use Rattle.grasp_doubts.proofs.opening.open_call.Goals.{in-Ok, in-Err}

pub step-requires : goal.step-requires
step-requires c = opening_asked c.args.world.now c.args.node c.args.asa c.args.call c.requires

pub returns : goal.returns
returns c = elim c.match-step.branch [
  | in-Ok w ↦ rw w.result-is (makes_opening c.args.world.now c.args.node c.args.asa c.args.call c.step.new.self w.in-Ok.field-0 w.in-Ok.ensures)
  | in-Err w ↦ rw w.result-is tt
]
