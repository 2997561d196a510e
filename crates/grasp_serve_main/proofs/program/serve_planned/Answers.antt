use Rattle.std.proofs.Common.{refl}
use Rattle.grasp_serve_main.proofs.program.serve_planned.Goals as goal

pub returns-in-Stopped-clause-kept : goal.returns-in-Stopped-clause-kept
returns-in-Stopped-clause-kept g c = λ e. c.in-Stopped.ensures.kept refl
