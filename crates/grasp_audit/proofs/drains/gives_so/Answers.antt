use Rattle.std.proofs.lemmas.Result.{IfOk-weaker}
use Rattle.grasp_audit.proofs.drains.gives_so.Goals as goal

pub returns : goal.returns
returns c = IfOk-weaker c.is_told_so.result _ _ (λ is_so h. λ x written. h c.args.outputs x c.outputs_fit.ensures c.line_of_drain-line.ensures written) c.is_told_so.ensures
