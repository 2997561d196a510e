use Rattle.std.specs.Prelude.{string_bytes}
use Rattle.grasp_trace.proofs.Telling.{told_known}
use Rattle.grasp_trace.proofs.page.Page.dial.Goals as goal

pub returns : goal.returns
returns g c = told_known _ (λ t. string_bytes t) c.dial.result _ _ c.dial.ensures c.write.ensures.told c.write.ensures.left
