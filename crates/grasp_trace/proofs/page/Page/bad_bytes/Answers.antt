use Rattle.std.specs.Prelude.{string_bytes}
use Rattle.grasp_trace.proofs.Telling.{told_known, known_told}
use Rattle.grasp_trace.proofs.page.Page.bad_bytes.Goals as goal

pub returns : goal.returns
returns g c = known_told _ _ _ (told_known _ (λ t. string_bytes t) c.fault.result _ _ c.fault.ensures c.write.ensures.told c.write.ensures.left)
