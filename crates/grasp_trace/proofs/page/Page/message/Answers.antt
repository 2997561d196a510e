use Rattle.std.specs.Prelude.{string_bytes}
use Rattle.grasp_trace.proofs.Telling.{told_known, known_told}
use Rattle.grasp_trace.proofs.page.Page.message.Goals as goal

pub returns : goal.returns
returns g c = known_told _ _ _ (told_known _ (λ t. string_bytes t) c.message.result _ _ c.message.ensures c.write.ensures.told c.write.ensures.left)
