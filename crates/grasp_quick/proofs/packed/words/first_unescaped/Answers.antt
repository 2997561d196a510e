use Rattle.std.proofs.Common.{ap, length, ◌∙◌, arith}
use Rattle.grasp_quick.proofs.Spelled.{found_is}
use Rattle.grasp_quick.proofs.packed.words.first_unescaped.Goals as goal

pub returns-in-Some-clause-found : goal.returns-in-Some-clause-found
returns-in-Some-clause-found c = found_is _ _ c.behind_percent.result c.behind_percent.ensures.found (λ p h. c.in-Some.ensures ∙ h)

pub returns-in-Some-clause-shorter : goal.returns-in-Some-clause-shorter
returns-in-Some-clause-shorter c =
    found_is _ _ c.behind_percent.result c.behind_percent.ensures.shorter (λ p h. omega (arith, h, ap length c.in-Some.ensures))
