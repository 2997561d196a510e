use Rattle.std.proofs.Common.{refl, sym, ◌∙◌, arith}
use Rattle.std.proofs.lemmas.Bool.{false≢true}
use Rattle.grasp_model_network.specs.Plans.{AreApart}
use Rattle.grasp_model_network.proofs.PlanTests.{no_root, more_below}
use Rattle.grasp_model_network.proofs.check.is_apart_below.Goals as goal

pub returns-then-not-are_two_apart : goal.returns-then-not-are_two_apart
returns-then-not-are_two_apart c =
    (λ t. absurd (false≢true t), λ below. sym c.if-not-are_two_apart.true ∙ c.are_two_apart.ensures.1 (below c.loop-before.before no_root c.loop-before-test.true))

pub loop-before-preserved : goal.loop-before-preserved
loop-before-preserved c = more_below AreApart c.args.roots.now c.args.place c.loop-before.before no_root c.requires.within c.loop-before-test.true c.loop-before.invariant (c.are_two_apart.ensures.0 c.if-not-are_two_apart.false)

pub returns : goal.returns
returns c = (λ _. λ k d h. c.loop-before.invariant k d (omega arith), λ _. refl)
