use Rattle.std.proofs.Common.{refl, sym, ◌∙◌, arith}
use Rattle.std.proofs.lemmas.Bool.{false≢true}
use Rattle.grasp_model_network.specs.Plans.{IsGoodRoot}
use Rattle.grasp_model_network.proofs.PlanTests.{no_root, more_of_each}
use Rattle.grasp_model_network.proofs.check.are_good_roots.Goals as goal

pub returns-then-not-is_good_root : goal.returns-then-not-is_good_root
returns-then-not-is_good_root c =
    (λ t. absurd (false≢true t), λ all. sym c.if-not-is_good_root.true ∙ c.is_good_root.ensures.1 (all c.loop-root.root-index no_root c.loop-root-test.true))

pub loop-root-preserved : goal.loop-root-preserved
loop-root-preserved c = more_of_each (IsGoodRoot c.args.nodes) c.args.roots.now c.loop-root.root-index no_root c.loop-root-test.true c.loop-root.invariant (c.is_good_root.ensures.0 c.if-not-is_good_root.false)

pub returns : goal.returns
returns c = (λ _. λ k d h. c.loop-root.invariant k d (omega arith), λ _. refl)
