use Rattle.std.proofs.Common.{refl, sym, ◌∙◌, arith, below_more}
use Rattle.std.proofs.lemmas.Bool.{false≢true}
use Rattle.grasp_model_network.specs.Checks.{IsApartBelow}
use Rattle.grasp_model_network.proofs.check.are_apart.Goals as goal

pub returns-then-not-is_apart_below : goal.returns-then-not-is_apart_below
returns-then-not-is_apart_below c =
    (λ t. absurd (false≢true t), λ pairs. sym c.if-not-is_apart_below.true ∙ c.is_apart_below.ensures.1 (λ k d h. pairs k c.loop-place.place d h c.loop-place-test.true))

pub loop-place-preserved : goal.loop-place-preserved
loop-place-preserved c = below_more (IsApartBelow c.args.roots.now) c.loop-place.place c.loop-place.invariant (c.is_apart_below.ensures.0 c.if-not-is_apart_below.false)

pub returns : goal.returns
returns c = (λ _. λ i j d h within. c.loop-place.invariant j (omega arith) i d h, λ _. refl)
