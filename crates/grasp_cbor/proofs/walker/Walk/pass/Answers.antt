use Rattle.std.proofs.Common.{subst, ◌∙◌, arith}
use Rattle.std.proofs.lemmas.List.{length-drop}
use Rattle.grasp_cbor.specs.Walking.{Took}
use Rattle.grasp_cbor.proofs.Passing.{then_rest}
use Rattle.grasp_cbor.proofs.walker.Walk.pass.Goals as goal

pub loop-passed-preserved : goal.loop-passed-preserved
loop-passed-preserved c = record {
  within = omega (arith, c.pass_part-more.ensures.within, c.loop-passed.invariant.within, length-drop c.loop-passed.passed c.args.bytes.now);
  took = λ s t. subst (λ x. Took c.pass_part-more.new.self x) (then_rest s c.args.bytes.now c.loop-passed.passed c.pass_part-more.result) (c.pass_part-more.ensures.took _ (c.loop-passed.invariant.took s t));
  limit = c.pass_part-more.ensures.limit ∙ c.loop-passed.invariant.limit;
}
