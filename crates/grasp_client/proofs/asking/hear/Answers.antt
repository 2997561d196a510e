use Rattle.std.proofs.Common.{[], ◌∷◌, ◌++◌, true, false, arith}
use Rattle.grasp_client.proofs.Copying.{copies_more}
use Rattle.grasp_client.proofs.Answering.{heard, no_answer_more, answer_is}
use Rattle.grasp_client.proofs.asking.hear.Goals as goal

pub returns-then-is_answer_to-clause-heard : goal.returns-then-is_answer_to-clause-heard
returns-then-is_answer_to-clause-heard g c =
    let (told, copied, others, node_falls, out_falls) = c.loop.invariant in
    let line = c.in_ok-told.told.items in
    let answers = answer_is c.args.asked.now c.deref.result.now line c.is_answer_to.result true c.deref.ensures.value c.is_answer_to.ensures c.if-is_answer_to.true in
    heard c.args.asked.now line _ _ _ _ _ _ told copied others c.in_ok-told.ensures.copied answers

pub loop-preserved : goal.loop-preserved
loop-preserved g c =
    let (told, copied, others, node_falls, out_falls) = c.loop.invariant in
    let line = c.in_ok-told.told.items in
    let other = answer_is c.args.asked.now c.deref.result.now line c.is_answer_to.result false c.deref.ensures.value c.is_answer_to.ensures c.if-is_answer_to.false in (
      told ++ line ∷ [],
      copies_more _ _ _ _ _ _ told (line ∷ []) copied c.in_ok-told.ensures.copied,
      no_answer_more c.args.asked.now line told others other,
      omega (arith, node_falls, c.copy_line.ensures.node_faults),
      omega (arith, out_falls, c.copy_line.ensures.out_faults),
    )
