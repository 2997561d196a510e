use Rattle.std.proofs.Common.{arith}
use Rattle.grasp_client.proofs.Answering.{no_dialogue, questions_more}
use Rattle.grasp_client.proofs.conversation.ask_all.Goals as goal

pub loop-question-init : goal.loop-question-init
loop-question-init g c = record { dialogue = no_dialogue _ _ _; node_no_fall = omega arith; to_no_fall = omega arith; out_no_fall = omega arith }

pub loop-question-preserved : goal.loop-question-preserved
loop-question-preserved g c = record {
  dialogue = questions_more c.args.questions.now c.loop-question.question-index c.words.result.now _ _ _ _ _ _ _ _ _ c.loop-question-test.true c.words.ensures
      c.loop-question.invariant.dialogue c.in_ok-ask.ensures.turn;
  node_no_fall = omega (arith, c.loop-question.invariant.node_no_fall, c.ask.ensures.node_faults);
  to_no_fall = omega (arith, c.loop-question.invariant.to_no_fall, c.ask.ensures.to_faults);
  out_no_fall = omega (arith, c.loop-question.invariant.out_no_fall, c.ask.ensures.out_faults);
}
