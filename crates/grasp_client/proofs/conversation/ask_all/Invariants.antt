use Rattle.std.proofs.Common.{◌≤◌, map, take}
use Rattle.grasp_client.specs.Asking.{Dialogue, question_words}
use Rattle.grasp_client.proofs.conversation.ask_all.Given as goal

-- the questions so far were asked and answered
abbrev pub invariant-loop-question : goal.invariant-loop-question
invariant-loop-question g l = record {
  dialogue : Dialogue (map question_words (take l.question-index l.questions)) (g.W.Sink.written l.initial.to_node) (g.W.Sink.written l.to_node)
      (g.N.Source.left l.initial.node) (g.N.Source.left l.node) (g.K.Sink.written l.initial.out) (g.K.Sink.written l.out);
  node_no_fall : g.N.Source.faults l.initial.node ≤ g.N.Source.faults l.node;
  to_no_fall : g.W.Sink.faults l.initial.to_node ≤ g.W.Sink.faults l.to_node;
  out_no_fall : g.K.Sink.faults l.initial.out ≤ g.K.Sink.faults l.out;
}
