use Rattle.std.proofs.Common.{[], ◌∷◌, ◌++◌, subst, arith, OnOk, vec_len}
use Rattle.std.proofs.KnownBytes.{Consumes-nil}
use Rattle.std.proofs.lemmas.List.Elements.{All-nil}
use Rattle.grasp_client.specs.Lines.{IsLine}
use Rattle.grasp_client.specs.Reading.{Got}
use Rattle.grasp_client.specs.Asking.{TurnOf}
use Rattle.grasp_client.proofs.Answering.{no_dialogue, dialogue_more, taken_more, lines_more, on_ok, talks_last, rest_is_some}
use Rattle.grasp_client.proofs.conversation.talk.Goals as goal

pub loop-init : goal.loop-init
loop-init g c = ([], Consumes-nil _, All-nil IsLine, no_dialogue _ _ _, omega arith, omega arith, omega arith, omega arith)

pub loop-preserved : goal.loop-preserved
loop-preserved g c =
    let (asked, taken, are, dialogue, node_falls, to_falls, out_falls, in_falls) = c.loop.invariant in
    let line = c.in-Line.line.items in
    let got = subst (Got (g.S.Source.left c.loop.input) (g.S.Source.left c.next_line.new.input)) c.in-Line.is c.in_ok-line.ensures.given in
    let turn = subst (λ l. TurnOf l (g.W.Sink.written c.loop.to_node) (g.W.Sink.written c.ask.new.to_node) (g.N.Source.left c.loop.node)
    (g.N.Source.left c.ask.new.node) (g.K.Sink.written c.loop.out) (g.K.Sink.written c.ask.new.out)) c.deref.ensures.value c.in_ok-ask-in-Line.ensures.turn in (
      asked ++ line ∷ [],
      taken_more _ _ _ asked line taken got,
      lines_more asked line are got.is_line,
      dialogue_more asked line _ _ _ _ _ _ _ _ _ dialogue turn,
      omega (arith, node_falls, c.ask.ensures.node_faults),
      omega (arith, to_falls, c.ask.ensures.to_faults),
      omega (arith, out_falls, c.ask.ensures.out_faults),
      omega (arith, in_falls, c.next_line.ensures.never_falls),
    )

pub returns-in-Rest-clause-talked : goal.returns-in-Rest-clause-talked
returns-in-Rest-clause-talked g c =
    let (asked, taken, are, dialogue, node_falls, to_falls, out_falls, in_falls) = c.loop.invariant in
    let rest = c.in-Rest.rest.items in
    let got = subst (Got (g.S.Source.left c.loop.input) (g.S.Source.left c.next_line.new.input)) c.in-Rest.is c.in_ok-line.ensures.given in
    let some = rest_is_some c.deref-in-Rest.result.now rest (vec_len c.in-Rest.rest) c.is_empty.result c.deref-in-Rest.ensures.value c.deref-in-Rest.ensures.len
    c.is_empty.ensures c.if-is_empty.false in
    let turn = subst (λ l. OnOk c.ask-in-Rest.result (TurnOf l (g.W.Sink.written c.loop.to_node) (g.W.Sink.written c.ask-in-Rest.new.to_node) (g.N.Source.left c.loop.node)
    (g.N.Source.left c.ask-in-Rest.new.node) (g.K.Sink.written c.loop.out) (g.K.Sink.written c.ask-in-Rest.new.out))) c.deref-in-Rest.ensures.value c.ask-in-Rest.ensures.turn in
    on_ok c.ask-in-Rest.result _ _ (talks_last _ _ _ _ _ _ _ _ _ _ _ _ asked rest taken are got some dialogue) turn
