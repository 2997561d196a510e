use Rattle.std.proofs.Common.{◌≤◌, ℕ, List, All}
use Rattle.std.specs.Io.KnownBytes.{Consumes}
use Rattle.grasp_client.specs.Lines.{IsLine, text_of}
use Rattle.grasp_client.specs.Asking.{Dialogue}
use Rattle.grasp_client.proofs.conversation.talk.Given as goal

-- the lines so far were read, asked and answered
abbrev pub invariant-loop : goal.invariant-loop
invariant-loop g l = (asked : List (List ℕ))
    × Consumes (g.S.Source.left l.initial.input) (g.S.Source.left l.input) (text_of asked)
    × All IsLine asked
    × Dialogue asked (g.W.Sink.written l.initial.to_node) (g.W.Sink.written l.to_node)
    (g.N.Source.left l.initial.node) (g.N.Source.left l.node) (g.K.Sink.written l.initial.out) (g.K.Sink.written l.out)
    × (g.N.Source.faults l.initial.node ≤ g.N.Source.faults l.node)
    × (g.W.Sink.faults l.initial.to_node ≤ g.W.Sink.faults l.to_node)
    × (g.K.Sink.faults l.initial.out ≤ g.K.Sink.faults l.out)
    × (g.S.Source.faults l.initial.input ≤ g.S.Source.faults l.input)
