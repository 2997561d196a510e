use Rattle.std.proofs.Common.{◌≤◌, ℕ, List}
use Rattle.grasp_client.specs.Lines.{Copies}
use Rattle.grasp_client.proofs.conversation.follow.Given as goal

-- so many lines were copied
abbrev pub invariant-loop : goal.invariant-loop
invariant-loop g l = (told : List (List ℕ))
    × Copies (g.N.Source.left l.initial.node) (g.N.Source.left l.node) (g.K.Sink.written l.initial.out) (g.K.Sink.written l.out) told
    × (g.N.Source.faults l.initial.node ≤ g.N.Source.faults l.node)
    × (g.K.Sink.faults l.initial.out ≤ g.K.Sink.faults l.out)
