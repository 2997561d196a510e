use Rattle.std.proofs.Common.{◌≡◌, ◌≤◌, ℕ, List, All, false}
use Rattle.grasp_client.specs.Lines.{Copies}
use Rattle.grasp_client.specs.Asking.{is_answer_to}
use Rattle.grasp_client.proofs.asking.hear.Given as goal

-- what was copied so far doesn't answer the line
abbrev pub invariant-loop : goal.invariant-loop
invariant-loop g l = (told : List (List ℕ))
    × Copies (g.N.Source.left l.initial.node) (g.N.Source.left l.node) (g.K.Sink.written l.initial.out) (g.K.Sink.written l.out) told
    × All (λ line. is_answer_to l.asked line ≡ false) told
    × (g.N.Source.faults l.initial.node ≤ g.N.Source.faults l.node)
    × (g.K.Sink.faults l.initial.out ≤ g.K.Sink.faults l.out)
