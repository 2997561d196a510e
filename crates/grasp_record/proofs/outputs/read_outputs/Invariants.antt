use Rattle.std.proofs.Common.{◌≡◌, length}
use Rattle.grasp_record.specs.Grammar.{each_at, output_at, as_outputs, outputs_at}
use Rattle.grasp_record.proofs.outputs.read_outputs.Given as goal

abbrev pub invariant-loop-alloc : goal.invariant-loop-alloc
invariant-loop-alloc l = as_outputs (each_at output_at l.outputs l.words) ≡ outputs_at l.fn.words

abbrev pub decreases-loop-alloc : goal.decreases-loop-alloc
decreases-loop-alloc l = length l.words
