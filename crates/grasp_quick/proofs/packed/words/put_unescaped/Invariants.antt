use Rattle.grasp_quick.specs.Packed.{Unescapes}
use Rattle.grasp_quick.proofs.packed.words.put_unescaped.Given as goal

abbrev pub invariant-loop-i : goal.invariant-loop-i
invariant-loop-i l = Unescapes l.i l.escaped l.rest l.initial.bytes l.bytes
