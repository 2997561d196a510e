use Rattle.std.proofs.Common.{◌≡◌, take}
use Rattle.grasp_quick.proofs.packed.front.behind.Given as goal

abbrev pub invariant-loop-i : goal.invariant-loop-i
invariant-loop-i l = take l.i l.front ≡ take l.i l.word
