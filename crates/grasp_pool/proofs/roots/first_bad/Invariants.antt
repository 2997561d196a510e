use Rattle.grasp_pool.specs.Roots.{AllValid}
use Rattle.grasp_pool.proofs.roots.first_bad.Given as goal

abbrev pub invariant-loop-i : goal.invariant-loop-i
invariant-loop-i l = AllValid l.roots l.i
