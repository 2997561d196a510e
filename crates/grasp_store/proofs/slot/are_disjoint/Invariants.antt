use Rattle.grasp_store.specs.Reading.{EntriesDisjoint}
use Rattle.grasp_store.proofs.slot.are_disjoint.Given as goal

abbrev pub invariant-loop-i : goal.invariant-loop-i
invariant-loop-i l = EntriesDisjoint l.bytes l.i
