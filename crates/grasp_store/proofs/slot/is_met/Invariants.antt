use Rattle.grasp_store.specs.Reading.{EntriesApart}
use Rattle.grasp_store.proofs.slot.is_met.Given as goal

abbrev pub invariant-loop-i : goal.invariant-loop-i
invariant-loop-i l = EntriesApart l.bytes l.prefix l.i
