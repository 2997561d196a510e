use Rattle.std.proofs.Common.{Some, ap, arith}
use Rattle.grasp_io.proofs.Readings.{none_highest, none_told}
use Rattle.grasp_io.proofs.memory_clock.MemClock.new.Goals as goal

pub invariant_of-result : goal.invariant_of-result
invariant_of-result g c = record {
  place = omega (arith, c.new.ensures);
  highest_so_far = none_highest c.args.readings.now c.new.result c.new.ensures;
}

pub returns-clause-told : goal.returns-clause-told
returns-clause-told g c = ap Some (none_told c.args.readings.now c.new.result c.new.ensures)
