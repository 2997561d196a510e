use Rattle.std.proofs.Common.{arith}
use Rattle.grasp_wire.proofs.ReadingOn.{nothing_waits}
use Rattle.grasp_wire.proofs.cutter.Cutter.new.Goals as goal

pub invariant_of-result-clause-read : goal.invariant_of-result-clause-read
invariant_of-result-clause-read c = let l = c.new-2.ensures.limit in let k = c.requires in
    ∣ (record { reading = c.new-2.ensures.fresh; no_fault = c.new-2.ensures.fault; are_bytes = tt; waits = nothing_waits _ (omega arith) }, l) ∣₁
