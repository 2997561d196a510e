-- Facts of rests that several crates use.
use Rattle.std.proofs.Common.{ℕ, ◌≡◌, Some, ◌≢◌, None, sym, ap, ◌∙◌}
use Rattle.grasp_wire.specs.Reads.{fault_of}
use Rattle.grasp_wire.specs.Stream.{RestKind, waiting}
use Rattle.grasp_wire.specs.declared.fault.CutFault.{CutFault}

-- a rest that was cut off doesn't wait for more
pub waits_for_more : (before : ℕ) (kind : RestKind) (fault : CutFault) → fault_of before kind ≡ Some fault → kind ≢ waiting
waits_for_more before kind fault e w = let q : None ≡ Some fault = sym (ap (fault_of before) w) ∙ e in cc
