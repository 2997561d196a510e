-- The addresses of a prefix.
use Rattle.std.proofs.Common.{◌-◌, ◌<◌, ◌^◌, arith}
use Rattle.std.proofs.lemmas.Nat.{pow_pos}
use Rattle.grasp_types.specs.Prefix.{AddressBlock as Prefix, span_of}

-- a prefix has an address
pub first_in : (p : Prefix) → span_of p p.address
first_in p = let h : 0 < 2 ^ (128 - p.length) = pow_pos (128 - p.length) in (omega arith, omega arith)
