use Rattle.std.proofs.Common.{◌≡◌, take}
use Rattle.grasp_cbor.specs.CanGoOn.{CanGoOnWithin}
use Rattle.grasp_cbor.specs.Walking.{Took}
use Rattle.grasp_cbor.proofs.read.find_end.Given as goal

abbrev pub invariant-loop-i : goal.invariant-loop-i
invariant-loop-i l = Took l.walk (take l.i l.bytes) × (l.walk.limit ≡ l.limit) × CanGoOnWithin 16 (take l.i l.bytes)
