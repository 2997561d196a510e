use Rattle.std.proofs.Common.{◌≡◌, drop}
use Rattle.grasp_cbor.specs.Behind.{behind}
use Rattle.grasp_cbor.proofs.compare.behind_bytes.Given as goal

abbrev pub invariant-loop-byte : goal.invariant-loop-byte
invariant-loop-byte l = behind l.fn.front l.fn.bytes ≡ behind (drop l.byte-index l.fn.front) l.rest
