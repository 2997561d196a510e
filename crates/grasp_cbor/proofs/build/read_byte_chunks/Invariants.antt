use Rattle.std.proofs.Common.{◌≡◌, length}
use Rattle.grasp_cbor.specs.Build.{open_with, chunk_at, with_front}
use Rattle.grasp_cbor.specs.declared.heads.StringKind.TheVariants.{Bytes}
use Rattle.grasp_cbor.proofs.Takes.{IsBytes}
use Rattle.grasp_cbor.proofs.build.read_byte_chunks.Given as goal

abbrev pub invariant-loop-after : goal.invariant-loop-after
invariant-loop-after l = (with_front l.octets (open_with (chunk_at Bytes) l.rest) ≡ open_with (chunk_at Bytes) l.bytes) × IsBytes l.rest

abbrev pub decreases-loop-after : goal.decreases-loop-after
decreases-loop-after l = length l.rest
