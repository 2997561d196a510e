use Rattle.grasp_cbor.proofs.Behind.{behind_ended}
use Rattle.grasp_cbor.proofs.compare.behind_bytes.Goals as goal

pub returns-in_default : goal.returns-in_default
returns-in_default c = behind_ended c.args.front.now c.loop-byte.byte-index _ c.loop-byte.rest.now c.loop-byte-test.true c.in_default.len_below c.loop-byte.invariant
