use Rattle.grasp_cbor.proofs.walker.Walk.advance.Goals as goal

pub returns-in-InBytes-clause-made : goal.returns-in-InBytes-clause-made
returns-in-InBytes-clause-made c = rw c.in-InBytes.is (c.go_on_bytes.ensures.made c.args.byte)
