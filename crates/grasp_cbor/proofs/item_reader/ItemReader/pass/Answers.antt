use Rattle.grasp_cbor.proofs.Passing.{waits}
use Rattle.grasp_cbor.proofs.item_reader.ItemReader.pass.Goals as goal

pub returns-clause-waits : goal.returns-clause-waits
returns-clause-waits g c =
    λ s k e. waits c.args.self.now.fault c.args.self.now.walk c.pass-passed.new.self s c.args.bytes.now c.pass-passed.result e (λ t. c.pass-passed.ensures.took s t) c.pass-passed.ensures.limit k
