use Rattle.std.proofs.Common.{arith}
use Rattle.grasp_cbor.specs.Item.{data_item_of}
use Rattle.grasp_text.proofs.ValueWords.{first_is}
use Rattle.grasp_text.proofs.values.first_item.Goals as goal

pub returns-clause-value : goal.returns-clause-value
returns-clause-value c = first_is (λ p. data_item_of p.0) (λ p. p.1.now) c.args.bytes.now c.read_first_item.result (λ i. omega (arith, c.type_inv.bytes i)) c.read_first_item.ensures.some c.read_first_item.ensures.none
