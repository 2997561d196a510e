-- The question that was written is read.
use Rattle.std.proofs.Common.{◌≡◌, ap, ◌∙◌, ◌<◌, ◌^◌, Some}
use Rattle.std.proofs.lemmas.Nat.{from_be_bytes-to_be_bytes_4}
use Rattle.std.specs.Int.{to_be_bytes, w32, w128}
use Rattle.grasp_agent.proofs.Reading.{prefix_again}
use Rattle.grasp_agent.specs.Values.{offered_in, prefix_value}
use Rattle.grasp_cbor.proofs.Facts.Numbers.{back_16}
use Rattle.grasp_types.specs.Address.{IsAddress, address_bytes}
use Rattle.grasp_types.specs.Prefix.{AddressBlock as Prefix, IsPrefix}
use Rattle.grasp_types.specs.declared.address.Address.{Address}
use Rattle.grasp_types.specs.declared.address.Address.TheVariants as address
use Rattle.grasp_doubter.specs.Questions.{node_in, question_in, question_of, question_value}

node_again : (a : Address) → IsAddress a → node_in (Some (address_bytes a)) ≡ Some a
node_again (address.V4 n) h = ap (λ k. Some (address.V4 k)) (from_be_bytes-to_be_bytes_4 n h)
node_again (address.V6 n) h = ap (λ k. Some (address.V6 k)) (back_16 n h)

pub question_again : (a : Address) (p : Prefix) → IsAddress a → IsPrefix p.address p.length → question_in (Some (question_value a p)) ≡ Some (record { address = a; prefix = p })
unfolding question_in offered_in
question_again a p h v = ap (λ o. question_of o (offered_in (Some (prefix_value p)))) (node_again a h) ∙ ap (λ o. question_of (Some a) o) (prefix_again p v)
