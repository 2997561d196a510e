use Rattle.std.proofs.Common.{◌≡◌, ◌∙◌, ap, arith}
use Rattle.std.specs.Int.{w128, from_be_bytes}
use Rattle.std.specs.Array.{IsWholeChunk}
use Rattle.grasp_types.proofs.BigEndian.{be_bytes_16}
use Rattle.grasp_types.proofs.address.ipv6_of_bytes.Goals as goal

pub returns-in-Ok-clause-some : goal.returns-in-Ok-clause-some
returns-in-Ok-clause-some c =
    let whole : IsWholeChunk c.args.bytes.now c.in-Ok.bytes 16 = c.in-Ok.ensures.1
    in let number : c.from_be_bytes.result ≡ from_be_bytes w128 c.args.bytes.now = c.from_be_bytes.ensures ∙ ap (from_be_bytes w128) whole.same
    in be_bytes_16 c.args.bytes.now c.from_be_bytes.result whole.long (λ i. omega (arith, c.type_inv.bytes i)) number
