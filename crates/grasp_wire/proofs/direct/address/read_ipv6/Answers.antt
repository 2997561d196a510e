use Rattle.std.proofs.Common.{sym, subst}
use Rattle.grasp_cbor.specs.DataItem.{byte_string}
use Rattle.grasp_cbor.specs.Leading.{Leads}
use Rattle.grasp_wire.proofs.Straight.{bytes_lead}
use Rattle.grasp_wire.proofs.direct.address.read_ipv6.Goals as goal

pub returns-clause-leads : goal.returns-clause-leads
returns-clause-leads c =
    subst (λ s. Leads (byte_string s) c.args.bytes.now c.in_ok-content.rest.now) (sym c.in_ok-address.ensures.some)
    (bytes_lead c.in_ok-content.content.now c.args.bytes.now c.in_ok-content.rest.now c.in_ok-content.ensures.some)
