use Rattle.std.proofs.Common.{arith}
use Rattle.grasp_types.specs.Message.{item_of}
use Rattle.grasp_wire.proofs.Straight.{rest_within, direct_is}
use Rattle.grasp_wire.proofs.direct.direct_message.Goals as goal

pub returns : goal.returns
returns c =
    direct_is c.in_ok-message.message c.args.bytes.now c.in_ok-message.rest.now _ c.in_ok-message.ensures.range c.in_ok-message.ensures.leads
    (omega (arith, rest_within (item_of c.in_ok-message.message) c.args.bytes.now c.in_ok-message.rest.now c.in_ok-message.ensures.leads))
