use Rattle.grasp_audit.proofs.Bringing.{names_arrival}
use Rattle.grasp_audit.proofs.arrivals.arrival.Goals as goal

pub returns : goal.returns
returns c =
    names_arrival c.streams_are_ready.ensures c.args.world.now c.args.node c.args.stream c.args.from c.waits_so.result c.named_if.result c.requires c.waits_so.ensures c.named_if.ensures
