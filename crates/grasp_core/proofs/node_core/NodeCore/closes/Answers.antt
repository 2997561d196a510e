use Rattle.std.proofs.Common.{◌<◌, length, arith}
use Rattle.grasp_cbor.proofs.Facts.Options.{on_err}
use Rattle.grasp_core.proofs.Queueing.{queued_length}
use Rattle.grasp_core.proofs.SomethingGiven.{closes_some}
use Rattle.grasp_core.proofs.node_core.NodeCore.closes.Goals as goal

pub returns-in_err-numbers-clause-wanted : goal.returns-in_err-numbers-clause-wanted
returns-in_err-numbers-clause-wanted c =
    on_err c.from_residual.result
    (λ n h.
    let queued = queued_length c.args.self.now.queue n.queue h.queue in
    let more : length n.queue < c.args.max = omega (arith, queued) in
    closes_some n c.args.max more (c.in_err-numbers.ensures.wanted n.streams h.streams))
