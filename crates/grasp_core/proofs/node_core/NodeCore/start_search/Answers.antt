use Rattle.grasp_core.proofs.node_core.NodeCore.start_search.Goals as goal

pub returns-in-Ok-clause-after : goal.returns-in-Ok-clause-after
returns-in-Ok-clause-after c = λ n h o.
    let outputs = rw c.in-Discovery.is at o in
    rw c.in-Discovery.is (c.send_datagrams.ensures _ outputs _ (c.in-Ok.ensures.ok n h))
