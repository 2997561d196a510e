use Rattle.grasp_core.proofs.Dialling.{dialled_stands}
use Rattle.grasp_core.proofs.node_core.NodeCore.dial_request.Goals as goal

pub returns-in-Ok-start-clause-after : goal.returns-in-Ok-start-clause-after
returns-in-Ok-start-clause-after c = λ n h.
    dialled_stands c.args.self.now n c.args.asa c.args.timeout c.next-stream.result c.args.peer c.args.ready.message c.begin_of.result c.start.result c.start.new.self c.dial.new.self c.dial-2.new.self c.draw.new.self h
    (c.next-stream.ensures n.streams h.streams) c.begin_of.ensures (c.start.ensures.starts n.sessions h.sessions) (c.in-Ok.ensures.ok n.streams h.streams) c.dial.ensures.limit (c.dial-2.ensures n.queue h.queue)
    (c.draw.ensures (record { seed = n.plan.seed; drawn = n.drawn }) h.draws)

pub returns-in-Err-clause-after : goal.returns-in-Err-clause-after
returns-in-Err-clause-after c = λ n h.
    dialled_stands c.args.self.now n c.args.asa c.args.timeout c.next-stream.result c.args.peer c.args.ready.message c.begin_of.result c.start.result c.start.new.self c.dial.new.self c.dial-2.new.self c.draw.new.self h
    (c.next-stream.ensures n.streams h.streams) c.begin_of.ensures (c.start.ensures.starts n.sessions h.sessions) (c.in-Ok.ensures.ok n.streams h.streams) c.dial.ensures.limit (c.dial-2.ensures n.queue h.queue)
    (c.draw.ensures (record { seed = n.plan.seed; drawn = n.drawn }) h.draws)
