use Rattle.grasp_model_node.specs.Moves.{with_draw}
use Rattle.grasp_core.proofs.node_core.NodeCore.draw.Goals as goal

pub returns : goal.returns
unfolding with_draw
returns c = λ n h. record { plan = h.plan; ways = h.ways; limit = h.limit; reading = h.reading; registrations = h.registrations; sessions = h.sessions; discoveries = h.discoveries; floods = h.floods; streams = h.streams; queue = h.queue; draws = c.draw.ensures (record { seed = n.plan.seed; drawn = n.drawn }) h.draws }
