use Rattle.std.proofs.Common.{◌∙◌}
use Rattle.grasp_model_node.specs.Moves.{with_draw, queue_up}
use Rattle.grasp_core.proofs.Spreading.{queued}
use Rattle.grasp_core.proofs.node_core.NodeCore.send_datagrams.Goals as goal

pub returns : goal.returns
unfolding with_draw queue_up
returns c = λ queue o n h. record {
  plan = h.plan;
  ways = h.ways;
  limit = h.limit;
  reading = h.reading;
  registrations = h.registrations;
  sessions = h.sessions;
  discoveries = h.discoveries;
  floods = h.floods;
  streams = h.streams;
  queue = record { outputs_are = c.append.ensures ∙ queued c.args.self.now.queue n.queue queue c.args.outputs.items h.queue.outputs_are o };
  draws = c.draw.ensures (record { seed = n.plan.seed; drawn = n.drawn }) h.draws;
}
