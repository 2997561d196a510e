use Rattle.std.proofs.Common.{◌≡◌, ◌∙◌, List, not, map, ap}
use Rattle.std.specs.Prelude.{filter, ◌==◌}
use Rattle.grasp_types.specs.declared.traffic.Output.TheVariants as output
use Rattle.grasp_model_node.specs.Moves.{queue_up}
use Rattle.grasp_model_node.specs.Queue.{other_ways, encoding, along, output_of}
use Rattle.grasp_model_node.specs.declared.way.Way.{Way}
use Rattle.grasp_core.proofs.Queueing.{queued_more, queued_along}
use Rattle.grasp_core.proofs.node_core.NodeCore.relay_now.Goals as goal

pub returns : goal.returns
unfolding queue_up
returns c = λ n h.
    let l : List Way = other_ways c.args.link n.plan.links in
    let outputs : c.args.outputs.items ≡ map output_of (along c.args.message.now l) =
    c.requires.added_are
    ∙ ap (λ (x : List Way). map (λ (way : Way). output.Datagram way.link way.to (encoding c.args.message.now)) (filter (λ way. not (way.link == c.args.link)) x)) h.ways
    ∙ queued_along c.args.message.now l in
    record {
      plan = h.plan;
      ways = h.ways;
      limit = h.limit;
      reading = h.reading;
      registrations = h.registrations;
      sessions = h.sessions;
      discoveries = h.discoveries;
      floods = h.floods;
      streams = h.streams;
      queue = rw c.append.ensures (queued_more c.args.self.now.queue c.args.outputs.items n.queue (along c.args.message.now l) h.queue outputs);
      draws = h.draws;
    }
