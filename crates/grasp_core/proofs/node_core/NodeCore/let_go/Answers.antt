use Rattle.std.proofs.Common.{◌∙◌, ℕ, List, subst}
use Rattle.std.specs.List.{fold}
use Rattle.grasp_model_node.specs.Draining.{after_drain}
use Rattle.grasp_core.specs.Stands.{StreamsStand}
use Rattle.grasp_model_node.specs.Streams.{without}
use Rattle.grasp_core.proofs.Queueing.{queued_rest}
use Rattle.grasp_core.proofs.node_core.NodeCore.let_go.Goals as goal

pub returns : goal.returns
unfolding after_drain
returns c n h e = record {
  plan = h.plan;
  ways = h.ways;
  limit = c.remove_all.ensures.limit ∙ h.limit;
  reading = h.reading;
  registrations = h.registrations;
  sessions = h.sessions;
  discoveries = h.discoveries;
  floods = h.floods;
  streams = subst (λ (numbers : List ℕ). StreamsStand c.remove_all.new.self (fold without n.streams numbers)) e (c.remove_all.ensures.removes n.streams h.streams);
  queue = rw c.skip.ensures (queued_rest c.args.self.now.queue n.queue c.args.max h.queue);
  draws = h.draws;
}
