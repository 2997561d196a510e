use Rattle.grasp_laws_agents.proofs.offer_laws.calls_mean.Goals as goal

pub returns : goal.returns
returns c = record {
  steps = c.step_means.ensures;
  ends = c.end_means.ensures;
  polls = c.poll_means.ensures;
  listens = c.listen_means.ensures;
  requests = c.request_means.ensures;
}
