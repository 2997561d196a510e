use Rattle.grasp_laws_prefixes.proofs.prefix_laws.grounds_hold.Goals as goal

pub returns : goal.returns
returns c = record {
  ties = c.ties_are_kept.ensures;
  lives = c.lives_are_kept.ensures;
  ready = c.streams_are_ready.ensures;
  present = c.steps_are_present.ensures;
  kept = c.agents_are_kept.ensures;
  serve = c.agents_serve.ensures;
  owned = c.sessions_are_owned.ensures;
  gone_owned = c.gone_sessions_are_owned.ensures;
  goes_on = c.own_sessions_go_on.ensures;
  give = c.agents_give.ensures;
  move = c.agents_move.ensures;
  means = c.calls_mean.ensures;
  unseen = c.views_trail.ensures.unseen;
  streams = c.sessions_have_streams.ensures;
  negotiations = c.negotiations_are_talks.ensures;
  known = c.negotiations_are_known.ensures;
  in_order = c.negotiations_are_in_order.ensures;
}
