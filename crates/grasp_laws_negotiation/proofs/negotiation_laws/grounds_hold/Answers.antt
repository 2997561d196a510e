use Rattle.grasp_laws_negotiation.proofs.negotiation_laws.grounds_hold.Goals as goal

pub returns : goal.returns
returns c = record {
  stories = c.streams_have_stories.ensures;
  clears = c.clear_streams_are_kept.ensures;
  ready = c.streams_are_ready.ensures;
  said = c.what_is_said_is_sent_or_queued.ensures;
  records = c.records_hold_what_came.ensures;
  given = c.what_was_said_is_given.ensures;
}
