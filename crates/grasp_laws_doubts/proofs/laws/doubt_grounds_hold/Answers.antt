use Rattle.grasp_laws_doubts.proofs.laws.doubt_grounds_hold.Goals as goal

pub returns : goal.returns
returns c = record {
  prefixes = c.grounds_hold.ensures;
  offers = c.offers_are_known.ensures;
  doubted = c.doubted_were_offered.ensures;
  dead = c.dead_are_found.ensures;
  listed = c.listed_are_asked.ensures;
  saw = c.requesters_saw.ensures;
  agree = c.accepted_doubts_agree.ensures;
  wants = c.requested_sessions_are_wants.ensures;
  openers = c.openers_are_told.ensures;
  others = c.others_leave_owners.ensures;
  begins = c.beginnings_leave_owners.ensures;
  owners = c.owners_keep_serving.ensures;
  leaves = c.owners_leave_by_polls.ensures;
}
