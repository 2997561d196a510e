use Rattle.grasp_laws_offers.proofs.Networks as lemmas
use Rattle.grasp_laws_offers.proofs.duty_laws.own_sessions_are_duties.Goals as goal

pub returns : goal.returns
returns c = lemmas.own_sessions_are_duties c.ties_are_kept.ensures c.calls_mean.ensures c.own_sessions_go_on.ensures.begins
