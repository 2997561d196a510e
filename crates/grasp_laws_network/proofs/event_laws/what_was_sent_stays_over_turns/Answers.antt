use Rattle.grasp_laws_network.proofs.Growing as lemmas
use Rattle.grasp_laws_network.proofs.event_laws.what_was_sent_stays_over_turns.Goals as goal

pub returns : goal.returns
returns c = lemmas.what_was_sent_stays_over_turns
