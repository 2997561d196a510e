use Rattle.grasp_laws_events.proofs.Posting as lemmas
use Rattle.grasp_laws_events.proofs.event_laws.datagrams_are_sent.Goals as goal

pub returns : goal.returns
returns c = lemmas.datagrams_are_sent
