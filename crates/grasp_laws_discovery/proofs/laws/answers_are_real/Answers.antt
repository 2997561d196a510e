use Rattle.grasp_laws_discovery.proofs.Finding as lemmas
use Rattle.grasp_laws_discovery.proofs.laws.answers_are_real.Goals as goal

pub returns : goal.returns
returns c = lemmas.answers_are_real c.discoveries_are_real.ensures c.datagrams_are_messages.ensures
