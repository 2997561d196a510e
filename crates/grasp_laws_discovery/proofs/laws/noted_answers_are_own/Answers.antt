use Rattle.grasp_laws_discovery.proofs.OwnAnswers as lemmas
use Rattle.grasp_laws_discovery.proofs.laws.noted_answers_are_own.Goals as goal

pub returns : goal.returns
returns c = lemmas.noted_answers_are_own c.datagrams_are_messages.ensures
