use Rattle.grasp_laws_events.proofs.Dialling as lemmas
use Rattle.grasp_laws_events.proofs.agent_laws.locators_are_dialled.Goals as goal

pub returns : goal.returns
returns c = lemmas.locators_are_dialled
