use Rattle.grasp_laws_numbers.proofs.InUse as lemmas
use Rattle.grasp_laws_numbers.proofs.number_laws.used_are_in_use.Goals as goal

pub returns : goal.returns
returns c = lemmas.used_are_in_use
