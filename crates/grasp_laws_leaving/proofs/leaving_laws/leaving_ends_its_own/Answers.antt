use Rattle.grasp_laws_leaving.proofs.Ends as lemmas
use Rattle.grasp_laws_leaving.proofs.leaving_laws.leaving_ends_its_own.Goals as goal

pub returns : goal.returns
returns c = lemmas.leaving_ends_its_own c.deregister_asa_means.ensures
