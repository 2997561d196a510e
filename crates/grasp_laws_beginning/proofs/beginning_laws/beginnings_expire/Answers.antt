use Rattle.grasp_laws_beginning.proofs.Expiring as lemmas
use Rattle.grasp_laws_beginning.proofs.beginning_laws.beginnings_expire.Goals as goal

pub returns : goal.returns
returns c = lemmas.beginnings_expire
