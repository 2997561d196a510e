use Rattle.grasp_laws_store.proofs.Disks as lemmas
use Rattle.grasp_laws_store.proofs.laws.kept_images_may_reopen.Goals as goal

pub returns-clause-before : goal.returns-clause-before
returns-clause-before c = lemmas.before_reopens

pub returns-clause-behind : goal.returns-clause-behind
returns-clause-behind c = lemmas.behind_reopens
