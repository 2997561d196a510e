use Rattle.grasp_laws_store.proofs.Ordering as lemmas
use Rattle.grasp_laws_store.proofs.laws.images_are_in_order.Goals as goal

pub returns : goal.returns
returns c = lemmas.images_are_in_order
