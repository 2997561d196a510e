use Rattle.grasp_laws_store.proofs.Ordering as lemmas
use Rattle.grasp_laws_store.proofs.laws.pools_have_their_images.Goals as goal

pub returns : goal.returns
returns c = lemmas.pools_have_their_images
