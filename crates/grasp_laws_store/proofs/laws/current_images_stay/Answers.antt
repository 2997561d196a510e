use Rattle.grasp_laws_store.proofs.Disks as lemmas
use Rattle.grasp_laws_store.proofs.laws.current_images_stay.Goals as goal

pub returns : goal.returns
returns c = lemmas.current_images_stay
