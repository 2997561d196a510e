use Rattle.grasp_laws_delivery.proofs.EndedLives as lemmas
use Rattle.grasp_laws_delivery.proofs.stream_laws.ended_lives_stay.Goals as goal

pub returns : goal.returns
returns c = lemmas.ended_lives_stay c.ties_are_kept.ensures
