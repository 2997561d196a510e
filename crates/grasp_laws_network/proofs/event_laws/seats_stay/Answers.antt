use Rattle.grasp_laws_network.proofs.Staying as lemmas
use Rattle.grasp_laws_network.proofs.event_laws.seats_stay.Goals as goal

pub returns : goal.returns
returns c = lemmas.seats_stay
