use Rattle.grasp_laws_sending.proofs.Fitting.Nodes as lemmas
use Rattle.grasp_laws_sending.proofs.sending_laws.what_is_given_fits.Goals as goal

pub returns : goal.returns
returns c = lemmas.what_is_given_fits
