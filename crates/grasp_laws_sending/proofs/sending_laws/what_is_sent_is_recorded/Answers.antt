use Rattle.grasp_laws_sending.proofs.Recording as lemmas
use Rattle.grasp_laws_sending.proofs.sending_laws.what_is_sent_is_recorded.Goals as goal

pub returns : goal.returns
returns c = lemmas.what_is_sent_is_recorded
