use Rattle.grasp_laws_reports.proofs.Agreements as lemmas
use Rattle.grasp_laws_reports.proofs.outcome_laws.agreed_words_tell.Goals as goal

pub returns : goal.returns
returns c = lemmas.agreed_words_tell
