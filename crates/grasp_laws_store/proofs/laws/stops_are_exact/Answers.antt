use Rattle.grasp_laws_store.proofs.Stopping as lemmas
use Rattle.grasp_laws_store.proofs.laws.stops_are_exact.Goals as goal

pub returns-clause-short : goal.returns-clause-short
returns-clause-short c = lemmas.stops_cut_short

pub returns-clause-all : goal.returns-clause-all
returns-clause-all c = lemmas.stops_no_earlier
