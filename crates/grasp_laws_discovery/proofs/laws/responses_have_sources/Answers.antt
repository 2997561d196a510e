use Rattle.grasp_laws_discovery.proofs.Sourcing as lemmas
use Rattle.grasp_laws_discovery.proofs.laws.responses_have_sources.Goals as goal

pub returns : goal.returns
returns c = lemmas.responses_have_sources
