use Rattle.grasp_laws_prefixes.proofs.FirstHeld as lemmas
use Rattle.grasp_laws_prefixes.proofs.address_laws.first_holdings.Goals as goal

pub returns : goal.returns
returns c = lemmas.first_holdings
