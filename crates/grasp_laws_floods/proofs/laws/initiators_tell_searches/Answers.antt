use Rattle.grasp_laws_floods.proofs.Addresses.{addresses_tell_nodes, search_is_told}
use Rattle.grasp_laws_floods.proofs.laws.initiators_tell_searches.Goals as goal

pub returns-clause-nodes : goal.returns-clause-nodes
returns-clause-nodes c = addresses_tell_nodes

pub returns-clause-searches : goal.returns-clause-searches
returns-clause-searches c = search_is_told
