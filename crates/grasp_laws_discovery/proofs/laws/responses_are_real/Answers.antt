use Rattle.grasp_laws_discovery.proofs.Asking.{looked_for_is_searched}
use Rattle.grasp_laws_discovery.proofs.Finding as lemmas
use Rattle.grasp_laws_discovery.proofs.laws.responses_are_real.Goals as goal

pub returns-clause-responses : goal.returns-clause-responses
returns-clause-responses c =
    lemmas.responses_are_real c.what_was_said_is_given.ensures c.discoveries_are_real.ensures c.initiators_tell_searches.ensures.searches c.datagrams_are_messages.ensures

pub returns-clause-searches : goal.returns-clause-searches
returns-clause-searches c = looked_for_is_searched c.initiators_tell_searches.ensures.searches
