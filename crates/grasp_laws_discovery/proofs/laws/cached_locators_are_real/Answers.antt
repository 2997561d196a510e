use Rattle.grasp_laws_discovery.proofs.Finding.{cached_are_real}
use Rattle.grasp_laws_discovery.proofs.laws.cached_locators_are_real.Goals as goal

pub returns : goal.returns
returns c = cached_are_real c.what_was_said_is_given.ensures c.discoveries_are_real.ensures c.initiators_tell_searches.ensures.searches c.datagrams_are_messages.ensures
