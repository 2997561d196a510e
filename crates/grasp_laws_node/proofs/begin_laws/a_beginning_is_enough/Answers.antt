use Rattle.grasp_laws_node.proofs.Beginning.{twice, drain_of_nothing}
use Rattle.grasp_laws_node.proofs.begin_laws.a_beginning_is_enough.Goals as goal

pub returns-clause-once : goal.returns-clause-once
returns-clause-once c = twice

pub returns-clause-drained : goal.returns-clause-drained
returns-clause-drained c = drain_of_nothing
