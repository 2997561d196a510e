use Rattle.grasp_laws_node.proofs.Apart.{ways_distinct, ways_all}
use Rattle.grasp_laws_node.proofs.relay_laws.ways_are_distinct.Goals as goal

pub returns-clause-distinct : goal.returns-clause-distinct
returns-clause-distinct c = ways_distinct

pub returns-clause-all : goal.returns-clause-all
returns-clause-all c = ways_all
