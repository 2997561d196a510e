use Rattle.grasp_agent.proofs.Reading.{lengths_are_read, prefixes_are_read}
use Rattle.grasp_laws_agent.proofs.laws.values_are_read.Goals as goal

pub returns-clause-lengths : goal.returns-clause-lengths
returns-clause-lengths c = lengths_are_read

pub returns-clause-prefixes : goal.returns-clause-prefixes
returns-clause-prefixes c = prefixes_are_read
