use Rattle.grasp_laws_agent.proofs.LawSending.{lengths_are_sent, prefixes_are_sent, returns_are_sent, calls_are_short}
use Rattle.grasp_laws_agent.proofs.laws.values_are_values.Goals as goal

pub returns-clause-lengths : goal.returns-clause-lengths
returns-clause-lengths c = lengths_are_sent

pub returns-clause-prefixes : goal.returns-clause-prefixes
returns-clause-prefixes c = prefixes_are_sent

pub returns-clause-returns : goal.returns-clause-returns
returns-clause-returns c = returns_are_sent

pub returns-clause-calls : goal.returns-clause-calls
returns-clause-calls c = calls_are_short
