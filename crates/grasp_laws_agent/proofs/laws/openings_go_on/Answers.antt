use Rattle.grasp_laws_agent.proofs.LawCursors.{openings_go_on, openings_end}
use Rattle.grasp_laws_agent.proofs.laws.openings_go_on.Goals as goal

pub returns-clause-calls : goal.returns-clause-calls
returns-clause-calls c = openings_go_on

pub returns-clause-end : goal.returns-clause-end
returns-clause-end c = openings_end
