use Rattle.grasp_laws_agent.proofs.LawMoves.{moves_are_made}
use Rattle.grasp_laws_agent.proofs.LawStays.{nothing_else_moves}
use Rattle.grasp_laws_agent.proofs.laws.agent_moves.Goals as goal

pub returns-clause-moves : goal.returns-clause-moves
returns-clause-moves c = moves_are_made

pub returns-clause-nothing : goal.returns-clause-nothing
returns-clause-nothing c = nothing_else_moves
