use Rattle.grasp_laws_agent.proofs.LawReturns.{wants_are_requested, returns_are_requested}
use Rattle.grasp_laws_agent.proofs.return_laws.returns_are_requested.Goals as goal

pub returns-clause-wants : goal.returns-clause-wants
returns-clause-wants c = wants_are_requested

pub returns-clause-returns : goal.returns-clause-returns
returns-clause-returns c = returns_are_requested
