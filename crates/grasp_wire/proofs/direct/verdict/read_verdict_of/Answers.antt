use Rattle.grasp_wire.proofs.direct.verdict.read_verdict_of.Goals as goal

pub returns-in-101-clause-ends : goal.returns-in-101-clause-ends
returns-in-101-clause-ends c = rw c.in-101.is c.read_accept.ensures.ends

pub returns-in-102-clause-ends : goal.returns-in-102-clause-ends
returns-in-102-clause-ends c = rw c.in-102.is c.read_decline.ensures.ends
