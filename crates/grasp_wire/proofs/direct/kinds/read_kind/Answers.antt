use Rattle.grasp_wire.proofs.direct.kinds.read_kind.Goals as goal

pub returns-in-0-clause-ends : goal.returns-in-0-clause-ends
returns-in-0-clause-ends c = rw c.in-0.is c.read_noop.ensures.ends

pub returns-in-1-clause-ends : goal.returns-in-1-clause-ends
returns-in-1-clause-ends c = rw c.in-1.is c.read_discovery.ensures.ends

pub returns-in-2-clause-ends : goal.returns-in-2-clause-ends
returns-in-2-clause-ends c = rw c.in-2.is c.read_response.ensures.ends

pub returns-in-3-clause-ends : goal.returns-in-3-clause-ends
returns-in-3-clause-ends c = rw c.in-3.is c.read_req_neg.ensures.ends

pub returns-in-4-clause-ends : goal.returns-in-4-clause-ends
returns-in-4-clause-ends c = rw c.in-4.is c.read_req_syn.ensures.ends

pub returns-in-5-clause-ends : goal.returns-in-5-clause-ends
returns-in-5-clause-ends c = rw c.in-5.is c.read_negotiate.ensures.ends

pub returns-in-6-clause-ends : goal.returns-in-6-clause-ends
returns-in-6-clause-ends c = rw c.in-6.is c.read_end.ensures.ends

pub returns-in-7-clause-ends : goal.returns-in-7-clause-ends
returns-in-7-clause-ends c = rw c.in-7.is c.read_wait.ensures.ends

pub returns-in-8-clause-ends : goal.returns-in-8-clause-ends
returns-in-8-clause-ends c = rw c.in-8.is c.read_synch.ensures.ends

pub returns-in-9-clause-ends : goal.returns-in-9-clause-ends
returns-in-9-clause-ends c = rw c.in-9.is c.read_flood.ensures.ends

pub returns-in-99-clause-ends : goal.returns-in-99-clause-ends
returns-in-99-clause-ends c = rw c.in-99.is c.read_invalid.ensures.ends
