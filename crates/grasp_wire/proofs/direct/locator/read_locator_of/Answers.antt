use Rattle.grasp_wire.proofs.direct.locator.read_locator_of.Goals as goal

pub returns-in-103-clause-ends : goal.returns-in-103-clause-ends
returns-in-103-clause-ends c = rw c.in-103.is c.read_v6.ensures.ends

pub returns-in-104-clause-ends : goal.returns-in-104-clause-ends
returns-in-104-clause-ends c = rw c.in-104.is c.read_v4.ensures.ends

pub returns-in-105-clause-ends : goal.returns-in-105-clause-ends
returns-in-105-clause-ends c = rw c.in-105.is c.read_fqdn.ensures.ends

pub returns-in-106-clause-ends : goal.returns-in-106-clause-ends
returns-in-106-clause-ends c = rw c.in-106.is c.read_uri.ensures.ends
