use Rattle.grasp_quick.proofs.kinds.spell_kind.Goals as goal

pub returns-in-0 : goal.returns-in-0
returns-in-0 c = rw c.in-0.is c.spell_noop.ensures

pub returns-in-1 : goal.returns-in-1
returns-in-1 c = rw c.in-1.is c.spell_discovery.ensures

pub returns-in-2 : goal.returns-in-2
returns-in-2 c = rw c.in-2.is c.spell_response.ensures

pub returns-in-3 : goal.returns-in-3
returns-in-3 c = rw c.in-3.is c.spell_req_neg.ensures

pub returns-in-4 : goal.returns-in-4
returns-in-4 c = rw c.in-4.is c.spell_req_syn.ensures

pub returns-in-5 : goal.returns-in-5
returns-in-5 c = rw c.in-5.is c.spell_negotiate.ensures

pub returns-in-6 : goal.returns-in-6
returns-in-6 c = rw c.in-6.is c.spell_end.ensures

pub returns-in-7 : goal.returns-in-7
returns-in-7 c = rw c.in-7.is c.spell_wait.ensures

pub returns-in-8 : goal.returns-in-8
returns-in-8 c = rw c.in-8.is c.spell_synch.ensures

pub returns-in-9 : goal.returns-in-9
returns-in-9 c = rw c.in-9.is c.spell_flood.ensures

pub returns-in-99 : goal.returns-in-99
returns-in-99 c = rw c.in-99.is c.spell_invalid.ensures
