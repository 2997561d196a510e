use Rattle.grasp_quick.proofs.parts.spell_verdict_of.Goals as goal

pub returns-in-101 : goal.returns-in-101
returns-in-101 c = rw c.in-101.is c.spell_accept.ensures

pub returns-in-102 : goal.returns-in-102
returns-in-102 c = rw c.in-102.is c.spell_decline.ensures
