use Rattle.grasp_quick.proofs.locators.spell_locator_of.Goals as goal

pub returns-in-103 : goal.returns-in-103
returns-in-103 c = rw c.in-103.is c.spell_v6.ensures

pub returns-in-104 : goal.returns-in-104
returns-in-104 c = rw c.in-104.is c.spell_v4.ensures

pub returns-in-105 : goal.returns-in-105
returns-in-105 c = rw c.in-105.is c.spell_fqdn.ensures

pub returns-in-106 : goal.returns-in-106
returns-in-106 c = rw c.in-106.is c.spell_uri.ensures
