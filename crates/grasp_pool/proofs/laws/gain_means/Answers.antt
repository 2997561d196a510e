use Rattle.grasp_pool.proofs.Meanings.{gain_means, gain_keeps}
use Rattle.grasp_pool.proofs.Gaining.{can_gain_tells}
use Rattle.grasp_pool.proofs.laws.gain_means.Goals as goal

pub returns-clause-gainable : goal.returns-clause-gainable
returns-clause-gainable c = can_gain_tells

pub returns-clause-gained : goal.returns-clause-gained
returns-clause-gained c = λ h p pool valid can. gain_means h p pool valid ((can_gain_tells h p).0 can).0

pub returns-clause-gained_pool : goal.returns-clause-gained_pool
returns-clause-gained_pool c = λ h p pool valid can. gain_keeps h p pool valid ((can_gain_tells h p).0 can).0 ((can_gain_tells h p).0 can).1
