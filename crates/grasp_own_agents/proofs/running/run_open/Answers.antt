use Rattle.std.proofs.Common.{refl}
use Rattle.grasp_own_agents.proofs.Turns.{ran_open, short_none}
use Rattle.grasp_own_agents.proofs.running.run_open.Goals as goal

pub returns-then-not-open_links-clause-short : goal.returns-then-not-open_links-clause-short
returns-then-not-open_links-clause-short g c = λ e. short_none c.args.core.now

pub returns-in-Ok-clause-done : goal.returns-in-Ok-clause-done
returns-in-Ok-clause-done g c = λ e. ran_open g.A.Agent _ _ _ _ _ _ _ _ _ _ _ _ _ _ (c.if-not-open_links.ensures.opens refl) c.in-Ok.ensures c.drain_last.ensures
