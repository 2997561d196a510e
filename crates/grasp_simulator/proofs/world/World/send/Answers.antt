use Rattle.std.proofs.Common.{subst, sym, ℕ}
use Rattle.grasp_simulator.specs.Sends.{Sends}
use Rattle.grasp_simulator.proofs.world.World.send.Goals as goal

pub returns-clause-sends : goal.returns-clause-sends
returns-clause-sends c = subst (λ (n : ℕ). Sends c.args.self.now c.give.new.self c.args.node c.args.max n) (sym c.len-2.ensures) c.in_ok-give.ensures.sends
