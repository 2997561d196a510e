use Rattle.std.proofs.Common.{subst}
use Rattle.grasp_simulator.specs.Lending.{TellsDead}
use Rattle.grasp_tests_turns.proofs.Two.{settle_may}
use Rattle.grasp_tests_turns.proofs.bench.settle.Goals as goal

pub take-requires : goal.take-requires
take-requires c =
    settle_may c.args.world.now c.args.node c.args.prefix c.requires.stands c.requires.node (subst (λ b. TellsDead c.args.world.now c.args.node c.args.prefix b) c.if-not-is_dead.false c.is_dead.ensures)
