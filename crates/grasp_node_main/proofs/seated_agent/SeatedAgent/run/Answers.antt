use Rattle.std.proofs.Common.{◌≡◌, arith, subst}
use Rattle.grasp_node_main.specs.Sharing.{SeatGoes}
use Rattle.grasp_node_main.proofs.Seating.{goes_nowhere, goes_on}
use Rattle.grasp_node_main.proofs.seated_agent.SeatedAgent.run.Goals as goal

pub loop-turn-init : goal.loop-turn-init
loop-turn-init g c = goes_nowhere c.args.shared.now c.args.self.now c.requires

pub loop-turn-preserved : goal.loop-turn-preserved
loop-turn-preserved g c = goes_on c.args.shared.now c.loop-turn.turn 1 c.args.self.now c.loop-turn.self c.turn.new.self c.loop-turn.invariant c.turn.ensures

pub returns : goal.returns
returns g c =
    let all : c.loop-turn.turn ≡ c.args.turns = omega (arith, c.loop-turn-test.false, c.loop-turn.auto.turn-end) in
    subst (λ n. SeatGoes c.args.shared.now n c.args.self.now c.loop-turn.self) all c.loop-turn.invariant
