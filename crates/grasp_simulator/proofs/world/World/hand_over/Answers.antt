use Rattle.std.proofs.Common.{◌≡◌, ◌∙◌, subst, ◌+◌, List, ◌∷◌, drop}
use Rattle.grasp_types.specs.declared.traffic.Output.{Output}
use Rattle.grasp_simulator.proofs.HandsOver.{AllHanding, hands_one, hands_all}
use Rattle.grasp_simulator.proofs.WayLines.{at_drop, drop_all}
use Rattle.grasp_simulator.proofs.world.World.hand_over.Goals as goal

pub loop-output-preserved : goal.loop-output-preserved
loop-output-preserved c =
    let outputs = c.args.outputs.now in
    let i = c.loop-output.output-index in
    let next : drop i outputs ≡ c.output-item.result ∷ drop (i + 1) outputs = at_drop outputs i c.output-item.result c.loop-output-test.true c.output-item.is in
    record {
      hands = hands_one c.args.self.now c.loop-output.self c.put.new.self c.args.node c.args.life outputs c.output-item.result (drop (i + 1) outputs)
          (subst (λ (rest : List Output). AllHanding c.args.self.now c.loop-output.self c.args.node c.args.life outputs rest) next c.loop-output.invariant.hands) c.in_ok-put.ensures.puts;
      count = c.in_ok-put.ensures.count ∙ c.loop-output.invariant.count;
      notes = c.in_ok-put.ensures.notes ∙ c.loop-output.invariant.notes;
    }

pub returns-clause-hands : goal.returns-clause-hands
returns-clause-hands c =
    hands_all c.args.self.now c.loop-output.self c.args.node c.args.life c.args.outputs.now (drop c.loop-output.output-index c.args.outputs.now) c.loop-output.invariant.hands (drop_all c.args.outputs.now c.loop-output.output-index c.loop-output-test.false)
