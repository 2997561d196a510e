use Rattle.grasp_simulator.specs.declared.world.World.{World}
use Rattle.grasp_simulator.proofs.LentOutputs.{outputs_lent}
use Rattle.grasp_simulator.proofs.Presence.{life_read}
use Rattle.std.proofs.Common.{refl, subst, List, length, ◌≡◌, ℕ}
use Rattle.std.specs.Vec.{with_item}
use Rattle.grasp_types.specs.declared.traffic.Output.{Output}
use Rattle.grasp_simulator.proofs.SendGoes.{send_goes}
use Rattle.grasp_simulator.specs.Sends.{HandsOver}
use Rattle.grasp_simulator.proofs.world.World.give.Goals as goal

pub returns-clause-sends : goal.returns-clause-sends
returns-clause-sends c =
    let self = c.args.self.now in
    let own = c.index_mut.result.now in
    let mid : World = record self { seats = with_item self.seats c.from-2.result c.drain.new.self } in
    let read : c.index.result.now.life ≡ c.index_mut.result.now.life = life_read self c.args.node c.from.result c.from-2.result c.index.result.now c.index_mut.result.now c.requires c.from.ensures c.index.ensures c.from-2.ensures c.index_mut.ensures.value in
    send_goes c.streams_are_ready.ensures self c.hand_over.new.self c.args.node c.args.max c.from-2.result (length c.in_ok-outputs.outputs) own c.drain.new.self c.in_ok-outputs.outputs c.requires
    c.in_ok-outputs.ensures.life c.from-2.ensures c.index_mut.ensures.value c.in_ok-outputs.ensures.outputs c.in_ok-outputs.ensures.stands
    (subst (λ (n : ℕ). HandsOver mid c.hand_over.new.self c.args.node n c.in_ok-outputs.outputs) read
    (subst (λ (outputs : List Output). HandsOver mid c.hand_over.new.self c.args.node c.index.result.now.life outputs) c.slice.ensures c.in_ok-hand_over.ensures.hands)) refl

pub returns-clause-gives : goal.returns-clause-gives
returns-clause-gives c =
    outputs_lent c.args.self.now c.args.node c.args.max c.from-2.result c.index_mut.result.now c.in_ok-outputs.outputs c.requires c.from-2.ensures c.index_mut.ensures.value c.in_ok-outputs.ensures.outputs
