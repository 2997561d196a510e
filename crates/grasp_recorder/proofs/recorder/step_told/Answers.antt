use Rattle.std.proofs.Common.{rules, ◌≡◌, refl, inr, sym, subst, Bool, true, false, Err}
use Rattle.grasp_model_network.specs.Sending.{event_drain}
use Rattle.grasp_recorder.specs.Taking.{TellsStep, drained_line}
use Rattle.grasp_recorder.proofs.Clocks.{alone_told, both_told}
use Rattle.grasp_recorder.proofs.recorder.step_told.Goals as goal

pub returns-then-not-drained : goal.returns-then-not-drained
returns-then-not-drained c =
    let none : c.args.drained ≡ false = search rules in
    subst (λ (b : Bool). TellsStep c.args.world.now c.args.world.now c.args.line.now b c.told.result) (sym none) (alone_told c.args.world.now c.args.line.now c.one_line.result c.told.result c.one_line.ensures c.told.ensures)

pub returns-in-Ok : goal.returns-in-Ok
returns-in-Ok c =
    let some : c.args.drained ≡ true = search rules in
    subst (λ (b : Bool). TellsStep c.args.world.now c.drain.new.self c.args.line.now b c.told-in-Ok.result) (sym some)
    (both_told c.args.world.now c.drain.new.self c.args.line.now (drained_line c.args.line.now.node c.args.line.now.now event_drain c.in-Ok.outputs) c.in-Ok.outputs c.step_and_drain_told.result c.told-in-Ok.result
    c.in-Ok.ensures.steps c.in-Ok.ensures.outputs refl c.step_and_drain_told.ensures c.told-in-Ok.ensures)

pub returns-in-Err : goal.returns-in-Err
returns-in-Err c =
    let some : c.args.drained ≡ true = search rules in
    subst (λ (b : Bool). TellsStep c.args.world.now c.drain.new.self c.args.line.now b (Err c.in-Err.stop)) (sym some) (inr c.in-Err.ensures.steps)
