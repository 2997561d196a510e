use Rattle.grasp_script.specs.declared.line.LineAct.TheVariants as plain
use Rattle.grasp_script_doubts.specs.declared.line.DoubtLineAct.TheVariants as act
use Rattle.grasp_model_doubts.specs.declared.event.DoubtEvent.TheVariants as doubt
use Rattle.grasp_runner_doubts.proofs.Telling.{act_runs, act_starves, asked, lent_can, placed_is}
use Rattle.grasp_runner_doubts.proofs.lines.run_event.Goals as goal

pub placed_event-requires : goal.placed_event-requires
placed_event-requires c = lent_can c.args.world.now c.world.result.now c.world.ensures c.args.event.now c.requires

pub run_step-requires : goal.run_step-requires
run_step-requires c =
    asked c.args.world.now (act.Plain (plain.Event c.args.event.now)) (doubt.Plain c.in-Ok.placed)
    (placed_is c.args.world.now c.world.result.now c.world.ensures c.args.event.now c.in-Ok.placed c.in-Ok.ensures) c.requires

pub returns-in-Ok : goal.returns-in-Ok
returns-in-Ok c =
    act_runs c.args.world.now c.run_step.new.world c.args.text.now (act.Plain (plain.Event c.args.event.now)) (doubt.Plain c.in-Ok.placed)
    (placed_is c.args.world.now c.world.result.now c.world.ensures c.args.event.now c.in-Ok.placed c.in-Ok.ensures) c.run_step.result
    c.run_step.ensures

pub returns-in-Err : goal.returns-in-Err
returns-in-Err c = act_starves c.args.world.now c.args.text.now (act.Plain (plain.Event c.args.event.now))
