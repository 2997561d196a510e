use Rattle.grasp_script_doubts.specs.declared.line.DoubtLineAct.TheVariants as act
use Rattle.grasp_model_doubts.specs.declared.event.DoubtEvent.TheVariants as doubt
use Rattle.grasp_runner_doubts.proofs.Telling.{ask_event, asked_so, can_so, doubter_event, runs_so, steps_so}
use Rattle.grasp_runner_doubts.proofs.lines.run_doubt_line.Goals as goal

pub run_plain-requires : goal.run_plain-requires
run_plain-requires c = can_so c.args.world.now c.args.line.now.act _ c.in-Plain.is c.requires

pub returns-in-Plain : goal.returns-in-Plain
returns-in-Plain c =
    runs_so c.args.world.now c.run_plain.new.world c.args.line.now.text c.args.line.now.act _ c.in-Plain.is c.run_plain.result c.run_plain.ensures

pub run_step-requires : goal.run_step-requires
run_step-requires c =
    asked_so c.args.world.now c.args.line.now.act (act.Doubter c.in-Doubter.node) (doubt.Doubter c.in-Doubter.node) c.in-Doubter.is
    (doubter_event c.args.world.now c.in-Doubter.node) c.requires

pub returns-in-Doubter : goal.returns-in-Doubter
returns-in-Doubter c =
    steps_so c.args.world.now c.run_step.new.world c.args.line.now.text c.args.line.now.act (act.Doubter c.in-Doubter.node)
    (doubt.Doubter c.in-Doubter.node) c.in-Doubter.is (doubter_event c.args.world.now c.in-Doubter.node) c.run_step.result c.run_step.ensures

pub run_step-requires-in-Ask : goal.run_step-requires-in-Ask
run_step-requires-in-Ask c =
    asked_so c.args.world.now c.args.line.now.act (act.Ask c.in-Ask.node c.in-Ask.prefix c.in-Ask.peer)
    (doubt.Ask c.in-Ask.node c.in-Ask.prefix c.in-Ask.peer) c.in-Ask.is
    (ask_event c.args.world.now c.in-Ask.node c.in-Ask.prefix c.in-Ask.peer) c.requires

pub returns-in-Ask : goal.returns-in-Ask
returns-in-Ask c =
    steps_so c.args.world.now c.run_step-in-Ask.new.world c.args.line.now.text c.args.line.now.act
    (act.Ask c.in-Ask.node c.in-Ask.prefix c.in-Ask.peer) (doubt.Ask c.in-Ask.node c.in-Ask.prefix c.in-Ask.peer) c.in-Ask.is
    (ask_event c.args.world.now c.in-Ask.node c.in-Ask.prefix c.in-Ask.peer) c.run_step-in-Ask.result c.run_step-in-Ask.ensures
