use Rattle.std.proofs.Common.{ap}
use Rattle.grasp_script_doubts.specs.declared.line.DoubtLineAct.TheVariants as act
use Rattle.grasp_runner_doubts.proofs.Telling.{can_so, look_tells, runs_so}
use Rattle.grasp_runner_doubts.proofs.lines.run_plain.Goals as goal

pub run_event-requires : goal.run_event-requires
run_event-requires c = can_so c.args.world.now _ _ (ap act.Plain c.in-Event.is) c.requires

pub returns-in-Event : goal.returns-in-Event
returns-in-Event c =
    runs_so c.args.world.now c.run_event.new.world c.args.text.now _ _ (ap act.Plain c.in-Event.is) c.run_event.result c.run_event.ensures

pub look-requires : goal.look-requires
look-requires c = can_so c.args.world.now _ _ (ap act.Plain c.in-State.is) c.requires

pub returns-in-State : goal.returns-in-State
returns-in-State c = look_tells c.args.world.now c.args.text.now c.in-State.node c.args.act.now c.in-State.is c.look.result c.look.ensures
