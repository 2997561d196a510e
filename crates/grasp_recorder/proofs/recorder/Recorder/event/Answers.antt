use Rattle.grasp_recorder.proofs.Acts.{act_starved, can_place, can_record, event_recorded}
use Rattle.grasp_recorder.proofs.recorder.Recorder.event.Goals as goal

pub placed_event-requires : goal.placed_event-requires
placed_event-requires c = can_place c.args.self.now c.args.world.now c.args.event.now c.requires

pub placed-requires : goal.placed-requires
placed-requires c = can_record c.args.self.now c.args.world.now c.args.event.now c.in-Ok.placed c.in-Ok.ensures c.requires

pub returns-in-Ok : goal.returns-in-Ok
returns-in-Ok c = event_recorded c.args.self.now c.placed.new.self c.args.world.now c.placed.new.world c.args.event.now c.in-Ok.placed c.placed.result c.in-Ok.ensures c.placed.ensures

pub returns-in-Err : goal.returns-in-Err
returns-in-Err c = act_starved c.args.self.now c.args.self.now c.args.world.now c.args.world.now _
