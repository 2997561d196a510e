use Rattle.grasp_runner.proofs.Placing.{placed_api}
use Rattle.grasp_recorder.proofs.placing.placed_event.Goals as goal

pub returns-in_ok-placed_call-in-Api : goal.returns-in_ok-placed_call-in-Api
returns-in_ok-placed_call-in-Api c = placed_api c.args.world.now c.args.event.now c.in-Api.node c.in-Api.asa _ c.in_ok-placed_call-in-Api.field-0 c.in-Api.hold c.in-Api.is c.in_ok-placed_call-in-Api.ensures
