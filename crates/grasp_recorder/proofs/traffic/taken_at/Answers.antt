use Rattle.grasp_recorder.proofs.Took.{api_taken}
use Rattle.grasp_recorder.proofs.traffic.taken_at.Goals as goal

pub returns-in_ok-copy-in-Api : goal.returns-in_ok-copy-in-Api
returns-in_ok-copy-in-Api c = api_taken c.args.world.now c.args.event.now c.in-Api.node c.in-Api.asa _ _ _ c.in-Api.is c.in_ok-copy-in-Api.ensures
