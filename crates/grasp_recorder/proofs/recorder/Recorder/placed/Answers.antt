use Rattle.grasp_recorder.proofs.Acts.{recorded_step}
use Rattle.grasp_recorder.proofs.recorder.Recorder.placed.Goals as goal

pub step-requires-clause-step : goal.step-requires-clause-step
step-requires-clause-step c = recorded_step c.args.event c.in_default.not-Clock c.in_default.not-Drain
