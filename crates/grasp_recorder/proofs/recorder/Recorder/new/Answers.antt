use Rattle.std.proofs.Common.{refl}
use Rattle.grasp_recorder.proofs.Known.{known_first}
use Rattle.grasp_recorder.proofs.recorder.Recorder.new.Goals as goal

pub returns : goal.returns
returns c = λ plan good. known_first _ plan refl good
