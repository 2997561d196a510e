-- Inside: what the code keeps of a decline that is to be said.
use Rattle.std.specs.Prelude.{◌≡◌}
use Rattle.grasp_model_node.specs.Declines.{Declining, declined_for, unlistened}
use Rattle.grasp_model_node.specs.Queue.{encoding}
use Rattle.grasp_core.specs.declared.declining.Planned.{Planned}

abbrev pub planned_as : Planned → Declining
planned_as p = record { handle = p.handle; stream = p.stream; message = p.message }

-- the planned decline has the verdict for a request that nobody listens for, and the encoding of its message
pub record IsPlanned (p : Planned) : Type 0 where
  pub verdict : p.verdict ≡ declined_for unlistened
  pub bytes : p.bytes ≡ encoding p.message
