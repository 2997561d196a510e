-- Agents with their passes may cross threads.
use denote.Param.Send.{IsSend, IsSync, sendable, view_send}
use denote.Param.SendFields.{variants_send, declared_send, declared_sync}
use Rattle.std.proofs.Crossing.{crosses}
use Rattle.grasp_types.proofs.Crosses.{List-send, Option-send, Locator-send}
use Rattle.grasp_agent.proofs.Crosses.{PrefixAgent-send, Beacon-send, Reader-send}
use Rattle.grasp_shared.proofs.Crosses.{Pass-send}
use Rattle.grasp_node_main.specs.contracts.manager.Manager as Manager
use Rattle.grasp_node_main.specs.contracts.manager.Manager.TheInside as ManagerInside
use Rattle.grasp_node_main.specs.contracts.named_reader.NamedReader as NamedReader
use Rattle.grasp_node_main.specs.contracts.named_reader.NamedReader.TheInside as NamedReaderInside
use Rattle.grasp_node_main.specs.contracts.pace.Pace as Pace
use Rattle.grasp_node_main.specs.contracts.seated_agent.SeatedAgent as SeatedAgent
use Rattle.grasp_node_main.specs.contracts.want_plan.WantPlan as WantPlan
use Rattle.grasp_node_main.specs.contracts.worker.Worker as Worker

pub WantPlan-send : IsSend WantPlan.the_row
WantPlan-send = declared_send WantPlan.the_type (search (Locator-send, sendable, crosses) depth 60 fits 30000)

pub Manager-send : IsSend Manager.the_row
Manager-send = view_send _ _ _ _ _ (declared_send ManagerInside.the_type (search (PrefixAgent-send, List-send, WantPlan-send, sendable, crosses) depth 60 fits 30000))

pub NamedReader-send : IsSend NamedReader.the_row
NamedReader-send = view_send _ _ _ _ _ (declared_send NamedReaderInside.the_type (search (Reader-send, sendable, crosses) depth 60 fits 30000))

pub Worker-send : IsSend Worker.the_row
Worker-send = variants_send Worker.enum (search (Manager-send, Beacon-send, NamedReader-send, sendable, crosses) depth 60 fits 30000)

pub SeatedAgent-send : IsSend SeatedAgent.the_row
SeatedAgent-send = declared_send SeatedAgent.the_type (search (Worker-send, Option-send, Pass-send, sendable, crosses) depth 60 fits 30000)

-- threads may share what they keep pace by
pub Pace-sync : IsSync Pace.the_row
Pace-sync = declared_sync Pace.the_type (search (sendable, crosses) depth 60 fits 30000)
