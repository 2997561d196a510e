-- A node may cross threads.
use denote.Param.Send.{IsSend, sendable, view_send}
use denote.Param.SendFields.{declared_send}
use Rattle.std.proofs.Crossing.{crosses}
use Rattle.grasp_asa.specs.contracts.entry.Registered as Registered
use Rattle.grasp_asa.specs.contracts.registry.Registry as Registry
use Rattle.grasp_asa.specs.contracts.registry.Registry.TheInside as RegistryInside
use Rattle.grasp_flood.specs.contracts.cache.FloodCache as FloodCache
use Rattle.grasp_flood.specs.contracts.cache.FloodCache.TheInside as FloodCacheInside
use Rattle.grasp_flood.specs.contracts.kept.FloodKept as FloodKept
use Rattle.grasp_session.proofs.Crosses.{Table-send}
use Rattle.grasp_types.proofs.Crosses.{List-send, Option-send, Value-send, Locator-send, Neighbour-send, Output-send}
use Rattle.grasp_core.specs.contracts.draws.Draws as Draws
use Rattle.grasp_core.specs.contracts.node_core.NodeCore as NodeCore
use Rattle.grasp_model_node.specs.contracts.plan.NodePlan as NodePlan
use Rattle.grasp_core.specs.contracts.queue.Queue as Queue
use Rattle.grasp_core.specs.contracts.queue.Queue.TheInside as QueueInside
use Rattle.grasp_core.specs.contracts.streams.Stream as Stream
use Rattle.grasp_core.specs.contracts.streams.Streams as Streams

NodePlan-send : IsSend NodePlan.the_row
NodePlan-send = declared_send NodePlan.the_type (search (List-send, Locator-send, Neighbour-send, sendable, crosses) depth 60 fits 30000)

Stream-send : IsSend Stream.the_row
Stream-send = declared_send Stream.the_type (search (Option-send, sendable, crosses) depth 60 fits 30000)

Streams-send : IsSend Streams.the_row
Streams-send = declared_send Streams.the_type (search (Stream-send, sendable, crosses) depth 60 fits 30000)

Queue-send : IsSend Queue.the_row
Queue-send = view_send _ _ _ _ _ (declared_send QueueInside.the_type (search (Output-send, sendable, crosses) depth 60 fits 30000))

Draws-send : IsSend Draws.the_row
Draws-send = declared_send Draws.the_type (search (sendable, crosses) depth 60 fits 30000)

Registered-send : IsSend Registered.the_row
Registered-send = declared_send Registered.the_type (search (Option-send, Value-send, sendable, crosses) depth 60 fits 30000)

Registry-send : IsSend Registry.the_row
Registry-send = view_send _ _ _ _ _ (declared_send RegistryInside.the_type (search (Registered-send, sendable, crosses) depth 60 fits 30000))

FloodKept-send : IsSend FloodKept.the_row
FloodKept-send = declared_send FloodKept.the_type (search (sendable, crosses) depth 60 fits 30000, (search (sendable, crosses) depth 60 fits 30000, (search (sendable, crosses) depth 60 fits 30000, (search (Option-send, Value-send, Locator-send, sendable, crosses) depth 60 fits 30000, (search (Option-send, Value-send, Locator-send, sendable, crosses) depth 60 fits 30000, (search (Option-send, Value-send, Locator-send, sendable, crosses) depth 60 fits 30000, tt))))))

FloodCache-send : IsSend FloodCache.the_row
FloodCache-send = view_send _ _ _ _ _ (declared_send FloodCacheInside.the_type (search (FloodKept-send, sendable, crosses) depth 60 fits 30000))

pub NodeCore-send : IsSend NodeCore.the_row
NodeCore-send = declared_send NodeCore.the_type (search (sendable, crosses) depth 60 fits 30000, (NodePlan-send, (search (sendable, crosses) depth 60 fits 30000, (search (sendable, crosses) depth 60 fits 30000, (Registry-send, (Table-send, (search (sendable, crosses) depth 60 fits 30000, (FloodCache-send, (Streams-send, (Queue-send, (Draws-send, tt)))))))))))
