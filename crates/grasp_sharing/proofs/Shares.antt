-- Threads may share a node.
use denote.RattleType.{RattleType}
use denote.Param.Send.{IsSync, sendable, view_sync}
use denote.Param.SendFields.{declared_sync, variants_sync}
use Rattle.std.proofs.Crossing.{crosses, Vec-sync}
use Rattle.std.specs.contracts.option.Option as Option
use Rattle.grasp_cbor.specs.contracts.tree.Item as Item
use Rattle.grasp_types.specs.contracts.address.Locator as Locator
use Rattle.grasp_types.specs.contracts.links.Neighbour as Neighbour
use Rattle.grasp_types.specs.contracts.list.List as List
use Rattle.grasp_types.specs.contracts.list.List.TheInside as ListInside
use Rattle.grasp_types.specs.contracts.objective.Objective as Objective
use Rattle.grasp_types.specs.contracts.traffic.Output as Output
use Rattle.grasp_types.specs.contracts.value.Value as Value
use Rattle.grasp_types.specs.contracts.value.Value.TheInside as ValueInside
use Rattle.grasp_asa.specs.contracts.entry.Registered as Registered
use Rattle.grasp_asa.specs.contracts.registry.Registry as Registry
use Rattle.grasp_asa.specs.contracts.registry.Registry.TheInside as RegistryInside
use Rattle.grasp_flood.specs.contracts.cache.FloodCache as FloodCache
use Rattle.grasp_flood.specs.contracts.cache.FloodCache.TheInside as FloodCacheInside
use Rattle.grasp_flood.specs.contracts.kept.FloodKept as FloodKept
use Rattle.grasp_session.specs.contracts.session.Ending as Ending
use Rattle.grasp_session.specs.contracts.session.Session as Session
use Rattle.grasp_session.specs.contracts.places.Places as Places
use Rattle.grasp_session.specs.contracts.table.Table as Table
use Rattle.grasp_model_node.specs.contracts.plan.NodePlan as NodePlan
use Rattle.grasp_core.specs.contracts.draws.Draws as Draws
use Rattle.grasp_core.specs.contracts.node_core.NodeCore as NodeCore
use Rattle.grasp_core.specs.contracts.queue.Queue as Queue
use Rattle.grasp_core.specs.contracts.queue.Queue.TheInside as QueueInside
use Rattle.grasp_core.specs.contracts.streams.Stream as Stream
use Rattle.grasp_core.specs.contracts.streams.Streams as Streams

-- ---- values of the types

List-sync : (R : RattleType) → IsSync R → IsSync (List.the_row R)
List-sync R s = view_sync _ _ _ _ _ (declared_sync (ListInside.the_type R) (Vec-sync _ s, tt))

Option-sync : (R : RattleType) → IsSync R → IsSync (Option.the_row R)
Option-sync R s = variants_sync (Option.enum R) (search (s, sendable, crosses) depth 60 fits 5000)

-- an item is given, since it holds itself
module _ (item : IsSync Item.the_row) where
  Value-sync : IsSync Value.the_row
  Value-sync = let i : IsSync ValueInside.the_row = declared_sync ValueInside.the_type (item, tt) in view_sync _ _ _ _ _ i

  Locator-sync : IsSync Locator.the_row
  Locator-sync = variants_sync Locator.enum (search (Option-sync, sendable, crosses) depth 60 fits 30000)

  Objective-sync : IsSync Objective.the_row
  Objective-sync = declared_sync Objective.the_type (search (Value-sync, Option-sync, sendable, crosses) depth 60 fits 5000)

  Neighbour-sync : IsSync Neighbour.the_row
  Neighbour-sync = declared_sync Neighbour.the_type (search (Locator-sync, sendable, crosses) depth 60 fits 5000)

  Output-sync : IsSync Output.the_row
  Output-sync = variants_sync Output.enum (search (Locator-sync, sendable, crosses) depth 60 fits 30000)

  -- ---- a table of sessions

  Ending-sync : IsSync Ending.the_row
  Ending-sync = variants_sync Ending.enum (search (Objective-sync, Option-sync, sendable, crosses) depth 60 fits 30000)

  Session-sync : IsSync Session.the_row
  Session-sync = declared_sync Session.the_type (search (Objective-sync, Ending-sync, Option-sync, sendable, crosses) depth 60 fits 30000)

  Places-sync : IsSync Places.the_row
  Places-sync = search (Session-sync, sendable, crosses) depth 60 fits 30000

  pub Table-sync : IsSync Table.the_row
  Table-sync = declared_sync Table.the_type (search (Places-sync, sendable, crosses) depth 60 fits 30000)

  -- ---- a node

  NodePlan-sync : IsSync NodePlan.the_row
  NodePlan-sync = declared_sync NodePlan.the_type (search (List-sync, Locator-sync, Neighbour-sync, sendable, crosses) depth 60 fits 30000)

  Stream-sync : IsSync Stream.the_row
  Stream-sync = declared_sync Stream.the_type (search (Option-sync, sendable, crosses) depth 60 fits 30000)

  Streams-sync : IsSync Streams.the_row
  Streams-sync = declared_sync Streams.the_type (search (Stream-sync, sendable, crosses) depth 60 fits 30000)

  Queue-sync : IsSync Queue.the_row
  Queue-sync = view_sync _ _ _ _ _ (declared_sync QueueInside.the_type (search (Output-sync, sendable, crosses) depth 60 fits 30000))

  Draws-sync : IsSync Draws.the_row
  Draws-sync = declared_sync Draws.the_type (search (sendable, crosses) depth 60 fits 30000)

  Registered-sync : IsSync Registered.the_row
  Registered-sync = declared_sync Registered.the_type (search (Option-sync, Value-sync, sendable, crosses) depth 60 fits 30000)

  Registry-sync : IsSync Registry.the_row
  Registry-sync = view_sync _ _ _ _ _ (declared_sync RegistryInside.the_type (search (Registered-sync, sendable, crosses) depth 60 fits 30000))

  FloodKept-sync : IsSync FloodKept.the_row
  FloodKept-sync = declared_sync FloodKept.the_type (search (sendable, crosses) depth 60 fits 30000, (search (sendable, crosses) depth 60 fits 30000, (search (sendable, crosses) depth 60 fits 30000, (search (Option-sync, Value-sync, sendable, crosses) depth 60 fits 30000, (search (Option-sync, Locator-sync, sendable, crosses) depth 60 fits 30000, (search (Option-sync, sendable, crosses) depth 60 fits 30000, tt))))))

  FloodCache-sync : IsSync FloodCache.the_row
  FloodCache-sync = view_sync _ _ _ _ _ (declared_sync FloodCacheInside.the_type (search (FloodKept-sync, sendable, crosses) depth 60 fits 30000))

  pub NodeCore-sync : IsSync NodeCore.the_row
  NodeCore-sync = declared_sync NodeCore.the_type (search (sendable, crosses) depth 60 fits 30000, (NodePlan-sync, (search (sendable, crosses) depth 60 fits 30000, (search (sendable, crosses) depth 60 fits 30000, (Registry-sync, (Table-sync, (search (sendable, crosses) depth 60 fits 30000, (FloodCache-sync, (Streams-sync, (Queue-sync, (Draws-sync, tt)))))))))))
