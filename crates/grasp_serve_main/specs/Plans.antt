-- What a node that serves is opened with by its configuration.
use Rattle.std.specs.Prelude.{◌≡◌, ℕ, ◌%◌, Option, None, List, map}
use Rattle.grasp_config.specs.ServeKeys.{pause_of}
use Rattle.grasp_config.specs.declared.serve.ServeConfig.{ServeConfig}
use Rattle.grasp_config.specs.declared.serve.ServeTable.{ServeTable}
use Rattle.grasp_crew.specs.declared.trying.Pace.{Pace}
use Rattle.grasp_desk.specs.declared.desk.DeskPlan.{DeskPlan}
use Rattle.grasp_model_node.specs.declared.plan.NodePlan.{NodePlan}
use Rattle.grasp_node_main.specs.Plans.{node_plan_of, beacon_plan_of, AreWantsOf}
use Rattle.grasp_node_main.specs.declared.plan.BeaconPlan.{BeaconPlan}
use Rattle.grasp_service.specs.declared.plan.HeraldPlan.{HeraldPlan}
use Rattle.grasp_service.specs.declared.plan.ServicePlan.{ServicePlan}
use Rattle.grasp_types.specs.declared.address.Address.{Address}
use Rattle.grasp_types.specs.declared.address.Address.TheVariants.{V4, V6}

-- where visitors come in
abbrev pub desk_plan_of : ServeTable → DeskPlan
desk_plan_of t = record { control = t.control; guests = t.guests; mode = t.mode; visitors = t.visitors }

-- the last byte of an address, by which nodes that begin together don't ask together
abbrev pub salt_of : Address → ℕ
salt_of (V4 number) = number % 256
salt_of (V6 number) = number % 256

-- how fast a want is tried again
abbrev pub pace_of : ServeConfig → Pace
pace_of c = record { first = c.serve.retry; most = c.serve.retry_most; salt = salt_of c.node.address }

-- the node tells others the locator of the table `serve`
abbrev pub serve_plan_of : ServeConfig → List ℕ → NodePlan
serve_plan_of c seed = record (node_plan_of c.node seed) { locator = c.serve.locator }

-- a beacon with its longest pause
abbrev pub herald_plan_of : Option ℕ → BeaconPlan → HeraldPlan
herald_plan_of every b = record { name = b.name; value = b.value; ttl = b.ttl; loops = b.loops; every = pause_of every b.ttl }

-- the node and its agents are planned as they are configured: with the roots, where the pool is forgotten
pub record IsServicePlanOf (c : ServeConfig) (seed : List ℕ) (p : ServicePlan) : Type 0 where
  pub node : p.node ≡ serve_plan_of c seed
  pub roots : p.roots ≡ c.node.roots
  pub wants : AreWantsOf c.node.wants p.wants
  pub pace : p.pace ≡ pace_of c
  pub heralds : p.heralds ≡ map (herald_plan_of c.serve.every) (map beacon_plan_of c.node.beacons)
  pub readers : p.readers ≡ c.node.readers
  pub tick : p.tick ≡ c.serve.tick
  pub level : p.level ≡ c.serve.log
  pub agent : c.serve.store ≡ None → p.agent ≡ None
