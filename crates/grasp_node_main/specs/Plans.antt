-- What a node is opened with by its configuration.
use Rattle.std.specs.Prelude.{◌≡◌, ℕ, List, [], ◌∷◌, map}
use Rattle.grasp_config.specs.declared.config.BeaconConfig.{BeaconConfig}
use Rattle.grasp_config.specs.declared.config.NodeConfig.{NodeConfig}
use Rattle.grasp_config.specs.declared.config.WantConfig.{WantConfig}
use Rattle.grasp_model_node.specs.declared.plan.NodePlan.{NodePlan}
use Rattle.grasp_io.specs.declared.links.LinkPlan.{LinkPlan}
use Rattle.grasp_node_main.specs.declared.plan.BeaconPlan.{BeaconPlan}
use Rattle.grasp_node_main.specs.declared.plan.DaemonPlan.{DaemonPlan}
use Rattle.grasp_node_main.specs.declared.want_plan.WantPlan.{WantPlan}

-- the plan of a node, which draws its session numbers from this seed
abbrev pub node_plan_of : NodeConfig → List ℕ → NodePlan
node_plan_of c seed = record { address = c.address; locator = c.listen; links = c.links; seed = seed; limit = c.size }

-- the plan of a node's links
abbrev pub link_plan_of : NodeConfig → LinkPlan
link_plan_of c = record { listen = c.listen; links = c.links }

-- the want is planned as it is configured
pub record IsWantOf (c : WantConfig) (w : WantPlan) : Type 0 where
  pub length : w.length ≡ c.length
  pub longest : w.longest ≡ c.longest
  pub peer : w.peer ≡ c.peer

-- each is, in the same order
abbrev pub AreWantsOf : List WantConfig → List WantPlan → Type 0
AreWantsOf [] [] = Unit {0}
AreWantsOf [] (w ∷ ws) = ⊥
AreWantsOf (c ∷ cs) [] = ⊥
AreWantsOf (c ∷ cs) (w ∷ ws) = IsWantOf c w × AreWantsOf cs ws

abbrev pub beacon_plan_of : BeaconConfig → BeaconPlan
beacon_plan_of c = record { name = c.name; value = c.value; ttl = c.ttl; loops = c.loops }

-- the node and its agents are planned as they are configured
pub record IsPlanOf (c : NodeConfig) (seed : List ℕ) (p : DaemonPlan) : Type 0 where
  pub node : p.node ≡ node_plan_of c seed
  pub roots : p.roots ≡ c.roots
  pub wants : AreWantsOf c.wants p.wants
  pub beacons : p.beacons ≡ map beacon_plan_of c.beacons
  pub readers : p.readers ≡ c.readers
  pub turns : p.turns ≡ c.turns
  pub wait : p.wait ≡ c.wait
