-- Plans of what is configured.
use Rattle.std.proofs.Common.{◌≡◌, refl, ap, ◌∙◌, sym, subst, ℕ, suc, ◌+◌, ◌<◌, arith, List, [], ◌∷◌, ◌++◌, map, take, length, slice_get, Option}
use Rattle.std.proofs.Common.{None, Some}
use Rattle.grasp_cbor.proofs.Facts.Lists.{length_map}
use Rattle.grasp_config.specs.Laws.{IsInRange}
use Rattle.grasp_config.specs.declared.serve.ServeConfig.{ServeConfig}
use Rattle.grasp_model_node.specs.declared.plan.NodePlan.{NodePlan}
use Rattle.grasp_node_main.proofs.Lining.{front_more}
use Rattle.grasp_node_main.specs.Plans.{AreWantsOf, beacon_plan_of, IsPlanOf}
use Rattle.grasp_node_main.specs.declared.plan.BeaconPlan.{BeaconPlan}
use Rattle.grasp_node_main.specs.declared.plan.DaemonPlan.{DaemonPlan}
use Rattle.grasp_service.specs.declared.plan.HeraldPlan.{HeraldPlan}
use Rattle.grasp_service.specs.declared.plan.ServicePlan.{ServicePlan}
use Rattle.grasp_serve_main.specs.Plans.{herald_plan_of, pace_of, IsServicePlanOf}

heralds_behind : (every : Option ℕ) (bs : List BeaconPlan) (b : BeaconPlan) → map (herald_plan_of every) (bs ++ b ∷ []) ≡ map (herald_plan_of every) bs ++ herald_plan_of every b ∷ []
heralds_behind every [] b = refl
heralds_behind every (c ∷ bs) b = ap (λ l. herald_plan_of every c ∷ l) (heralds_behind every bs b)

-- one more beacon
pub herald_planned : (every : Option ℕ) (bs : List BeaconPlan) (i : ℕ) (b : BeaconPlan) (ps news : List HeraldPlan) (p : HeraldPlan) → slice_get bs i ≡ Some b → ps ≡ map (herald_plan_of every) (take i bs)
    → p ≡ herald_plan_of every b → news ≡ ps ++ p ∷ [] → news ≡ map (herald_plan_of every) (take (i + 1) bs)
herald_planned every bs i b ps news p at are is e =
    let next : i + 1 ≡ suc i = omega arith in
    e ∙ ap (λ l. l ++ p ∷ []) are ∙ ap (λ q. map (herald_plan_of every) (take i bs) ++ q ∷ []) is
    ∙ sym (ap (λ k. map (herald_plan_of every) (take k bs)) next ∙ ap (λ l. map (herald_plan_of every) l) (front_more bs i b at) ∙ heralds_behind every (take i bs) b)

-- the node and its agents
pub service_planned : (c : ServeConfig) (seed : List ℕ) (d : DaemonPlan) (heralds : List HeraldPlan) (p : ServicePlan) → IsPlanOf c.node seed d → heralds ≡ map (herald_plan_of c.serve.every) d.beacons
    → p.node ≡ record d.node { locator = c.serve.locator } → p.roots ≡ d.roots → p.wants ≡ d.wants → p.pace ≡ pace_of c → p.heralds ≡ heralds → p.readers ≡ d.readers
    → p.tick ≡ c.serve.tick → p.level ≡ c.serve.log → (c.serve.store ≡ None → p.agent ≡ None) → IsServicePlanOf c seed p
service_planned c seed d heralds p planned are n r w pace h l t log agent = record {
  node = n ∙ ap (λ (x : NodePlan). record x { locator = c.serve.locator }) planned.node;
  roots = r ∙ planned.roots;
  wants = subst (λ ws. AreWantsOf c.node.wants ws) (sym w) planned.wants;
  pace = pace;
  heralds = h ∙ are ∙ ap (λ bs. map (herald_plan_of c.serve.every) bs) planned.beacons;
  readers = l ∙ planned.readers;
  tick = t;
  level = log;
  agent = agent;
}

-- a configuration within its limits has few agents
pub few_heralds : (c : ServeConfig) (seed : List ℕ) (p : ServicePlan) → IsInRange c.node → IsServicePlanOf c seed p → length p.heralds < 255
few_heralds c seed p range planned =
    let same : length p.heralds ≡ length c.node.beacons =
    ap (λ (l : List HeraldPlan). length l) planned.heralds ∙ length_map (herald_plan_of c.serve.every) (map beacon_plan_of c.node.beacons) ∙ length_map beacon_plan_of c.node.beacons in
    omega (arith, same, range.few_agents)

pub few_listeners : (c : ServeConfig) (seed : List ℕ) (p : ServicePlan) → IsInRange c.node → IsServicePlanOf c seed p → length p.readers < 255
few_listeners c seed p range planned =
    let same : length p.readers ≡ length c.node.readers = ap (λ (l : List (List ℕ)). length l) planned.readers in
    omega (arith, same, range.few_agents)
