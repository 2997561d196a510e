-- Plans of what is configured, one after the other.
use Rattle.std.proofs.Common.{◌≡◌, refl, ap, ◌∙◌, sym, subst, ℕ, suc, ◌+◌, ◌<◌, arith, List, [], ◌∷◌, ◌++◌, map, take, length, slice_get, Some}
use Rattle.grasp_config.specs.Laws.{IsInRange}
use Rattle.grasp_config.specs.declared.config.BeaconConfig.{BeaconConfig}
use Rattle.grasp_config.specs.declared.config.NodeConfig.{NodeConfig}
use Rattle.grasp_config.specs.declared.config.WantConfig.{WantConfig}
use Rattle.grasp_node_main.specs.Plans.{IsWantOf, AreWantsOf, beacon_plan_of, IsPlanOf}
use Rattle.grasp_node_main.specs.declared.plan.BeaconPlan.{BeaconPlan}
use Rattle.grasp_node_main.specs.declared.plan.DaemonPlan.{DaemonPlan}
use Rattle.grasp_node_main.specs.declared.want_plan.WantPlan.{WantPlan}
use Rattle.grasp_node_main.proofs.Lining.{front_more}

wants_behind : (cs : List WantConfig) (ws : List WantPlan) (c : WantConfig) (w : WantPlan) → AreWantsOf cs ws → IsWantOf c w → AreWantsOf (cs ++ c ∷ []) (ws ++ w ∷ [])
wants_behind [] [] c w are is = (is, tt)
wants_behind [] (v ∷ ws) c w are is = absurd are
wants_behind (d ∷ cs) [] c w are is = absurd are
wants_behind (d ∷ cs) (v ∷ ws) c w are is = (are.0, wants_behind cs ws c w are.1 is)

-- one more want
pub want_planned : (cs : List WantConfig) (i : ℕ) (c : WantConfig) (ws news : List WantPlan) (w : WantPlan) → slice_get cs i ≡ Some c → AreWantsOf (take i cs) ws → IsWantOf c w → news ≡ ws ++ w ∷ [] → AreWantsOf (take (i + 1) cs) news
want_planned cs i c ws news w at are is e =
    let next : i + 1 ≡ suc i = omega arith in
    let more : take (i + 1) cs ≡ take i cs ++ c ∷ [] = ap (λ k. take k cs) next ∙ front_more cs i c at in
    subst (λ l. AreWantsOf l news) (sym more) (subst (λ l. AreWantsOf (take i cs ++ c ∷ []) l) (sym e) (wants_behind (take i cs) ws c w are is))

beacons_behind : (cs : List BeaconConfig) (c : BeaconConfig) → map beacon_plan_of (cs ++ c ∷ []) ≡ map beacon_plan_of cs ++ beacon_plan_of c ∷ []
beacons_behind [] c = refl
beacons_behind (d ∷ cs) c = ap (λ l. beacon_plan_of d ∷ l) (beacons_behind cs c)

-- one more beacon
pub beacon_planned : (cs : List BeaconConfig) (i : ℕ) (c : BeaconConfig) (ps news : List BeaconPlan) (p : BeaconPlan) → slice_get cs i ≡ Some c → ps ≡ map beacon_plan_of (take i cs) → p ≡ beacon_plan_of c → news ≡ ps ++ p ∷ [] → news ≡ map beacon_plan_of (take (i + 1) cs)
beacon_planned cs i c ps news p at are is e =
    let next : i + 1 ≡ suc i = omega arith in
    e ∙ ap (λ l. l ++ p ∷ []) are ∙ ap (λ q. map beacon_plan_of (take i cs) ++ q ∷ []) is
    ∙ sym (ap (λ k. map beacon_plan_of (take k cs)) next ∙ ap (λ l. map beacon_plan_of l) (front_more cs i c at) ∙ beacons_behind (take i cs) c)

as_many : (cs : List BeaconConfig) → length (map beacon_plan_of cs) ≡ length cs
as_many [] = refl
as_many (c ∷ cs) = ap suc (as_many cs)

-- a configuration within its limits has few agents
pub few_beacons : (c : NodeConfig) (seed : List ℕ) (p : DaemonPlan) → IsInRange c → IsPlanOf c seed p → length p.beacons < 255
few_beacons c seed p range planned =
    let same : length p.beacons ≡ length c.beacons = ap (λ (l : List BeaconPlan). length l) planned.beacons ∙ as_many c.beacons in
    omega (arith, same, range.few_agents)

pub few_readers : (c : NodeConfig) (seed : List ℕ) (p : DaemonPlan) → IsInRange c → IsPlanOf c seed p → length p.readers < 255
few_readers c seed p range planned =
    let same : length p.readers ≡ length c.readers = ap (λ (l : List (List ℕ)). length l) planned.readers in
    omega (arith, same, range.few_agents)
