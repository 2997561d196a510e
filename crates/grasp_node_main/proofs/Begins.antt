-- A node and its agents to which nothing has happened.
use Rattle.std.proofs.Common.{◌≡◌, refl, sym, ap, ◌∙◌, subst, arith, ℕ, zero, suc, ◌+◌, ◌<◌, false, List, [], ◌∷◌, ◌++◌, length, map, take, slice_get, Some, nat_lt, append_assoc}
use Rattle.std.specs.Prelude.{option_map}
use Rattle.std.proofs.lemmas.List.{length-append, map-append}
use Rattle.std.proofs.lemmas.Bool.{ltb-false}
use Rattle.std.proofs.lemmas.Option.{slice_get-map}
use Rattle.grasp_agent.specs.Announcing.{first_beacon, first_reader}
use Rattle.grasp_cbor.proofs.Facts.Bools.{left_false, right_false}
use Rattle.grasp_laws_node.proofs.Divided.Nodes.{fed_nodes_kept}
use Rattle.grasp_laws_node.proofs.Bounded.Nodes.{nodes_kept}
use Rattle.grasp_model_node.specs.Node.{first_node}
use Rattle.grasp_model_node.specs.Plan.{is_bad_plan}
use Rattle.grasp_core.specs.Stands.{NodeStands}
use Rattle.grasp_core.specs.declared.node_core.NodeCore.{NodeCore}
use Rattle.grasp_model_node.specs.declared.plan.NodePlan.{NodePlan}
use Rattle.grasp_node_main.specs.Crew.{beacons_from, readers_from, crew_with}
use Rattle.grasp_pool.specs.declared.roots.RootPrefix.{RootPrefix}
use Rattle.grasp_shared.specs.History.{Reaches}
use Rattle.grasp_node_main.specs.Seats.{first_seat, SeatStands, SeatsStand}
use Rattle.grasp_node_main.specs.declared.plan.BeaconPlan.{BeaconPlan}
use Rattle.grasp_node_main.specs.declared.seated_agent.SeatedAgent.{SeatedAgent}
use Rattle.grasp_node_main.specs.declared.want_plan.WantPlan.{WantPlan}
use Rattle.grasp_node_main.specs.declared.worker.Worker.{Worker}
use Rattle.grasp_node_main.specs.declared.worker.Worker.TheVariants.{Beacon, Reader}

-- a core that was opened
pub core_begins : (plan : NodePlan) (core : NodeCore) → NodeStands core (first_node plan) → is_bad_plan plan ≡ false → Reaches (first_node plan) [] core
core_begins plan core stands good =
    let most = ltb-false 65535 plan.limit (right_false _ (nat_lt 65535 plan.limit) good) in
    let least = ltb-false plan.limit 2048 (right_false _ (nat_lt plan.limit 2048) (left_false _ (nat_lt 65535 plan.limit) good)) in
    record {
      to = first_node plan;
      legal = refl;
      stands = stands;
      node = nodes_kept.0 plan;
      fed = fed_nodes_kept.0 plan (omega (arith, least));
      limit = omega (arith, most);
    }

-- agents that have made no call
pub seats_begin : (crew : List Worker) (seats : List SeatedAgent) → seats ≡ map first_seat crew → SeatsStand crew [] 0 seats
seats_begin crew seats are = subst (SeatsStand crew [] 0) (sym are) (record { same = same crew; each = each }) where
  same : (ws : List Worker) → length (map first_seat ws) ≡ length ws
  same [] = refl
  same (w ∷ ws) = ap suc (same ws)

  first : (w : Worker) (s : SeatedAgent) → first_seat w ≡ s → SeatStands w [] 0 s
  first w s e = subst (SeatStands w [] 0) e (record { calls_are = tt; most = omega arith; going = λ _. (refl, refl) })

  each : (place : ℕ) (w : Worker) (s : SeatedAgent) → slice_get crew place ≡ Some w → slice_get (map first_seat crew) place ≡ Some s → SeatStands w [] 0 s
  each place w s atw ats = first w s (let e : Some (first_seat w) ≡ Some s = sym (slice_get-map first_seat crew place ∙ ap (option_map first_seat) atw) ∙ ats in cc)

-- one more beacon
beacons_more : (n : ℕ) (bs : List BeaconPlan) (i k : ℕ) (b : BeaconPlan) → slice_get bs i ≡ Some b → k ≡ n + i → beacons_from n (take (suc i) bs) ≡ beacons_from n (take i bs) ++ Beacon (first_beacon k b.name b.value b.ttl b.loops) ∷ []
beacons_more n [] i k b at e = absurd (cc)
beacons_more n (x ∷ bs) zero k b at e = let same : x ≡ b = cc in let number : n ≡ k = omega (arith, e) in ap (λ m. Beacon (first_beacon m x.name x.value x.ttl x.loops) ∷ []) number ∙ ap (λ (y : BeaconPlan). Beacon (first_beacon k y.name y.value y.ttl y.loops) ∷ []) same
beacons_more n (x ∷ bs) (suc i) k b at e = ap (λ l. Beacon (first_beacon n x.name x.value x.ttl x.loops) ∷ l) (beacons_more (n + 1) bs i k b at (omega (arith, e)))

-- one more reader
readers_more : (n : ℕ) (names : List (List ℕ)) (i k : ℕ) (name : List ℕ) → slice_get names i ≡ Some name → k ≡ n + i → readers_from n (take (suc i) names) ≡ readers_from n (take i names) ++ Reader (first_reader k name) ∷ []
readers_more n [] i k name at e = absurd (cc)
readers_more n (x ∷ names) zero k name at e = let same : x ≡ name = cc in let number : n ≡ k = omega (arith, e) in ap (λ m. Reader (first_reader m x) ∷ []) number ∙ ap (λ y. Reader (first_reader k y) ∷ []) same
readers_more n (x ∷ names) (suc i) k name at e = ap (λ l. Reader (first_reader n x) ∷ l) (readers_more (n + 1) names i k name at (omega (arith, e)))

-- agents behind agents
one_more_seat : (old seats : List SeatedAgent) (ws vs : List Worker) (w : Worker) → seats ≡ old ++ map first_seat ws → vs ≡ ws ++ w ∷ [] → seats ++ first_seat w ∷ [] ≡ old ++ map first_seat vs
one_more_seat old seats ws vs w h e =
    ap (λ l. l ++ first_seat w ∷ []) h ∙ append_assoc old (map first_seat ws) (first_seat w ∷ [])
    ∙ ap (λ l. old ++ l) (sym (map-append first_seat ws (w ∷ [])) ∙ ap (map first_seat) (sym e))

pub beacon_added : (old seats : List SeatedAgent) (bs : List BeaconPlan) (i : ℕ) (b : BeaconPlan) → slice_get bs i ≡ Some b → seats ≡ old ++ map first_seat (beacons_from 1 (take i bs))
    → seats ++ first_seat (Beacon (first_beacon (i + 1) b.name b.value b.ttl b.loops)) ∷ [] ≡ old ++ map first_seat (beacons_from 1 (take (i + 1) bs))
beacon_added old seats bs i b at h =
    let next : i + 1 ≡ suc i = omega arith in
    one_more_seat old seats (beacons_from 1 (take i bs)) (beacons_from 1 (take (i + 1) bs)) (Beacon (first_beacon (i + 1) b.name b.value b.ttl b.loops)) h
    (ap (λ m. beacons_from 1 (take m bs)) next ∙ beacons_more 1 bs i (i + 1) b at (omega arith))

pub reader_added : (old seats : List SeatedAgent) (names : List (List ℕ)) (i : ℕ) (name : List ℕ) → slice_get names i ≡ Some name → seats ≡ old ++ map first_seat (readers_from 1 (take i names))
    → seats ++ first_seat (Reader (first_reader (i + 1) name)) ∷ [] ≡ old ++ map first_seat (readers_from 1 (take (i + 1) names))
reader_added old seats names i name at h =
    let next : i + 1 ≡ suc i = omega arith in
    one_more_seat old seats (readers_from 1 (take i names)) (readers_from 1 (take (i + 1) names)) (Reader (first_reader (i + 1) name)) h
    (ap (λ m. readers_from 1 (take m names)) next ∙ readers_more 1 names i (i + 1) name at (omega arith))

-- ---- how many they are

beacons_count : (n : ℕ) (bs : List BeaconPlan) → length (beacons_from n bs) ≡ length bs
beacons_count n [] = refl
beacons_count n (b ∷ bs) = ap suc (beacons_count (n + 1) bs)

readers_count : (n : ℕ) (names : List (List ℕ)) → length (readers_from n names) ≡ length names
readers_count n [] = refl
readers_count n (x ∷ names) = ap suc (readers_count (n + 1) names)

-- few agents have passes enough
pub few_seats : (roots : List RootPrefix) (wants : List WantPlan) (beacons : List BeaconPlan) (readers : List (List ℕ)) (seats : List SeatedAgent) → length beacons < 255 → length readers < 255
    → SeatsStand (crew_with roots wants beacons readers) [] 0 seats → length seats < 4294967294
few_seats roots wants beacons readers seats few some stand =
    let both = length-append (beacons_from 1 beacons) (readers_from 1 readers) in
    omega (arith, few, some, stand.same, both, beacons_count 1 beacons, readers_count 1 readers)
