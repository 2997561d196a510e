-- What a recorder knows of the readings of a network.
use Rattle.std.proofs.Common.{◌≡◌, ◌≢◌, refl, sym, ap, ◌∙◌, subst, arith, ℕ, ◌-◌, ◌<◌, ◌≤◌, ◌==◌, Bool, true, false, cond, List, length, map, replicate, None, Some, slice_get, slice_set}
use Rattle.std.proofs.lemmas.Bool.{eqb-true, eqb-false}
use Rattle.std.proofs.lemmas.List.{get_or-replicate, length-replicate}
use Rattle.std.proofs.lemmas.Option.{same_Some, slice_get-get_or}
use Rattle.grasp_laws_network.proofs.Begun.{begun_reading}
use Rattle.grasp_laws_network.proofs.EachNode.{IsMade, is_made}
use Rattle.grasp_laws_network.proofs.GoodPlans.{not_zero}
use Rattle.grasp_laws_network.proofs.Lists.{numbered_there}
use Rattle.grasp_laws_network.proofs.LivesKept.{lives_are_kept}
use Rattle.grasp_laws_network.proofs.Others.{set_elsewhere}
use Rattle.grasp_laws_network.proofs.Staying.{set_here}
use Rattle.grasp_laws_network.specs.Lives.{LivesStand}
use Rattle.grasp_pool.specs.Functions.{pool_of}
use Rattle.grasp_model_network.specs.Events.{Occurs, after_event, visit_of}
use Rattle.grasp_model_network.specs.Openings.{first_seat}
use Rattle.grasp_model_network.specs.Plans.{IsGoodPlan, IsNode}
use Rattle.grasp_model_network.specs.Runs.{IsReached, first_world, world_of}
use Rattle.grasp_model_network.specs.Setting.{Setting, numbered, script_setting}
use Rattle.grasp_model_network.specs.Visits.{Choice, Visit}
use Rattle.grasp_model_network.specs.World.{Seat, WorldState, member_of, present_life, seat_at}
use Rattle.grasp_model_network.specs.declared.event.Event.{Event}
use Rattle.grasp_model_network.specs.declared.event.Event.TheVariants as event
use Rattle.grasp_model_network.specs.declared.plan.WorldPlan.{WorldPlan}
use Rattle.grasp_simulator.proofs.FirstWorlds.{first_reached}
use Rattle.grasp_simulator.specs.WorldStands.{WorldStands}
use Rattle.grasp_simulator.specs.declared.world.World.{World}
use Rattle.grasp_runner.specs.Lines.{network_at}
use Rattle.grasp_runner.proofs.Placing.{plan_members}
use Rattle.grasp_model_audit.specs.Naming.{reading_in, reading_of}
use Rattle.grasp_recorder.specs.Lines.{KnowsReadings}
use Rattle.grasp_recorder.specs.Taking.{HasReading}
use Rattle.grasp_recorder.specs.declared.recorder.Recorder.{Recorder}
use Rattle.grasp_recorder.proofs.Readings.{IsNoClock, clock_reads, clock_stays, readings_stay}

-- ---- how many nodes there are

-- a node of a network for which the code goes on is one of 64
pub has_reading : (code : World) (s : Setting) (w : WorldState) (node : ℕ) → WorldStands code (network_at s w) → IsNode (length s.members) node → HasReading node
has_reading code s w node h n =
    let count : length s.members ≡ code.plan.nodes = ap (λ (q : Setting). length q.members) h.stands.goes.keeps.setting ∙ plan_members code.plan in
    let most : node ≤ length s.members = n.most in
    let few : code.plan.nodes ≤ 64 = h.stands.goes.keeps.good.most_nodes in
    record { least = n.least; most = omega (arith, count, most, few) }

-- ---- before anything has happened

all_seats : (s : Setting) → (first_world s).seats ≡ map first_seat s.members
unfolding first_world
all_seats s = refl

first_at : (s : Setting) (life : ℕ) (seat : Seat) → slice_get (map first_seat s.members) life ≡ Some seat → seat.core.reading ≡ 0
first_at s life seat is = by (is_made first_seat s.members life seat is) where
  by : IsMade first_seat s.members life seat → seat.core.reading ≡ 0
  by m = sym (ap (λ (x : Seat). x.core.reading) m.made) ∙ begun_reading m.of.plan (pool_of m.of.roots)

place_of : {A : Type 0} (xs : List A) (n : ℕ) (x : A) → 1 ≤ n → numbered xs n ≡ Some x → slice_get xs (n - 1) ≡ Some x
place_of xs n x least is = subst (λ z. cond z None (slice_get xs (n - 1)) ≡ Some x) (not_zero n least) is

-- each clock reads 0
first_reading : (plan : WorldPlan) (node : ℕ) → IsGoodPlan plan → IsNode (length (script_setting plan).members) node → reading_of (world_of plan) node ≡ 0
first_reading plan node good n = by (numbered_there w.seats (present_life w node) (stand.present node n)) where
  s : Setting
  s = script_setting plan

  w : WorldState
  w = world_of plan

  stand : LivesStand s w
  stand = lives_are_kept s w (first_reached plan good)

  by : (seat : Seat) × (seat_at w (present_life w node) ≡ Some seat) → reading_of w node ≡ 0
  by (seat, here) =
      ap reading_in here
      ∙ first_at s (present_life w node - 1) seat
      (ap (λ (seats : List Seat). slice_get seats (present_life w node - 1)) (sym (all_seats s)) ∙ place_of w.seats (present_life w node) seat (stand.present node n).least here)

pub known_first : (recorder : Recorder) (plan : WorldPlan) → recorder.readings ≡ replicate 64 0 → IsGoodPlan plan → KnowsReadings recorder (script_setting plan) (world_of plan)
known_first recorder plan none good node n =
    ap (λ (xs : List ℕ). slice_get xs (node - 1)) none
    ∙ slice_get-get_or (replicate 64 0) (node - 1) 0 (subst (λ k. node - 1 < k) (sym (length-replicate {A = ℕ} 64 0)) within)
    ∙ ap (λ k. Some k) (get_or-replicate 64 (node - 1) 0 0 within ∙ sym (first_reading plan node good n))
  where
    within : node - 1 < 64
    within =
        let count : length (script_setting plan).members ≡ plan.nodes = plan_members plan in
        let least : 1 ≤ node = n.least in
        let most : node ≤ length (script_setting plan).members = n.most in
        let few : plan.nodes ≤ 64 = good.most_nodes in
        omega (arith, count, least, most, few)

-- ---- behind an event

-- it is the same where no clock shows another reading
pub known_still : (recorder : Recorder) (s : Setting) (w : WorldState) (e : Event) (c : Choice) → IsNoClock e → Occurs s w e c → KnowsReadings recorder s w → KnowsReadings recorder s (after_event s w e c)
known_still recorder s w e c still o knows node n = knows node n ∙ ap (λ k. Some k) (sym (readings_stay s w e c still o.comes node))

-- behind a clock the recorder knows the new reading of its node
pub known_clock : (before after : Recorder) (s : Setting) (w : WorldState) (node millis now : ℕ) (v : Visit) (c : Choice) → IsReached s w → IsNode (length s.members) node → visit_of s w (event.Clock node millis) ≡ Some v
    → v.node ≡ present_life w node → now ≡ c.after.reading → after ≡ record before { readings = slice_set before.readings (node - 1) now } → KnowsReadings before s w
    → KnowsReadings after s (after_event s w (event.Clock node millis) c)
known_clock before after s w node millis now v c r there is own shows set knows other n = by (other == node) refl where
  e : Event
  e = event.Clock node millis

  x : WorldState
  x = after_event s w e c

  stand : LivesStand s w
  stand = lives_are_kept s w r

  readings : slice_get after.readings (other - 1) ≡ slice_get (slice_set before.readings (node - 1) now) (other - 1)
  readings = ap (λ (y : Recorder). slice_get y.readings (other - 1)) set

  apart : other ≢ node → present_life w other ≢ v.node
  apart differ same = differ (sym (stand.own other n) ∙ ap (λ k. member_of w k) (same ∙ own) ∙ stand.own node there)

  places : other ≢ node → other - 1 ≢ node - 1
  places differ same =
      let a : 1 ≤ other = n.least in
      let b : 1 ≤ node = there.least in
      differ (omega (arith, same, a, b))

  by : (b : Bool) → (other == node) ≡ b → slice_get after.readings (other - 1) ≡ Some (reading_of x other)
  by true same =
      let one : other ≡ node = eqb-true other node same in
      readings
      ∙ ap (λ k. slice_get (slice_set before.readings (node - 1) now) (k - 1)) one
      ∙ set_here before.readings (node - 1) (reading_of w node) now (knows node there)
      ∙ ap (λ k. Some k) (shows ∙ sym (clock_reads s w node millis v c is own) ∙ ap (λ k. reading_of x k) (sym one))
  by false same =
      let differ : other ≢ node = eqb-false other node same in
      readings
      ∙ set_elsewhere before.readings (node - 1) (other - 1) now (places differ)
      ∙ knows other n
      ∙ ap (λ k. Some k) (sym (clock_stays s w node millis other v c is (apart differ)))

-- ---- what is read of it

-- the reading of a node, as the recorder tells it
pub told_reading : (recorder : Recorder) (s : Setting) (w : WorldState) (node now : ℕ) → KnowsReadings recorder s w → IsNode (length s.members) node → Some now ≡ slice_get recorder.readings (node - 1) → now ≡ reading_of w node
told_reading recorder s w node now knows n told = same_Some now (reading_of w node) (told ∙ knows node n)
