-- The first world of a plan is one that turns lead to, and each member's life has its number there.
use Rattle.std.proofs.Common.{◌≡◌, ◌<◌, ◌∙◌, refl, sym, ap, subst, arith, ℕ, ◌+◌, ◌-◌, List, length, map, Some, slice_get}
use Rattle.std.proofs.lemmas.Option.{slice_get_within}
use Rattle.grasp_cbor.proofs.Facts.Lists.{length_map}
use Rattle.grasp_laws_network.proofs.Appended.{get_numbered}
use Rattle.grasp_laws_network.proofs.GoodPlans.{scripts_are_good}
use Rattle.grasp_laws_network.proofs.LivesKept.{lives_are_kept}
use Rattle.grasp_laws_network.proofs.Lives.{member_is}
use Rattle.grasp_laws_network.proofs.Staying.{first_own}
use Rattle.grasp_laws_network.specs.Lives.{LivesStand}
use Rattle.grasp_model_network.specs.Plans.{IsGoodPlan, IsNode}
use Rattle.grasp_model_network.proofs.Facts.{first_reached as setting_reached}
use Rattle.grasp_model_network.specs.Openings.{first_seat}
use Rattle.grasp_model_network.specs.Runs.{IsReached, first_world, world_of}
use Rattle.grasp_model_network.specs.Setting.{Member, Setting, numbered, script_setting}
use Rattle.grasp_model_network.specs.World.{Seat, WorldState, present_life}
use Rattle.grasp_model_network.specs.declared.plan.WorldPlan.{WorldPlan}
use Rattle.grasp_simulator.specs.Seats.{AreFirst, SeatsStand}
use Rattle.grasp_simulator.specs.declared.seat.Seat.{Seat as SeatCode}
use Rattle.grasp_simulator.proofs.SeatLists.{StandsAt, seats_at, seats_length}

pub first_count : (ms : List Member) (codes : List SeatCode) → AreFirst codes (map first_seat ms) → length codes ≡ length ms
first_count ms codes h = seats_length 1 codes (map first_seat ms) h ∙ length_map first_seat ms

pub first_reached : (p : WorldPlan) → IsGoodPlan p → IsReached (script_setting p) (world_of p)
first_reached p good = setting_reached (script_setting p) (scripts_are_good p good)

-- each member's present life has the member's number
seats_are : (s : Setting) → (first_world s).seats ≡ map first_seat s.members
unfolding first_world
seats_are s = refl

present_first : (s : Setting) (node : ℕ) → IsReached s (first_world s) → IsNode (length s.members) node → present_life (first_world s) node ≡ node
present_first s node r is =
    let w : WorldState = first_world s in
    let lives : LivesStand s w = lives_are_kept s w r in
    let life : ℕ = present_life w node in
    let count : length w.seats ≡ length s.members = ap (λ (l : List Seat). length l) (seats_are s) ∙ length_map first_seat s.members in
    let within : IsNode (length s.members) life = subst (λ (n : ℕ). IsNode n life) count (lives.present node is) in
    sym (member_is w life life (first_own s life within)) ∙ lives.own node is

-- the code's first seats stand for the first world's
pub first_stand : (p : WorldPlan) (codes : List SeatCode) → IsGoodPlan p → AreFirst codes (world_of p).seats → SeatsStand codes (world_of p).seats (world_of p).lives
first_stand p codes good h i code got =
    let s : Setting = script_setting p in
    let w : WorldState = world_of p in
    let found : StandsAt 1 code w.seats i = seats_at 1 codes w.seats h i code got in
    let within : i < length codes = slice_get_within codes i code got in
    let count : length codes ≡ length s.members = first_count s.members codes (subst (AreFirst codes) (seats_are s) h) in
    let node : IsNode (length s.members) (i + 1) = record { least = omega arith; most = omega (arith, within, count) } in
    let r : IsReached s w = first_reached p good in
    let present : present_life w (i + 1) ≡ i + 1 = present_first s (i + 1) r node in
    let at : slice_get w.seats ((i + 1) - 1) ≡ Some found.seat = (let e : (i + 1) - 1 ≡ i = omega arith in ap (slice_get w.seats) e ∙ found.got) in
    let here : numbered w.seats (i + 1) ≡ Some found.seat = get_numbered w.seats (i + 1) (Some found.seat) (omega arith) at in
    record {
      life = found.stands.life ∙ ((let e : 1 + i ≡ i + 1 = omega arith in e) ∙ sym present);
      own = (lives_are_kept s w r).own (i + 1) node;
      seat = found.seat;
      here = ap (λ (n : ℕ). numbered w.seats n) present ∙ here;
      stands = found.stands.stands;
    }
