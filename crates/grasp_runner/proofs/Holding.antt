-- Counting the prefixes of all nodes.
use Rattle.std.proofs.Common.{◌≡◌, ◌<◌, ◌≤◌, ◌+◌, ◌-◌, refl, sym, ap, ◌∙◌, subst, arith, ℕ, zero, suc, List, [], ◌∷◌, length, take, Some, None}
use Rattle.std.proofs.lemmas.List.{take_all}
use Rattle.std.proofs.lemmas.List.Sums.{sum_by_more}
use Rattle.std.proofs.lemmas.Option.{slice_get_within, get_or_from_slice_get}
use Rattle.std.specs.List.{slice_get, sum_by}
use Rattle.grasp_types.specs.Prefix.{AddressBlock}
use Rattle.grasp_agent.specs.States.{AgentState}
use Rattle.grasp_laws_network.proofs.GoodPlans.{count_numbers, not_zero}
use Rattle.grasp_laws_network.proofs.Lives.{first_present, same_present}
use Rattle.grasp_laws_network.proofs.LivesKept.{lives_are_kept}
use Rattle.grasp_model_network.specs.Plans.{IsNode}
use Rattle.grasp_model_network.specs.Runs.{first_world}
use Rattle.grasp_model_network.specs.Setting.{Setting, numbers_from}
use Rattle.grasp_model_network.specs.World.{Seat, WorldState, present_life, seat_at}
use Rattle.grasp_simulator.specs.WorldStands.{HasNode, LendsAgent, WorldStands}
use Rattle.grasp_simulator.specs.declared.world.World.{World}
use Rattle.grasp_runner.specs.Lines.{network_at}
use Rattle.grasp_runner.specs.Tallies.{HasFirstLives, HasNodes}
use Rattle.grasp_runner.proofs.Placing.{IsThere, has_node, node_there}

-- ---- one pool

-- the list goes on
pub goes_on : (xs : List AddressBlock) (i : ℕ) → i ≤ length xs → (slice_get xs i ≡ None → ⊥) → i + 1 ≤ length xs
goes_on [] zero h more = absurd (more refl)
goes_on [] (suc i) h more = absurd (omega (arith, h))
goes_on (x ∷ xs) zero h more = omega arith
goes_on (x ∷ xs) (suc i) h more = let below : i + 1 ≤ length xs = goes_on xs i (omega (arith, h)) more in omega (arith, below)

-- a place up to the length of a list at which nothing stands is the list's end
pub ends_here : (xs : List AddressBlock) (i : ℕ) → i ≤ length xs → slice_get xs i ≡ None → i ≡ length xs
ends_here [] zero h none = refl
ends_here [] (suc i) h none = absurd (omega (arith, h))
ends_here (x ∷ xs) zero h none = absurd (cc none)
ends_here (x ∷ xs) (suc i) h none = ap suc (ends_here xs i (omega (arith, h)) none)

-- ---- first lives

begins_with : (s : Setting) → HasFirstLives s (first_world s)
unfolding first_world
begins_with s = refl

-- the present life of a node has its number
first_here : (s : Setting) (w : WorldState) (node : ℕ) → HasFirstLives s w → IsNode (length s.members) node → present_life w node ≡ node
first_here s w node first n = same_present (first_world s) w node (first ∙ sym (begins_with s)) ∙ first_present s node n

-- there are as many as members
lives_count : (code : World) (s : Setting) (w : WorldState) → WorldStands code (network_at s w) → HasFirstLives s w → length w.seats ≡ length s.members
lives_count code s w stands first = sym (lives_are_kept s w stands.stands.goes.reached).count ∙ ap length first ∙ count_numbers 1 (length s.members)

-- ---- all nodes

pub node_of : (code : World) (nodes before : ℕ) → HasNodes code nodes → before < nodes → HasNode code (before + 1)
node_of code nodes before h below =
    let count : nodes ≡ length h.setting.members = h.count in
    has_node code h.setting h.network (before + 1) h.stands (record { least = omega arith; most = omega (arith, below, count) })

-- the nodes before this one are counted
abbrev pub CountsBefore : World → (AgentState → ℕ) → ℕ → ℕ → Type 0
CountsBefore code f before count = (s : Setting) (w : WorldState) → WorldStands code (network_at s w) → HasFirstLives s w → count ≡ sum_by (λ (seat : Seat). f seat.agent) (take before w.seats)

seat_before : (w : WorldState) (before : ℕ) (seat : Seat) → seat_at w (before + 1) ≡ Some seat → slice_get w.seats before ≡ Some seat
seat_before w before seat e =
    let same : before + 1 - 1 ≡ before = omega arith in
    subst (λ (n : ℕ). slice_get w.seats n ≡ Some seat) same (rw (not_zero (before + 1) (omega arith)) at e)

pub count_more : (code : World) (f : AgentState → ℕ) (nodes before count one : ℕ) (agent : AgentState) → HasNodes code nodes → before < nodes → CountsBefore code f before count → LendsAgent code (before + 1) agent → one ≡ f agent
    → CountsBefore code f (before + 1) (count + one)
count_more code f nodes before count one agent h below counted lends is = λ s w stands first. more s w stands first where
  more : (s : Setting) (w : WorldState) → WorldStands code (network_at s w) → HasFirstLives s w → count + one ≡ sum_by (λ (seat : Seat). f seat.agent) (take (before + 1) w.seats)
  more s w stands first =
      let there : IsThere w (before + 1) = node_there code s w (before + 1) stands (here s w stands) in
      let same : present_life w (before + 1) ≡ before + 1 = first_here s w (before + 1) first (here s w stands) in
      let at : slice_get w.seats before ≡ Some there.seat = seat_before w before there.seat (subst (λ (n : ℕ). seat_at w n ≡ Some there.seat) same there.here) in
      let own : one ≡ f there.seat.agent = is ∙ ap f (lends s w there.seat (record { stands = stands; here = there.here })) in
      ap (λ (n : ℕ). n + one) (counted s w stands first)
      ∙ ap (λ (n : ℕ). sum_by (λ (seat : Seat). f seat.agent) (take before w.seats) + n) (own ∙ ap (λ (seat : Seat). f seat.agent) (sym (get_or_from_slice_get w.seats before there.seat there.seat at)))
      ∙ sym (sum_by_more (λ (seat : Seat). f seat.agent) w.seats before there.seat (slice_get_within w.seats before there.seat at)) where
        here : (s : Setting) (w : WorldState) → WorldStands code (network_at s w) → IsNode (length s.members) (before + 1)
        here s w stands =
            let one : length code.seats.items ≡ length s.members = stands.count in
            let other : length code.seats.items ≡ length h.setting.members = h.stands.count in
            let count : nodes ≡ length h.setting.members = h.count in
            record { least = omega arith; most = omega (arith, below, one, other, count) }

pub nothing_counted : (code : World) (f : AgentState → ℕ) (count : ℕ) → count ≡ 0 → CountsBefore code f 0 count
nothing_counted code f count is = λ s w stands first. is

-- all are
pub counted_all : (code : World) (f : AgentState → ℕ) (nodes before count : ℕ) → HasNodes code nodes → nodes ≤ before → CountsBefore code f before count
    → (s : Setting) (w : WorldState) → WorldStands code (network_at s w) → HasFirstLives s w → count ≡ sum_by (λ (seat : Seat). f seat.agent) w.seats
counted_all code f nodes before count h all counted = λ s w stands first.
    let one : length code.seats.items ≡ length s.members = stands.count in
    let other : length code.seats.items ≡ length h.setting.members = h.stands.count in
    let number : nodes ≡ length h.setting.members = h.count in
    let seats : length w.seats ≡ length s.members = lives_count code s w stands first in
    counted s w stands first ∙ ap (sum_by (λ (seat : Seat). f seat.agent)) (take_all before w.seats (omega (arith, all, one, other, number, seats)))
