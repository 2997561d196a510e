-- The code's seats, each of which stands for the present life of a member.
use Rattle.grasp_model_network.specs.declared.plan.WorldPlan.{WorldPlan}
use Rattle.std.proofs.Common.{◌≡◌, ◌≢◌, ◌⊎◌, inl, inr, ◌<◌, ◌≤◌, refl, sym, ap, ◌∙◌, subst, arith, ℕ, zero, suc, ◌+◌, ◌-◌, List, [], ◌∷◌, length, Option, Some, None, slice_get, slice_index_or, slice_set, nat_le, ◌&&◌, Bool, true, false, cond, tests}
use Rattle.std.proofs.lemmas.Bool.{cases_eq, and_parts, and_from}
use Rattle.std.proofs.lemmas.Option.{none-some, same_Some}
use Rattle.grasp_cbor.proofs.Facts.Lists.{length_map}
use Rattle.grasp_laws_network.proofs.GoodPlans.{count_numbers}
use Rattle.grasp_laws_network.proofs.Here.{numbered_within, present_least}
use Rattle.grasp_laws_network.proofs.Lists.{numbered_there}
use Rattle.grasp_laws_network.proofs.Lives.{present_is, is_present_life, member_is}
use Rattle.grasp_laws_network.proofs.LivesKept.{lives_are_kept, life_member}
use Rattle.grasp_laws_network.specs.Lives.{LivesStand}
use Rattle.grasp_laws_network.proofs.Others.{put_elsewhere, set_elsewhere}
use Rattle.grasp_laws_network.proofs.Staying.{set_here, put_here}
use Rattle.grasp_model_network.specs.Plans.{IsNode}
use Rattle.grasp_model_network.specs.Setting.{Setting, numbered, numbers_from, script_member, script_setting}
use Rattle.grasp_model_network.specs.World.{Seat, WorldState, is_present, member_of, present_life, seat_at}
use Rattle.grasp_simulator.specs.Seats.{IsPresent, SeatStands, SeatsStand}
use Rattle.grasp_simulator.specs.WorldStands.{WorldKeeps, WorldGoes, owner_in}
use Rattle.grasp_simulator.specs.declared.seat.Seat.{Seat as SeatCode}
use Rattle.grasp_simulator.specs.declared.world.World.{World}

-- ---- lists

pub at_index : {A : Type 0} (xs : List A) (i : ℕ) (a : A) → i < length xs → a ≡ slice_index_or xs i a → slice_get xs i ≡ Some a
at_index [] i a within is = absurd (omega (arith, within))
at_index (x ∷ xs) zero a within is = ap (λ y. Some y) (sym is)
at_index (x ∷ xs) (suc i) a within is = at_index xs i a (omega (arith, within)) is

-- the one at a place of a list
pub record At {A : Type 0} (xs : List A) (i : ℕ) : Type 0 where
  pub it : A
  pub got : slice_get xs i ≡ Some it

pub at_is : {A : Type 0} (xs : List A) (i : ℕ) → i < length xs → At xs i
at_is [] i within = absurd (omega (arith, within))
at_is (x ∷ xs) zero within = record { it = x; got = refl }
at_is (x ∷ xs) (suc i) within = let below : At xs i = at_is xs i (omega (arith, within)) in record { it = below.it; got = below.got }

-- ---- the code's seat of a member

-- it stands for the member's present life
pub record OwnSeat (w : WorldState) (node : ℕ) (own : SeatCode) : Type 0 where
  pub life : own.life ≡ present_life w node
  pub member : member_of w (present_life w node) ≡ node
  pub present : is_present w (present_life w node) ≡ true
  pub seat : Seat
  pub here : seat_at w (present_life w node) ≡ Some seat
  pub stands : SeatStands own seat

own_by : (codes : List SeatCode) (w : WorldState) (node i : ℕ) (own : SeatCode) → SeatsStand codes w.seats w.lives → node ≡ i + 1 → slice_get codes i ≡ Some own → OwnSeat w node own
own_by codes w node i own h place got =
    let p : IsPresent own w.seats w.lives node = subst (IsPresent own w.seats w.lives) (sym place) (h i own got) in
    record { life = p.life; member = p.own; present = present_is w node p.own; seat = p.seat; here = p.here; stands = p.stands }

next_of : (node i : ℕ) → 1 ≤ node → i ≡ node - 1 → node ≡ i + 1
next_of node i least place = omega (arith, least, place)

pub own_at : (code : World) (s : Setting) (w : WorldState) (node i : ℕ) (own : SeatCode) → WorldKeeps code s w → 1 ≤ node → i ≡ node - 1 → slice_get code.seats.items i ≡ Some own → OwnSeat w node own
own_at code s w node i own keeps least place got = own_by code.seats.items w node i own keeps.seats (next_of node i least place) got

-- a script has as many members as nodes
pub script_members : (p : WorldPlan) → length (script_setting p).members ≡ p.nodes
unfolding script_setting
script_members p = length_map (script_member p) (numbers_from 1 p.nodes) ∙ count_numbers 1 p.nodes

pub first_lives_are : (p : WorldPlan) → numbers_from 1 p.nodes ≡ numbers_from 1 (length (script_setting p).members)
first_lives_are p = ap (numbers_from 1) (sym (script_members p))

-- as many members as nodes of the plan
pub members_count : (code : World) (s : Setting) (w : WorldState) → WorldKeeps code s w → length s.members ≡ code.plan.nodes
unfolding script_setting
members_count code s w keeps =
    ap (λ (q : Setting). length q.members) keeps.setting ∙ (length_map (script_member code.plan) (numbers_from 1 code.plan.nodes) ∙ count_numbers 1 code.plan.nodes)

-- the code has a seat of each member
pub codes_count : (code : World) (s : Setting) (w : WorldState) → WorldKeeps code s w → length s.members ≡ length code.seats.items
codes_count code s w keeps = members_count code s w keeps ∙ sym keeps.count

pub code_node : (code : World) (s : Setting) (w : WorldState) (node : ℕ) → WorldKeeps code s w → IsNode (length s.members) node → IsNode (length code.seats.items) node
code_node code s w node keeps is = subst (λ (n : ℕ). IsNode n node) (codes_count code s w keeps) is

pub member_node : (code : World) (s : Setting) (w : WorldState) (node : ℕ) → WorldKeeps code s w → IsNode (length code.seats.items) node → IsNode (length s.members) node
member_node code s w node keeps is = subst (λ (n : ℕ). IsNode n node) (sym (codes_count code s w keeps)) is

-- the code has one of each member
pub got_own : (code : World) (node i : ℕ) (own : SeatCode) → IsNode (length code.seats.items) node → i ≡ node - 1 → own ≡ slice_index_or code.seats.items i own → slice_get code.seats.items i ≡ Some own
got_own code node i own is place got = at_index code.seats.items i own (let least : 1 ≤ node = is.least in let most : node ≤ length code.seats.items = is.most in omega (arith, least, most, place)) got

pub own_seat : (code : World) (s : Setting) (w : WorldState) (node i : ℕ) (own : SeatCode) → WorldKeeps code s w → IsNode (length code.seats.items) node → i ≡ node - 1 → own ≡ slice_index_or code.seats.items i own → OwnSeat w node own
own_seat code s w node i own keeps is place got = own_at code s w node i own keeps is.least place (got_own code node i own is place got)

-- it is the same, wherever it is read
pub life_read : (code : World) (node i j : ℕ) (a b : SeatCode) → IsNode (length code.seats.items) node → i ≡ node - 1 → a ≡ slice_index_or code.seats.items i a → j ≡ node - 1 → b ≡ slice_index_or code.seats.items j b → a.life ≡ b.life
life_read code node i j a b is at_i got_a at_j got_b =
    ap (λ (x : SeatCode). x.life) (same_Some a b (sym (got_own code node i a is at_i got_a) ∙ (ap (λ n. slice_get code.seats.items n) (at_i ∙ sym at_j) ∙ got_own code node j b is at_j got_b)))

-- a member's present life is there
pub record Here (w : WorldState) (node : ℕ) : Type 0 where
  pub seat : Seat
  pub here : seat_at w (present_life w node) ≡ Some seat
  pub member : member_of w (present_life w node) ≡ node

pub node_is : (code : World) (s : Setting) (w : WorldState) (node : ℕ) → WorldKeeps code s w → IsNode (length code.seats.items) node → Here w node
node_is code s w node keeps is =
    let least : 1 ≤ node = is.least in
    let most : node ≤ length code.seats.items = is.most in
    let found : At code.seats.items (node - 1) = at_is code.seats.items (node - 1) (omega (arith, least, most)) in
    let own : OwnSeat w node found.it = own_at code s w node (node - 1) found.it keeps least refl found.got in
    record { seat = own.seat; here = own.here; member = own.member }

-- ---- another one of a member

module _ (codes : List SeatCode) (w : WorldState) (h : SeatsStand codes w.seats w.lives) (i : ℕ) (own changed : SeatCode) (got : slice_get codes i ≡ Some own) (still : changed.life ≡ own.life)
    (new : Seat) (stands : SeatStands changed new) where
  abbrev mine : IsPresent own w.seats w.lives (i + 1)
  mine = h i own got

  abbrev put : List Seat
  put = slice_set w.seats (own.life - 1) new

  changed_here : IsPresent changed put w.lives (i + 1)
  changed_here = record {
    life = still ∙ mine.life;
    own = mine.own;
    seat = new;
    here = ap (λ (n : ℕ). numbered (slice_set w.seats (n - 1) new) (present_life w (i + 1))) mine.life ∙ put_here w.seats (present_life w (i + 1)) mine.seat new mine.here;
    stands = stands;
  }

  other_there : (j : ℕ) (code : SeatCode) → j ≢ i → slice_get codes j ≡ Some code → IsPresent code put w.lives (j + 1)
  other_there j code other at =
      let p : IsPresent code w.seats w.lives (j + 1) = h j code at in
      let apart : present_life w (j + 1) ≢ present_life w (i + 1) =
      λ same. (let e : j + 1 ≡ i + 1 = sym p.own ∙ (ap (λ (n : ℕ). member_of w n) same ∙ mine.own) in other (omega (arith, e))) in
      record {
        life = p.life;
        own = p.own;
        seat = p.seat;
        here = ap (λ (n : ℕ). numbered (slice_set w.seats (n - 1) new) (present_life w (j + 1))) mine.life
            ∙ (put_elsewhere w.seats (present_life w (i + 1)) (present_life w (j + 1)) new (present_least w (i + 1)) apart ∙ p.here);
        stands = p.stands;
      }

  pub seats_put : SeatsStand (slice_set codes i changed) put w.lives
  seats_put j code at = by_place (cases_eq j i) where
    by_place : (j ≡ i) ⊎ (j ≡ i → ⊥) → IsPresent code put w.lives (j + 1)
    by_place (inl same) =
        let is : changed ≡ code = same_Some changed code (sym (set_here codes i own changed got) ∙ (ap (slice_get (slice_set codes i changed)) (sym same) ∙ at)) in
        subst (λ (n : ℕ). IsPresent code put w.lives (n + 1)) (sym same) (subst (λ (c : SeatCode). IsPresent c put w.lives (i + 1)) is changed_here)
    by_place (inr other) = other_there j code other (sym (set_elsewhere codes i j changed other) ∙ at)

-- ---- whose a life is

le_true : (a b : ℕ) → nat_le a b ≡ true → a ≤ b
le_true a b h = grind (arith, tests)

le_back : (a b : ℕ) → a ≤ b → nat_le a b ≡ true
le_back a b h = grind (arith, tests)

pub owner_some : (count : ℕ) (o : Option ℕ) (node : ℕ) → owner_in count o ≡ Some node → (o ≡ Some node) × IsNode count node
owner_some count None node e = absurd (none-some node e)
owner_some count (Some k) node e = by_test (nat_le 1 k && nat_le k count) refl e where
  by_test : (b : Bool) → (nat_le 1 k && nat_le k count) ≡ b → cond b (Some k) None ≡ Some node → (Some k ≡ Some node) × IsNode count node
  by_test true is f =
      let a = and_parts (nat_le 1 k) (nat_le k count) is in
      (f, subst (IsNode count) (same_Some k node f) (record { least = le_true 1 k a.0; most = le_true k count a.1 }))
  by_test false is f = absurd (none-some node f)

pub owner_none : (count : ℕ) (o : Option ℕ) (node : ℕ) → owner_in count o ≡ None → o ≡ Some node → IsNode count node → ⊥
owner_none count o node e is within =
    let both : (nat_le 1 node && nat_le node count) ≡ true = and_from (nat_le 1 node) (nat_le node count) (le_back 1 node within.least) (le_back node count within.most) in
    none-some node (sym e ∙ (ap (owner_in count) is ∙ ap (λ b. cond b (Some node) None) both))

-- a life of which the code knows whose it is is there
pub record Owned (w : WorldState) (life node : ℕ) : Type 0 where
  pub seat : Seat
  pub here : seat_at w life ≡ Some seat
  pub member : member_of w life ≡ node

pub owned_life : (code : World) (s : Setting) (w : WorldState) (life node : ℕ) → WorldGoes code s w → numbered code.lives life ≡ Some node → Owned w life node
owned_life code s w life node goes is =
    let known : numbered w.lives life ≡ Some node = ap (λ (ks : List ℕ). numbered ks life) (sym goes.keeps.lives) ∙ is in
    let within : IsNode (length w.seats) life = subst (λ (n : ℕ). IsNode n life) (lives_are_kept s w goes.reached).count (numbered_within w.lives life node known) in
    let found = numbered_there w.seats life within in
    record { seat = found.0; here = found.1; member = member_is w life node known }

-- a life that is there has an owner among the code's nodes
pub life_owner : (code : World) (s : Setting) (w : WorldState) (life : ℕ) (seat : Seat) → WorldGoes code s w → seat_at w life ≡ Some seat
    → (numbered code.lives life ≡ Some (member_of w life)) × IsNode (length code.seats.items) (member_of w life)
life_owner code s w life seat goes here =
    let lives : LivesStand s w = lives_are_kept s w goes.reached in
    let known : numbered w.lives life ≡ Some (member_of w life) = life_member s w life lives (numbered_within w.seats life seat here) in
    (ap (λ (ks : List ℕ). numbered ks life) goes.keeps.lives ∙ known, code_node code s w (member_of w life) goes.keeps (lives.members life (member_of w life) known))

-- a life whose node the code doesn't find isn't there
pub unowned : (code : World) (s : Setting) (w : WorldState) (life : ℕ) → WorldGoes code s w → owner_in (length code.seats.items) (numbered code.lives life) ≡ None → seat_at w life ≡ None
unowned code s w life goes none = by_seat (seat_at w life) refl where
  by_seat : (o : Option Seat) → seat_at w life ≡ o → seat_at w life ≡ None
  by_seat None here = here
  by_seat (Some seat) here =
      let h = life_owner code s w life seat goes here in absurd (owner_none (length code.seats.items) (numbered code.lives life) (member_of w life) none h.0 h.1)

-- a present life is that of its owner
pub owner_present : (w : WorldState) (life node : ℕ) → member_of w life ≡ node → is_present w life ≡ true → life ≡ present_life w node
owner_present w life node member present = is_present_life w life present ∙ ap (λ (k : ℕ). present_life w k) member
