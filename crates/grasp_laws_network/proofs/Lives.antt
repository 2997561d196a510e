-- Which of the lives is a member's present one, and whose each is.
use Rattle.std.proofs.Common.{◌≡◌, ◌≢◌, ◌⊎◌, inl, inr, refl, sym, ap, ◌∙◌, subst, arith, ℕ, zero, suc, ◌+◌, ◌-◌, ◌==◌, Bool, true, false, cond, List, [], ◌∷◌, ◌++◌, length, slice_get, Some, unwrap_or}
use Rattle.std.proofs.lemmas.Bool.{cases_eq, eq-eqb, eqb-true, eqb-false, ne_eqb, both_ways}
use Rattle.std.proofs.lemmas.Option.{none-some, same_Some}
use Rattle.grasp_laws_network.proofs.Appended.{numbered_get, get_numbered, numbered_last, numbered_before, not_next}
use Rattle.grasp_laws_network.proofs.GoodPlans.{count_numbers}
use Rattle.grasp_laws_network.proofs.Here.{numbered_within}
use Rattle.grasp_laws_network.proofs.Lists.{numbered_there}
use Rattle.grasp_laws_network.proofs.Staying.{first_own}
use Rattle.grasp_model_network.specs.Plans.{IsNode}
use Rattle.grasp_model_network.specs.Runs.{first_world}
use Rattle.grasp_model_network.specs.Setting.{Setting, numbered}
use Rattle.grasp_model_network.specs.World.{Seat, WorldState, last_life, present_life, member_of, is_present, seat_at}

-- ---- the last life of a member in a list

last_again : (n found : ℕ) (ks : List ℕ) (node : ℕ) → last_life n (ks ++ node ∷ []) node found ≡ n + length ks
unfolding last_life
last_again n found [] node = ap (λ b. cond b n found) (eq-eqb node node refl) ∙ omega arith
last_again n found (k ∷ ks) node = last_again (n + 1) (cond (k == node) n found) ks node ∙ omega arith

last_others : (n found : ℕ) (ks : List ℕ) (node other : ℕ) → (node == other) ≡ false → last_life n (ks ++ node ∷ []) other found ≡ last_life n ks other found
unfolding last_life
last_others n found [] node other apart = ap (λ b. cond b n found) apart
last_others n found (k ∷ ks) node other apart = last_others (n + 1) (cond (k == other) n found) ks node other apart

-- the life stands in the list, which is numbered from n on, and is this member's
record IsLifeOf (n : ℕ) (ks : List ℕ) (node life : ℕ) : Type 0 where
  place : ℕ
  is : life ≡ n + place
  got : slice_get ks place ≡ Some node

life_behind : (n : ℕ) (k : ℕ) (ks : List ℕ) (node life : ℕ) → IsLifeOf (n + 1) ks node life → IsLifeOf n (k ∷ ks) node life
life_behind n k ks node life f = let same : life ≡ (n + 1) + f.place = f.is in record { place = suc f.place; is = omega (arith, same); got = f.got }

-- no life in the list is this member's
abbrev HasNone : List ℕ → ℕ → Type 0
HasNone ks node = (place : ℕ) → slice_get ks place ≡ Some node → ⊥

-- what is found is a life of the member, or what was found before where it has none
found_or : (n found : ℕ) (ks : List ℕ) (node : ℕ) → IsLifeOf n ks node (last_life n ks node found) ⊎ ((last_life n ks node found ≡ found) × HasNone ks node)
unfolding last_life
found_or n found [] node = inr (refl, λ place got. none-some node got)
found_or n found (k ∷ ks) node = by_test (k == node) refl (found_or (n + 1) n ks node) (found_or (n + 1) found ks node) where
  first : k ≡ node → IsLifeOf n (k ∷ ks) node n
  first same = record { place = 0; is = omega arith; got = ap (λ x. Some x) same }

  no_other : (k == node) ≡ false → HasNone ks node → HasNone (k ∷ ks) node
  no_other not none zero got = eqb-false k node not (same_Some k node got)
  no_other not none (suc place) got = none place got

  taken : (k == node) ≡ true → IsLifeOf (n + 1) ks node (last_life (n + 1) ks node n) ⊎ ((last_life (n + 1) ks node n ≡ n) × HasNone ks node)
      → IsLifeOf n (k ∷ ks) node (last_life (n + 1) ks node n)
  taken is (inl f) = life_behind n k ks node (last_life (n + 1) ks node n) f
  taken is (inr none) = subst (IsLifeOf n (k ∷ ks) node) (sym none.0) (first (eqb-true k node is))

  passed : (k == node) ≡ false → IsLifeOf (n + 1) ks node (last_life (n + 1) ks node found) ⊎ ((last_life (n + 1) ks node found ≡ found) × HasNone ks node)
      → IsLifeOf n (k ∷ ks) node (last_life (n + 1) ks node found) ⊎ ((last_life (n + 1) ks node found ≡ found) × HasNone (k ∷ ks) node)
  passed not (inl f) = inl (life_behind n k ks node (last_life (n + 1) ks node found) f)
  passed not (inr none) = inr (none.0, no_other not none.1)

  by_test : (b : Bool) → (k == node) ≡ b
      → (IsLifeOf (n + 1) ks node (last_life (n + 1) ks node n) ⊎ ((last_life (n + 1) ks node n ≡ n) × HasNone ks node))
      → (IsLifeOf (n + 1) ks node (last_life (n + 1) ks node found) ⊎ ((last_life (n + 1) ks node found ≡ found) × HasNone ks node))
      → IsLifeOf n (k ∷ ks) node (last_life (n + 1) ks node (cond b n found)) ⊎ ((last_life (n + 1) ks node (cond b n found) ≡ found) × HasNone (k ∷ ks) node)
  by_test true is a b = inl (taken is a)
  by_test false not a b = passed not b

-- where a member has a life in the list, the one that is found is its own
last_own : (ks : List ℕ) (node life : ℕ) → numbered ks life ≡ Some node → numbered ks (last_life 1 ks node 1) ≡ Some node
last_own ks node life e = by_found (found_or 1 1 ks node) where
  at_life : (n i : ℕ) → n ≡ 1 + i → slice_get ks i ≡ Some node → numbered ks n ≡ Some node
  at_life n i is got =
      let same : n - 1 ≡ i = omega (arith, is) in
      get_numbered ks n (Some node) (omega (arith, is)) (ap (λ k. slice_get ks k) same ∙ got)

  by_found : IsLifeOf 1 ks node (last_life 1 ks node 1) ⊎ ((last_life 1 ks node 1 ≡ 1) × HasNone ks node) → numbered ks (last_life 1 ks node 1) ≡ Some node
  by_found (inl f) = at_life (last_life 1 ks node 1) f.place f.is f.got
  by_found (inr none) = absurd (none.1 (life - 1) (numbered_get ks life node e))

-- ---- the lives of a network

-- P holds of each life's number and seat
abbrev pub OfEachLife : (ℕ → Seat → Type 0) → WorldState → Type 0
OfEachLife P w = (life : ℕ) (seat : Seat) → seat_at w life ≡ Some seat → P life seat

-- a life is its member's
pub member_is : (w : WorldState) (life node : ℕ) → numbered w.lives life ≡ Some node → member_of w life ≡ node
member_is w life node e = ap (λ o. unwrap_or o 0) e

-- the other way round, where there is such a life
pub member_there : (w : WorldState) (life node : ℕ) → IsNode (length w.lives) life → member_of w life ≡ node → numbered w.lives life ≡ Some node
member_there w life node h is = at_member (numbered_there w.lives life h) where
  at_member : (k : ℕ) × (numbered w.lives life ≡ Some k) → numbered w.lives life ≡ Some node
  at_member f = f.1 ∙ ap (λ k. Some k) (sym (member_is w life f.0 f.1) ∙ is)

-- a member that has a life has a present one, which is its own
pub present_own : (w : WorldState) (life node : ℕ) → numbered w.lives life ≡ Some node → numbered w.lives (present_life w node) ≡ Some node
present_own w life node e = last_own w.lives node life e

pub present_within : (w : WorldState) (life node : ℕ) → numbered w.lives life ≡ Some node → IsNode (length w.lives) (present_life w node)
present_within w life node e = numbered_within w.lives (present_life w node) node (present_own w life node e)

pub present_member : (w : WorldState) (life node : ℕ) → numbered w.lives life ≡ Some node → member_of w (present_life w node) ≡ node
present_member w life node e = member_is w (present_life w node) node (present_own w life node e)

-- where the present life of a member is its own, it is a present one
pub present_is : (w : WorldState) (node : ℕ) → member_of w (present_life w node) ≡ node → is_present w (present_life w node) ≡ true
present_is w node own = eq-eqb (present_life w (member_of w (present_life w node))) (present_life w node) (ap (λ k. present_life w k) own)

-- a present life is its member's present one, and any other isn't
pub is_present_life : (w : WorldState) (life : ℕ) → is_present w life ≡ true → life ≡ present_life w (member_of w life)
is_present_life w life is = sym (eqb-true (present_life w (member_of w life)) life is)

pub not_present : (w : WorldState) (life : ℕ) → is_present w life ≡ false → life ≢ present_life w (member_of w life)
not_present w life is same = eqb-false (present_life w (member_of w life)) life is (sym same)

-- a life that has ended isn't the present one of a member whose present life is its own
pub ended_apart : (w : WorldState) (node life : ℕ) → member_of w (present_life w node) ≡ node → is_present w life ≡ false → life ≢ present_life w node
ended_apart w node life own is same = both_ways (is_present w life) is (ap (λ k. is_present w k) same ∙ present_is w node own)

-- ---- networks with the same lives

pub same_present : (w x : WorldState) (node : ℕ) → x.lives ≡ w.lives → present_life x node ≡ present_life w node
same_present w x node e = ap (λ ks. last_life 1 ks node 1) e

pub same_member : (w x : WorldState) (life : ℕ) → x.lives ≡ w.lives → member_of x life ≡ member_of w life
same_member w x life e = ap (λ ks. unwrap_or (numbered ks life) 0) e

pub same_is_present : (w x : WorldState) (life : ℕ) → x.lives ≡ w.lives → is_present x life ≡ is_present w life
same_is_present w x life e = ap (λ ks. last_life 1 ks (unwrap_or (numbered ks life) 0) 1 == life) e

-- ---- one life more: the second network has those of the first one, and one of this member

module _ (w x : WorldState) (node : ℕ) (more : x.lives ≡ w.lives ++ node ∷ []) where
  -- it is the member's present one
  pub begun_present : present_life x node ≡ length w.lives + 1
  begun_present = ap (λ ks. last_life 1 ks node 1) more ∙ (last_again 1 1 w.lives node ∙ omega arith)

  pub begun_there : numbered x.lives (length w.lives + 1) ≡ Some node
  begun_there = ap (λ ks. numbered ks (length w.lives + 1)) more ∙ numbered_last w.lives node

  pub begun_member : member_of x (length w.lives + 1) ≡ node
  begun_member = member_is x (length w.lives + 1) node begun_there

  pub begun_is_present : is_present x (length w.lives + 1) ≡ true
  begun_is_present =
      eq-eqb (present_life x (member_of x (length w.lives + 1))) (length w.lives + 1)
      (ap (λ k. present_life x k) begun_member ∙ begun_present)

  -- that of any other member stays
  pub others_present : (other : ℕ) → other ≢ node → present_life x other ≡ present_life w other
  others_present other apart =
      ap (λ ks. last_life 1 ks other 1) more ∙ last_others 1 1 w.lives node other (ne_eqb node other (λ same. apart (sym same)))

  -- whose a life is stays
  pub stays_there : (life k : ℕ) → numbered w.lives life ≡ Some k → numbered x.lives life ≡ Some k
  stays_there life k e = ap (λ ks. numbered ks life) more ∙ numbered_before w.lives node life k e

  pub member_stays : (life : ℕ) → IsNode (length w.lives) life → member_of x life ≡ member_of w life
  member_stays life h = at_member (numbered_there w.lives life h) where
    at_member : (k : ℕ) × (numbered w.lives life ≡ Some k) → member_of x life ≡ member_of w life
    at_member f = member_is x life f.0 (stays_there life f.0 f.1) ∙ sym (member_is w life f.0 f.1)

  -- of this member all lives before have ended
  pub ended_now : (life : ℕ) → IsNode (length w.lives) life → member_of w life ≡ node → is_present x life ≡ false
  ended_now life h own =
      ne_eqb (present_life x (member_of x life)) life
      (λ same. let f = numbered_there w.lives life h in not_next w.lives life f.0 f.1 (sym same ∙ (ap (λ k. present_life x k) (member_stays life h ∙ own) ∙ begun_present)))

  -- those of other members are present where they were
  pub others_stay_present : (life : ℕ) → IsNode (length w.lives) life → member_of w life ≢ node → is_present x life ≡ is_present w life
  others_stay_present life h apart =
      ap (λ k. k == life) (ap (λ k. present_life x k) (member_stays life h) ∙ others_present (member_of w life) apart)

  -- so all but the one that was present are as they were
  pub stays_present : (life : ℕ) → IsNode (length w.lives) life → life ≢ present_life w node → is_present x life ≡ is_present w life
  stays_present life h apart = by_member (cases_eq (member_of w life) node) where
    by_member : (member_of w life ≡ node) ⊎ (member_of w life ≡ node → ⊥) → is_present x life ≡ is_present w life
    by_member (inl own) =
        ended_now life h own
        ∙ sym (ne_eqb (present_life w (member_of w life)) life (λ same. apart (sym same ∙ ap (λ k. present_life w k) own)))
    by_member (inr other) = others_stay_present life h other

  -- what had ended has ended
  pub stays_ended : (life : ℕ) → IsNode (length w.lives) life → is_present w life ≡ false → is_present x life ≡ false
  stays_ended life h is = by_member (cases_eq (member_of w life) node) where
    by_member : (member_of w life ≡ node) ⊎ (member_of w life ≡ node → ⊥) → is_present x life ≡ false
    by_member (inl own) = ended_now life h own
    by_member (inr other) = others_stay_present life h other ∙ is

  -- and what is present was so
  pub was_present : (life : ℕ) → IsNode (length w.lives) life → is_present x life ≡ true → (is_present w life ≡ true) × (member_of w life ≢ node)
  was_present life h is = by_member (cases_eq (member_of w life) node) where
    by_member : (member_of w life ≡ node) ⊎ (member_of w life ≡ node → ⊥) → (is_present w life ≡ true) × (member_of w life ≢ node)
    by_member (inl own) = absurd (both_ways (is_present x life) (ended_now life h own) is)
    by_member (inr other) = (sym (others_stay_present life h other) ∙ is, other)

-- ---- the first network: each member has one life, which has its number

pub first_count : (s : Setting) → length (first_world s).lives ≡ length s.members
unfolding first_world
first_count s = count_numbers 1 (length s.members)

pub first_member : (s : Setting) (node : ℕ) → IsNode (length s.members) node → member_of (first_world s) node ≡ node
first_member s node h = member_is (first_world s) node node (first_own s node h)

pub first_present : (s : Setting) (node : ℕ) → IsNode (length s.members) node → present_life (first_world s) node ≡ node
first_present s node h = at_life (present_life (first_world s) node) (present_own (first_world s) node node (first_own s node h)) where
  at_life : (life : ℕ) → numbered (first_world s).lives life ≡ Some node → life ≡ node
  at_life life e =
      same_Some life node
      (sym (first_own s life (subst (λ n. IsNode n life) (first_count s) (numbered_within (first_world s).lives life node e))) ∙ e)

pub first_is_present : (s : Setting) (node : ℕ) → IsNode (length s.members) node → is_present (first_world s) node ≡ true
first_is_present s node h =
    eq-eqb (present_life (first_world s) (member_of (first_world s) node)) node
    (ap (λ k. present_life (first_world s) k) (first_member s node h) ∙ first_present s node h)
