-- What an image of a pool may have, for an agent that is opened anew by it.
use Rattle.std.proofs.Common.{◌≡◌, refl, sym, ap, ◌∙◌, subst, ◌⊎◌, inl, inr, ℕ, ◌+◌, ◌-◌, ◌^◌, ◌<◌, ◌≤◌, ◌↔◌, false, List, length, take, slice_index_or, slice_get, Contains, Option, None, Some, is_some, arith}
use Rattle.std.specs.Prelude.{IsTrue}
use Rattle.std.proofs.lemmas.Bool.{true≢false, cases_lt}
use Rattle.std.proofs.lemmas.List.{get_or_default, take_all, take_more}
use Rattle.std.proofs.lemmas.List.Elements.{Contains-push_cases}
use Rattle.std.proofs.lemmas.Option.{slice_get-get_or}
use Rattle.grasp_agent.specs.Kept.{IsKept}
use Rattle.grasp_agent.specs.Laws.{IsToBeOffered}
use Rattle.grasp_agent.specs.Reopening.{IsToOffer, retired}
use Rattle.grasp_agent.specs.States.{AgentState, offered_by, unsent_of}
use Rattle.grasp_laws_agent.proofs.Retiring.{agents_retire}
use Rattle.grasp_laws_network.proofs.Offers.{listed_so, so_listed}
use Rattle.grasp_pool.specs.Canonical.{IsInside, lower, upper}
use Rattle.grasp_pool.specs.Functions.{around}
use Rattle.grasp_pool.specs.Holdings.{IsFree, IsListed}
use Rattle.grasp_pool.specs.Listings.{AreDisjoint, ApartBelow, DisjointBelow}
use Rattle.grasp_pool.specs.Pools.{IsPool}
use Rattle.grasp_pool.specs.Spans.{Apart, IsValid, size}
use Rattle.grasp_pool.proofs.Addresses.{first_in}
use Rattle.grasp_pool.proofs.Dyadic.{bounds_inside, inside_from, inside_length, nested, size_halves}
use Rattle.grasp_pool.proofs.TakingAt.{free_is}
use Rattle.grasp_types.specs.Prefix.{AddressBlock as Prefix, Overlap, span_of}
use Rattle.grasp_simulator.specs.Images.{AreToBeHad, HasAllLeft, IsAmong, IsIn, IsToBeHad}
use Rattle.grasp_simulator.proofs.Left.{act_offers, back_offers, to_offer}

-- what can't be is answered by false
pub never : {P : Type 0} → (P → ⊥) → IsTrue false ↔ P
never refuted = (λ t. absurd (true≢false (sym t)), λ p. absurd (refuted p))

-- ---- prefixes that are apart

-- one of the first n overlaps the prefix
pub hit_at : (ps : List Prefix) (p q : Prefix) (i n : ℕ) → i < n → i < length ps → q ≡ slice_index_or ps i q → Overlap q p → ApartBelow ps p n → ⊥
hit_at ps p q i n less within is meets apart = subst (λ r. Apart r p) (sym is) (apart i q less within) meets.0 meets.1.0 meets.1.1

pub clash_at : (ps : List Prefix) (n : ℕ) (p : Prefix) → AreDisjoint ps → n < length ps → p ≡ slice_index_or ps n p → ApartBelow ps p n
clash_at ps n p disjoint within is = subst (λ q. ApartBelow ps q n) (sym is) (disjoint.apart n p within within)

pub all_disjoint : (ps : List Prefix) (n : ℕ) → n ≡ length ps → DisjointBelow ps n → AreDisjoint ps
all_disjoint ps n all below = subst (DisjointBelow ps) all below

-- ---- what may be had

pub none_had : (a : AgentState) (ps : List Prefix) → AreToBeHad a (take 0 ps)
none_had a ps x h = let lt : h.1.0 < 0 = h.1.1 in absurd (omega arith)

pub more_had : (a : AgentState) (ps : List Prefix) (i : ℕ) (p : Prefix) → i < length ps → p ≡ slice_index_or ps i p → AreToBeHad a (take i ps) → IsToBeHad a p → AreToBeHad a (take (i + 1) ps)
more_had a ps i p within is before this = subst (AreToBeHad a) (sym (take_more ps i p within)) (λ x h. by_place x h.0 (Contains-push_cases (take i ps) (slice_index_or ps i p) h.0 h.1) h.2) where
  by_place : (x : ℕ) (q : Prefix) → Contains (take i ps) q ⊎ (slice_index_or ps i p ≡ q) → span_of q x → IsFree a.pool x ⊎ IsToOffer a x
  by_place x q (inl old) s = before x (q, old, s)
  by_place x q (inr new) s = this x (subst (λ r. span_of r x) (sym (is ∙ new)) s)

pub one_had : (a : AgentState) (ps : List Prefix) (i : ℕ) (p : Prefix) → i < length ps → p ≡ slice_index_or ps i p → AreToBeHad a ps → IsToBeHad a p
one_had a ps i p within is all x s = all x (p, (i, within, sym is), s)

pub all_had : (a : AgentState) (ps : List Prefix) (n : ℕ) → length ps ≤ n → AreToBeHad a (take n ps) → AreToBeHad a ps
all_had a ps n all so = subst (AreToBeHad a) (take_all n ps all) so

-- ---- halves

module _ (a : AgentState) (p : Prefix) (short : p.length < 128) where
  two : size p ≡ size (lower p) + size (lower p)
  two = size_halves p short

  pub lower_had : IsToBeHad a p → IsToBeHad a (lower p)
  lower_had had x s = had x (s.0, omega (arith, two))

  pub upper_had : IsToBeHad a p → IsToBeHad a (upper p)
  upper_had had x s = let least : p.address + size (lower p) ≤ x = s.0 in let most : x < (p.address + size (lower p)) + size (lower p) = s.1 in had x (omega arith, omega (arith, two))

  pub both_had : IsToBeHad a (lower p) → IsToBeHad a (upper p) → IsToBeHad a p
  both_had below above x s = elim (cases_lt x (p.address + size (lower p))) [
    | inl lt ↦ below x (s.0, lt)
    | inr le ↦ above x (le, omega (arith, two))
  ]

-- a prefix is shorter than the longest
pub is_short : (p : Prefix) (n : ℕ) → IsValid p → n ≡ p.length → (n ≡ 128 → ⊥) → p.length < 128
is_short p n v is differs = elim (cases_lt p.length 128) [
  | inl lt ↦ lt
  | inr le ↦ let most : p.length ≤ 128 = v.most in absurd (differs (omega arith))
]

-- ---- one that is of one kind

pub inside_of : (q p : Prefix) → IsValid q → IsValid p → q.length ≤ p.length → Overlap q p → IsInside p q
inside_of q p v w shorter meets = let b : (q.address ≤ p.address) × (p.address + size p ≤ q.address + size q) = nested q p meets.0 v w shorter meets.1.0 meets.1.1 in inside_from q p b.0 b.1

pub meets_of : (q p : Prefix) → IsInside p q → Overlap q p
meets_of q p inside = (p.address, (inside p.address (first_in p), first_in p))

pub short_of : (q p : Prefix) → IsValid q → IsInside p q → q.length ≤ p.length
short_of q p v inside = let b : (q.address ≤ p.address) × (p.address + size p ≤ q.address + size q) = bounds_inside p q inside in inside_length p q v.most b.0 b.1

pub too_short : (q p : Prefix) (m n : ℕ) → IsValid q → m ≡ p.length → n ≡ q.length → m < n → IsInside p q → ⊥
too_short q p m n v is at less inside = let shorter : q.length ≤ p.length = short_of q p v inside in omega arith

pub had_free : (a : AgentState) (p : Prefix) → IsPool a.pool → IsValid p → IsTrue (is_some (around a.pool.free p)) → IsToBeHad a p
had_free a p pool valid free x s = inl ((free_is a.pool p pool valid).0 free x s)

had_in : (a : AgentState) (o : Option Prefix) (p : Prefix) → ((q : Prefix) → o ≡ Some q → IsToBeOffered a q) → IsIn o p → IsToBeHad a p
had_in a None p offers within = absurd within
had_in a (Some q) p offers within = λ x s. inr (q, offers q refl, within x s)

pub had_act : (a : AgentState) (p : Prefix) → IsIn (offered_by a.act) p → IsToBeHad a p
had_act a p within = had_in a (offered_by a.act) p (λ q e. act_offers a a.act q refl e) within

pub had_unsent : (a : AgentState) (p : Prefix) → IsIn (unsent_of a.back) p → IsToBeHad a p
had_unsent a p within = had_in a (unsent_of a.back) p (λ q e. back_offers a a.back q refl e) within

-- a prefix of the greatest length has one address
alone : (p : Prefix) (x : ℕ) → p.length ≡ 128 → span_of p x → x ≡ p.address
alone p x most s =
    let none : 128 - p.length ≡ 0 = omega arith in
    let one : size p ≡ 1 = ap (λ n. 2 ^ n) none in
    let least : p.address ≤ x = s.0 in
    let below : x < p.address + size p = s.1 in
    omega arith

pub one_kind : (a : AgentState) (p : Prefix) → IsPool a.pool → IsValid p → p.length ≡ 128 → IsToBeHad a p → (IsTrue (is_some (around a.pool.free p)) → ⊥) → (IsIn (offered_by a.act) p → ⊥) → IsIn (unsent_of a.back) p
one_kind a p pool valid most had unfree unoffered = by_kind (had p.address (first_in p)) where
  lies : (q : Prefix) → span_of q p.address → IsInside p q
  lies q s x h = subst (span_of q) (sym (alone p x most h)) s

  by_offer : (q : Prefix) → span_of q p.address → (offered_by a.act ≡ Some q) ⊎ (unsent_of a.back ≡ Some q) → IsIn (unsent_of a.back) p
  by_offer q s (inl e) = absurd (unoffered (subst (λ o. IsIn o p) (sym e) (lies q s)))
  by_offer q s (inr e) = subst (λ o. IsIn o p) (sym e) (lies q s)

  by_kind : IsFree a.pool p.address ⊎ IsToOffer a p.address → IsIn (unsent_of a.back) p
  by_kind (inl free) = absurd (unfree ((free_is a.pool p pool valid).1 (λ x s. subst (IsFree a.pool) (sym (alone p x most s)) free)))
  by_kind (inr o) = by_offer o.0 o.2 (to_offer a o.0 o.1)

-- ---- what is left

pub among_left : (a : AgentState) (ps : List Prefix) (o : Option Prefix) → HasAllLeft a ps → IsAmong a ps o
among_left a ps None all = tt
among_left a ps (Some p) all = λ is. all p (listed_so (retired a).pool p is)

-- those at the first places are
abbrev pub LeftBelow : AgentState → List Prefix → ℕ → Type 0
LeftBelow a ps n = (k : ℕ) → k < n → IsAmong a ps (slice_get a.pool.reserved k) × IsAmong a ps (slice_get a.pool.doubtful k)

pub left_more : (a : AgentState) (ps : List Prefix) (i : ℕ) → LeftBelow a ps i → IsAmong a ps (slice_get a.pool.reserved i) → IsAmong a ps (slice_get a.pool.doubtful i) → LeftBelow a ps (i + 1)
left_more a ps i below r d k lt = elim (cases_lt k i) [
  | inl before ↦ below k before
  | inr after ↦ let same : i ≡ k = omega arith in (subst (λ n. IsAmong a ps (slice_get a.pool.reserved n)) same r, subst (λ n. IsAmong a ps (slice_get a.pool.doubtful n)) same d)
]

got_member : (ps : List Prefix) (p : Prefix) (h : Contains ps p) → slice_get ps h.0 ≡ Some p
got_member ps p h = slice_get-get_or ps h.0 p h.1 ∙ ap (λ x. Some x) h.2

among_at : (a : AgentState) (ps : List Prefix) (o : Option Prefix) (p : Prefix) → IsAmong a ps o → o ≡ Some p → IsListed (retired a).pool p → Contains ps p
among_at a ps o p among e listed = subst (IsAmong a ps) e among (so_listed (retired a).pool p listed)

pub left_all : (a : AgentState) (ps : List Prefix) (n : ℕ) → IsKept a → 4096 ≤ n → LeftBelow a ps n → HasAllLeft a ps
left_all a ps n kept many below p listed = by_list listed where
  few : (length a.pool.free + length a.pool.reserved) + length a.pool.doubtful ≤ 4096
  few = kept.pool.few

  by_reserved : Contains a.pool.reserved p → Contains ps p
  by_reserved h = let within : h.0 < length a.pool.reserved = h.1 in among_at a ps (slice_get a.pool.reserved h.0) p (below h.0 (omega (arith, few))).0 (got_member a.pool.reserved p h) listed

  by_doubtful : Contains a.pool.doubtful p → Contains ps p
  by_doubtful h = let within : h.0 < length a.pool.doubtful = h.1 in among_at a ps (slice_get a.pool.doubtful h.0) p (below h.0 (omega (arith, few))).1 (got_member a.pool.doubtful p h) listed

  by_list : IsListed (retired a).pool p → Contains ps p
  by_list (inl r) = by_reserved (((agents_retire a).reserved kept p).0 r).0
  by_list (inr d) = by_doubtful (subst (λ (l : List Prefix). Contains l p) (agents_retire a).doubtful d)

-- ---- members of a list

-- none of the first n is the prefix
abbrev pub NoneBelow : List Prefix → Prefix → ℕ → Type 0
NoneBelow ps p n = (k : ℕ) (d : Prefix) → k < n → k < length ps → slice_index_or ps k d ≡ p → ⊥

pub none_more : (ps : List Prefix) (p q : Prefix) (i : ℕ) → i < length ps → q ≡ slice_index_or ps i q → NoneBelow ps p i → (q ≡ p → ⊥) → NoneBelow ps p (i + 1)
none_more ps p q i within is below other k d lt inside same = elim (cases_lt k i) [
  | inl before ↦ below k d before inside same
  | inr after ↦ let at : k ≡ i = omega arith in other (is ∙ (get_or_default ps i q d within ∙ (ap (λ n. slice_index_or ps n d) (sym at) ∙ same)))
]

pub none_has : (ps : List Prefix) (p : Prefix) (n : ℕ) → length ps ≤ n → NoneBelow ps p n → Contains ps p → ⊥
none_has ps p n all below h = below h.0 p (let within : h.0 < length ps = h.1 in omega arith) h.1 h.2

pub has_at : (ps : List Prefix) (p q : Prefix) (i : ℕ) → i < length ps → q ≡ slice_index_or ps i q → q ≡ p → Contains ps p
has_at ps p q i within is same = (i, within, get_or_default ps i p q within ∙ (sym is ∙ same))
