-- When a giver decides what.
use Rattle.std.proofs.Common.{◌≡◌, ◌↔◌, ◌⊎◌, inl, inr, ℕ, ◌==◌, ◌<◌, ◌≤◌, Bool, true, false, cond, List, [], ◌∷◌, ◌++◌, Contains, Option, Some, None, IfSome, IsTrue, refl, sym, ap, subst, ◌∙◌, arith}
use Rattle.std.proofs.lemmas.Bool.{le-leb}
use Rattle.std.proofs.lemmas.Bool.Decides.{eqb_tells}
use Rattle.grasp_cbor.specs.DataItem.{DataItem}
use Rattle.grasp_types.specs.Prefix.{AddressBlock as Prefix}
use Rattle.grasp_pool.specs.Canonical.{IsLowestFree, HasNoFree}
use Rattle.grasp_pool.specs.Holdings.{Holding}
use Rattle.grasp_pool.specs.Pools.{IsPool, room_of}
use Rattle.grasp_pool.specs.Functions.{take_reply, lowest_free, can_gain}
use Rattle.grasp_pool.proofs.Gaining.{can_gain_tells}
use Rattle.grasp_pool.proofs.Lists.{lt_tells}
use Rattle.grasp_agent.specs.Deciding.{IsFirstFree, FitsPool, GiverDecides, GiversDecide}
use Rattle.grasp_agent.specs.Decisions.{candidates, given_or, first_given, receiver_decision, giver_decision}
use Rattle.grasp_agent.specs.Values.{asked_in, returned_in}
use Rattle.grasp_agent.specs.declared.decision.GiverDecision.{GiverDecision}
use Rattle.grasp_agent.specs.declared.decision.GiverDecision.TheVariants as giver
use Rattle.grasp_agent.specs.declared.decision.Reason.TheVariants.{BadValue, NoLoops, NoPrefix, TooSmall, NotTaken}
use Rattle.grasp_agent.proofs.Deciding.{more_loops, none_in, cons_first, cons_more, cons_cases, IsGiven, first_is_free, candidates_range}
use Rattle.grasp_agent.proofs.KeepDecisions.{IsLength, asked_ok, give_received, give_none, give_free, give_some}

-- ---- one first free prefix

-- the first place of a number in a list
record Split (xs : List ℕ) (x : ℕ) : Type 0 where
  front : List ℕ
  rest : List ℕ
  is : xs ≡ front ++ x ∷ rest
  unseen : ¬ Contains front x

split : (xs : List ℕ) (x : ℕ) → Contains xs x → Split xs x
split [] x has = absurd (none_in x has)
split (y ∷ ys) x has = elim (eqb_tells y x) [
  | inl same ↦ record { front = []; rest = ys; is = ap (λ z. z ∷ ys) same.1; unseen = λ k. none_in x k }
  | inr other ↦ elim (cons_cases y x ys has) [
    | inl e ↦ absurd (other.1 e)
    | inr more ↦ longer (split ys x more) other.1
  ]
]
  where
    longer : Split ys x → ¬ (y ≡ x) → Split (y ∷ ys) x
    longer s other = record {
      front = y ∷ s.front;
      rest = s.rest;
      is = ap (λ zs. y ∷ zs) s.is;
      unseen = λ k. elim (cons_cases y x s.front k) [ inl e ↦ other e | inr more ↦ s.unseen more ];
    }

-- where the first number of a list isn't its length, nothing of that number is free
none_first : (h : Holding) (n : ℕ) (ns : List ℕ) (p : Prefix) → IsFirstFree h (n ∷ ns) p → ¬ (n ≡ p.length) → HasNoFree h.free n
none_first h n ns p f other = elim (cons_cases n p.length ns f.tried) [
  | inl same ↦ absurd (other same)
  | inr more ↦
      let s : Split ns p.length = split ns p.length more in
      f.before (n ∷ s.front) s.rest (ap (λ zs. n ∷ zs) s.is)
      (λ k. elim (cons_cases n p.length s.front k) [ inl e ↦ other e | inr deep ↦ s.unseen deep ]) n (cons_first n s.front)
]

-- where the first length isn't that of the first free prefix, the prefix is the first free one of the other lengths
none_rest : (h : Holding) (n : ℕ) (ns : List ℕ) (p : Prefix) → IsFirstFree h (n ∷ ns) p → ¬ (n ≡ p.length) → IsFirstFree h ns p
none_rest h n ns p f other = record {
  tried = elim (cons_cases n p.length ns f.tried) [ inl same ↦ absurd (other same) | inr more ↦ more ];
  least = f.least;
  before = λ front rest is unseen m has. f.before (n ∷ front) rest (ap (λ zs. n ∷ zs) is)
      (λ k. elim (cons_cases n p.length front k) [ inl e ↦ other e | inr deep ↦ unseen deep ]) m (cons_more n m front has);
}

-- what is lowest of a length is free
some_free : (h : Holding) (n : ℕ) (p : Prefix) → IsLowestFree h.free n p → ¬ HasNoFree h.free n
some_free h n p low none = none p low.free low.length

-- of each length at most one free prefix is the lowest
one_lowest : (h : Holding) (p q : Prefix) → IsLowestFree h.free p.length p → IsLowestFree h.free q.length q → p.length ≡ q.length → p ≡ q
one_lowest h p q low less same =
    let le : p.address ≤ q.address = low.least q less.free (sym same)
    in let ge : q.address ≤ p.address = less.least p low.free same
    in let e : p.address ≡ q.address = omega arith
    in λ i. record { address = e i; length = same i }

-- of some lengths at most one prefix is the first that is free
one_first : (h : Holding) (ns : List ℕ) (p q : Prefix) → IsFirstFree h ns p → IsFirstFree h ns q → p ≡ q
one_first h [] p q f g = absurd (none_in p.length f.tried)
one_first h (n ∷ ns) p q f g = by (one_first h ns p q) (eqb_tells n p.length) (eqb_tells n q.length)
  where
    by : (IsFirstFree h ns p → IsFirstFree h ns q → p ≡ q) → (((n == p.length) ≡ true) × (n ≡ p.length)) ⊎ (((n == p.length) ≡ false) × (¬ (n ≡ p.length)))
        → (((n == q.length) ≡ true) × (n ≡ q.length)) ⊎ (((n == q.length) ≡ false) × (¬ (n ≡ q.length))) → p ≡ q
    by again (inl a) (inl b) = one_lowest h p q f.least g.least (sym a.1 ∙ b.1)
    by again (inl a) (inr b) = absurd (some_free h p.length p f.least (subst (λ m. HasNoFree h.free m) a.1 (none_first h n ns q g b.1)))
    by again (inr a) (inl b) = absurd (some_free h q.length q g.least (subst (λ m. HasNoFree h.free m) b.1 (none_first h n ns p f a.1)))
    by again (inr a) (inr b) = again (none_rest h n ns p f a.1) (none_rest h n ns q g b.1)

-- ---- what the pool gives

-- without room it gives nothing
no_room : (h : Holding) (ns : List ℕ) → room_of h < 128 → first_given h ns ≡ None
unfolding first_given
no_room h [] room = refl
no_room h (n ∷ ns) room =
    let none : take_reply h n ≡ None = elim (lt_tells (room_of h) 128) [
      | inl x ↦ ap (λ b. cond b None (lowest_free h.free n)) x.0
      | inr x ↦ let big : 128 ≤ room_of h = x.1 in absurd (omega arith)
    ]
    in ap (λ o. given_or o (first_given h ns)) none ∙ no_room h ns room

module _ (h : Holding) (v : Option DataItem) (loops : ℕ) (first : Bool) (pool : IsPool h) where
  -- what it gives of the lengths that are tried
  gives : (n : ℕ) → asked_in v ≡ Some n → 128 ≤ room_of h → IsGiven h (candidates n loops first) (first_given h (candidates n loops first))
  gives n asked room =
      let r : IsLength n = subst (λ o. IfSome o IsLength) asked (asked_ok v)
      in first_is_free h (candidates n loops first) pool room (candidates_range n loops first r.0 r.1)

  -- without loops it declines
  without_loops : (n : ℕ) → asked_in v ≡ Some n → loops ≤ 1 → giver_decision h v loops first ≡ giver.Decline NoLoops
  without_loops n asked few = by (first_given h (candidates n loops first)) refl
    where
      by : (o : Option Prefix) → first_given h (candidates n loops first) ≡ o → giver_decision h v loops first ≡ giver.Decline NoLoops
      by None e = give_free h v loops first n asked e ∙ ap (λ b. cond b (giver.Decline NoLoops) (giver.Decline NoPrefix)) (le-leb loops 1 few)
      by (Some p) e = give_some h v loops first n p asked e ∙ ap (λ b. cond b (giver.Decline NoLoops) (giver.Offer p)) (le-leb loops 1 few)

  -- where nothing is given it declines
  without_prefix : (n : ℕ) → asked_in v ≡ Some n → 2 ≤ loops → first_given h (candidates n loops first) ≡ None
      → giver_decision h v loops first ≡ giver.Decline NoPrefix
  without_prefix n asked more e =
      give_free h v loops first n asked e ∙ ap (λ b. cond b (giver.Decline NoLoops) (giver.Decline NoPrefix)) (more_loops loops more)

  -- what is given is offered
  with_prefix : (n : ℕ) (p : Prefix) → asked_in v ≡ Some n → 2 ≤ loops → first_given h (candidates n loops first) ≡ Some p
      → giver_decision h v loops first ≡ giver.Offer p
  with_prefix n p asked more e = give_some h v loops first n p asked e ∙ ap (λ b. cond b (giver.Decline NoLoops) (giver.Offer p)) (more_loops loops more)

  -- what is given back is accepted where it fits the pool
  received : (p : Prefix) → returned_in v ≡ Some p → GiverDecides h v loops first (receiver_decision h p)
  received p back = choose (can_gain h p) (can_gain_tells h p)
    where
      choose : (b : Bool) → IsTrue b ↔ FitsPool h p → GiverDecides h v loops first (cond b (giver.Accept p) (giver.Decline NotTaken))
      choose true fits = (back, fits.0 refl)
      choose false fits = (p, back, λ k. let e : false ≡ true = fits.1 k in absurd (cc))

  -- what it decides
  decides : GiverDecides h v loops first (giver_decision h v loops first)
  decides = back (returned_in v) refl
    where
      given : (n : ℕ) → asked_in v ≡ Some n → 2 ≤ loops → 128 ≤ room_of h → (o : Option Prefix) → first_given h (candidates n loops first) ≡ o
          → IsGiven h (candidates n loops first) o → GiverDecides h v loops first (giver_decision h v loops first)
      given n asked more room None e none = subst (GiverDecides h v loops first) (sym (without_prefix n asked more e)) (n, asked, more, inr none)
      given n asked more room (Some p) e is = subst (GiverDecides h v loops first) (sym (with_prefix n p asked more e)) (n, asked, more, room, is)

      looped : (n : ℕ) → asked_in v ≡ Some n → 2 ≤ loops → GiverDecides h v loops first (giver_decision h v loops first)
      looped n asked more = elim (lt_tells (room_of h) 128) [
        | inl x ↦ subst (GiverDecides h v loops first) (sym (without_prefix n asked more (no_room h (candidates n loops first) x.1))) (n, asked, more, inl x.1)
        | inr x ↦ given n asked more x.1 (first_given h (candidates n loops first)) refl (gives n asked x.1)
      ]

      by : returned_in v ≡ None → (o : Option ℕ) → asked_in v ≡ o → GiverDecides h v loops first (giver_decision h v loops first)
      by none None e = subst (GiverDecides h v loops first) (sym (give_none h v loops first none e)) (e, none)
      by none (Some n) e = elim (lt_tells loops 2) [
        | inl x ↦ let few : loops ≤ 1 = omega (arith, x.1) in subst (GiverDecides h v loops first) (sym (without_loops n e few)) (n, e, few)
        | inr x ↦ looped n e x.1
      ]

      back : (o : Option Prefix) → returned_in v ≡ o → GiverDecides h v loops first (giver_decision h v loops first)
      back None e = by e (asked_in v) refl
      back (Some p) e = subst (GiverDecides h v loops first) (sym (give_received h v loops first p e)) (received p e)

  -- a giver makes a decision when the decision's condition holds
  decided : (d : GiverDecision) → GiverDecides h v loops first d → giver_decision h v loops first ≡ d
  decided (giver.Offer p) (n, asked, more, room, f) = with_prefix n p asked more (by (first_given h (candidates n loops first)) (gives n asked room))
    where
      by : (o : Option Prefix) → IsGiven h (candidates n loops first) o → o ≡ Some p
      by None none = absurd (some_free h p.length p f.least (none p.length f.tried))
      by (Some q) is = ap Some (one_first h (candidates n loops first) q p is f)
  decided (giver.Accept p) (back, fits) =
      give_received h v loops first p back ∙ ap (λ b. cond b (giver.Accept p) (giver.Decline NotTaken)) ((can_gain_tells h p).1 fits)
  decided (giver.Decline BadValue) (none, nor) = give_none h v loops first nor none
  decided (giver.Decline NoLoops) (n, asked, few) = without_loops n asked few
  decided (giver.Decline NoPrefix) (n, asked, more, inl room) = without_prefix n asked more (no_room h (candidates n loops first) room)
  decided (giver.Decline NoPrefix) (n, asked, more, inr none) = elim (lt_tells (room_of h) 128) [
    | inl x ↦ without_prefix n asked more (no_room h (candidates n loops first) x.1)
    | inr x ↦ without_prefix n asked more (by (first_given h (candidates n loops first)) (gives n asked x.1))
  ]
    where
      by : (o : Option Prefix) → IsGiven h (candidates n loops first) o → o ≡ None
      by None is = refl
      by (Some p) is = absurd (some_free h p.length p is.least (none p.length is.tried))
  decided (giver.Decline TooSmall) k = absurd k
  decided (giver.Decline NotTaken) (p, back, none) =
      give_received h v loops first p back ∙ ap (λ b. cond b (giver.Accept p) (giver.Decline NotTaken)) (by (can_gain h p) (can_gain_tells h p))
    where
      by : (b : Bool) → IsTrue b ↔ FitsPool h p → b ≡ false
      by true fits = absurd (none (fits.0 refl))
      by false fits = refl

-- a giver makes a decision exactly when the decision's condition holds
pub givers_decide : GiversDecide
givers_decide h v loops first d pool =
    (λ e. subst (GiverDecides h v loops first) e (decides h v loops first pool), λ k. decided h v loops first pool d k)
