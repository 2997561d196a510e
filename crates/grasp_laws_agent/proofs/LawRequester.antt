-- When one that requests a prefix decides what.
use Rattle.std.proofs.Common.{◌≡◌, ◌⊎◌, inl, inr, ℕ, ◌<◌, ◌≤◌, ◌&&◌, nat_le, nat_lt, Bool, true, false, cond, Option, Some, None, refl, sym, ap, subst, ◌∙◌, arith}
use Rattle.grasp_cbor.specs.DataItem.{DataItem}
use Rattle.grasp_types.specs.Prefix.{AddressBlock as Prefix}
use Rattle.grasp_pool.specs.Holdings.{Holding}
use Rattle.grasp_pool.specs.Functions.{can_gain}
use Rattle.grasp_pool.proofs.Gaining.{can_gain_tells}
use Rattle.grasp_pool.proofs.Lists.{lt_tells}
use Rattle.grasp_agent.specs.Deciding.{MayCounter, FitsPool, RequesterDecides, RequestersDecide}
use Rattle.grasp_agent.specs.Decisions.{requester_decision}
use Rattle.grasp_agent.specs.Values.{offered_in}
use Rattle.grasp_agent.specs.declared.decision.Reason.TheVariants.{BadValue, NoLoops, NoPrefix, TooSmall, NotTaken}
use Rattle.grasp_agent.specs.declared.decision.RequesterDecision.{RequesterDecision}
use Rattle.grasp_agent.specs.declared.decision.RequesterDecision.TheVariants as requester
use Rattle.grasp_agent.proofs.KeepDecisions.{on_offer, ask_none, ask_some}

-- whether it may ask again
may_tells : (wanted loops : ℕ) (p : Prefix)
    → (((nat_lt p.length wanted && nat_le 2 loops) ≡ true) × MayCounter wanted loops p)
    ⊎ (((nat_lt p.length wanted && nat_le 2 loops) ≡ false) × (¬ MayCounter wanted loops p))
may_tells wanted loops p = elim (lt_tells p.length wanted) [
  | inl a ↦ elim (lt_tells 1 loops) [
    | inl b ↦ let two : 2 ≤ loops = b.1 in inl (both (nat_lt p.length wanted) (nat_le 2 loops) a.0 b.0, (a.1, two))
    | inr b ↦ let few : loops ≤ 1 = b.1 in inr (second (nat_lt p.length wanted) (nat_le 2 loops) b.0, λ m. let two : 2 ≤ loops = m.1 in absurd (omega arith))
  ]
  | inr a ↦
      let long : wanted ≤ p.length = a.1 in
      inr (first (nat_lt p.length wanted) (nat_le 2 loops) a.0, λ m. let short : p.length < wanted = m.0 in absurd (omega arith))
]
  where
    both : (a b : Bool) → a ≡ true → b ≡ true → (a && b) ≡ true
    both true true e f = refl
    both true false e f = absurd (cc)
    both false b e f = absurd (cc)

    first : (a b : Bool) → a ≡ false → (a && b) ≡ false
    first true b e = absurd (cc)
    first false b e = refl

    second : (a b : Bool) → b ≡ false → (a && b) ≡ false
    second true true e = absurd (cc)
    second true false e = refl
    second false b e = refl

-- whether it can gain the prefix
fits_tells : (h : Holding) (p : Prefix) → ((can_gain h p ≡ true) × FitsPool h p) ⊎ ((can_gain h p ≡ false) × (¬ FitsPool h p))
fits_tells h p = by (can_gain h p) refl
  where
    by : (b : Bool) → can_gain h p ≡ b → ((can_gain h p ≡ true) × FitsPool h p) ⊎ ((can_gain h p ≡ false) × (¬ FitsPool h p))
    by true e = inl (e, (can_gain_tells h p).0 e)
    by false e = inr (e, λ fits. let so : can_gain h p ≡ true = (can_gain_tells h p).1 fits in absurd (cc))

module _ (h : Holding) (wanted longest : ℕ) (v : Option DataItem) (loops : ℕ) where
  -- the decision, by what was tested
  abbrev tested : Bool → Bool → Bool → Prefix → RequesterDecision
  tested a b c p = cond a (requester.Decline TooSmall) (cond b (requester.Counter wanted) (cond c (requester.Accept p) (requester.Decline NotTaken)))

  -- what it decides where a prefix is offered
  of_offer : (p : Prefix) → offered_in v ≡ Some p → RequesterDecides h wanted longest v loops (on_offer h wanted longest loops p)
  of_offer p is = by (nat_lt longest p.length) (lt_tells longest p.length)
      (nat_lt p.length wanted && nat_le 2 loops) (may_tells wanted loops p) (can_gain h p) (fits_tells h p)
    where
      by : (a : Bool) → ((a ≡ true) × (longest < p.length)) ⊎ ((a ≡ false) × (p.length ≤ longest))
          → (b : Bool) → ((b ≡ true) × MayCounter wanted loops p) ⊎ ((b ≡ false) × (¬ MayCounter wanted loops p))
          → (c : Bool) → ((c ≡ true) × FitsPool h p) ⊎ ((c ≡ false) × (¬ FitsPool h p)) → RequesterDecides h wanted longest v loops (tested a b c p)
      by true (inl x) b y c z = (p, is, x.1)
      by true (inr x) b y c z = absurd (cc)
      by false (inl x) b y c z = absurd (cc)
      by false (inr x) true (inl y) c z = (refl, (p, is, x.1, y.1))
      by false (inr x) true (inr y) c z = absurd (cc)
      by false (inr x) false (inl y) c z = absurd (cc)
      by false (inr x) false (inr y) true (inl z) = (is, x.1, y.1, z.1)
      by false (inr x) false (inr y) true (inr z) = absurd (cc)
      by false (inr x) false (inr y) false (inl z) = absurd (cc)
      by false (inr x) false (inr y) false (inr z) = (p, is, x.1, y.1, z.1)

  -- what it decides
  decides : RequesterDecides h wanted longest v loops (requester_decision h wanted longest v loops)
  decides = by (offered_in v) refl
    where
      by : (o : Option Prefix) → offered_in v ≡ o → RequesterDecides h wanted longest v loops (requester_decision h wanted longest v loops)
      by None e = subst (RequesterDecides h wanted longest v loops) (sym (ask_none h wanted longest v loops e)) e
      by (Some p) e = subst (RequesterDecides h wanted longest v loops) (sym (ask_some h wanted longest v loops p e)) (of_offer p e)

  -- the decision on an offered prefix, from the answers of the tests
  on_tests : (p : Prefix) (a b c : Bool) → offered_in v ≡ Some p → nat_lt longest p.length ≡ a → (nat_lt p.length wanted && nat_le 2 loops) ≡ b
      → can_gain h p ≡ c
      → requester_decision h wanted longest v loops ≡ tested a b c p
  unfolding requester_decision
  on_tests p a b c is e f g = rw (is, e, f, g) refl

  long_not : (p : Prefix) → p.length ≤ longest → nat_lt longest p.length ≡ false
  long_not p le = elim (lt_tells longest p.length) [ inl x ↦ let lt : longest < p.length = x.1 in absurd (omega arith) | inr x ↦ x.0 ]

  may_so : (p : Prefix) → MayCounter wanted loops p → (nat_lt p.length wanted && nat_le 2 loops) ≡ true
  may_so p may = elim (may_tells wanted loops p) [ inl x ↦ x.0 | inr x ↦ absurd (x.1 may) ]

  may_not : (p : Prefix) → (¬ MayCounter wanted loops p) → (nat_lt p.length wanted && nat_le 2 loops) ≡ false
  may_not p none = elim (may_tells wanted loops p) [ inl x ↦ absurd (none x.1) | inr x ↦ x.0 ]

  fits_so : (p : Prefix) → FitsPool h p → can_gain h p ≡ true
  fits_so p fits = elim (fits_tells h p) [ inl x ↦ x.0 | inr x ↦ absurd (x.1 fits) ]

  fits_not : (p : Prefix) → (¬ FitsPool h p) → can_gain h p ≡ false
  fits_not p none = elim (fits_tells h p) [ inl x ↦ absurd (none x.1) | inr x ↦ x.0 ]

  -- a requester makes a decision when the decision's condition holds
  decided : (d : RequesterDecision) → RequesterDecides h wanted longest v loops d → requester_decision h wanted longest v loops ≡ d
  decided (requester.Accept p) (is, le, none, fits) = on_tests p false false true is (long_not p le) (may_not p none) (fits_so p fits)
  decided (requester.Counter n) (same, (p, is, le, may)) =
      on_tests p false true (can_gain h p) is (long_not p le) (may_so p may) refl ∙ ap requester.Counter (sym same)
  decided (requester.Decline BadValue) none = ask_none h wanted longest v loops none
  decided (requester.Decline NoLoops) k = absurd k
  decided (requester.Decline NoPrefix) k = absurd k
  decided (requester.Decline TooSmall) (p, is, lt) =
      elim (lt_tells longest p.length) [
        | inl x ↦ on_tests p true _ _ is x.0 refl refl
        | inr x ↦ let le : p.length ≤ longest = x.1 in absurd (omega arith)
      ]
  decided (requester.Decline NotTaken) (p, is, le, none, unfit) = on_tests p false false false is (long_not p le) (may_not p none) (fits_not p unfit)

-- a requester makes a decision exactly when the decision's condition holds
pub requesters_decide : RequestersDecide
requesters_decide h wanted longest v loops d =
    (λ e. subst (RequesterDecides h wanted longest v loops) e (decides h wanted longest v loops), λ k. decided h wanted longest v loops d k)
