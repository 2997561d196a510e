-- What a decision rests on: a prefix that is offered was given, and one that is accepted is valid and can be gained.
use Rattle.std.proofs.Common.{◌≡◌, ℕ, zero, suc, ◌+◌, ◌-◌, ◌%◌, ◌^◌, ◌≤◌, List, [], ◌∷◌, ◌++◌, length, slice_get, Bool, true, false, cond, ◌&&◌, nat_lt, nat_le, nat_eq, Option, Some, None, inl, inr, refl, sym, ap, subst, arith, IfSome, ltb-true}
use Rattle.std.proofs.lemmas.Bool.{leb-true, eqb-true}
use Rattle.std.proofs.lemmas.Bool.Decides.{eqb_tells}
use Rattle.std.proofs.lemmas.Option.{none-some}
use Rattle.grasp_cbor.specs.DataItem.{DataItem, array, items_in}
use Rattle.grasp_types.specs.Prefix.{AddressBlock as Prefix, IsPrefix, size_of}
use Rattle.grasp_types.proofs.Multiples.{multiple_of_mod}
use Rattle.grasp_pool.specs.Holdings.{Holding}
use Rattle.grasp_pool.specs.Pools.{IsPool}
use Rattle.grasp_pool.specs.Functions.{take_reply, can_gain}
use Rattle.grasp_agent.specs.Values.{asked_in, offered_in, returned_in, is_true_in, length_in, number_in, length_at, address_at, beside, prefix_in}
use Rattle.grasp_agent.specs.Decisions.{upward, tries, rounded, candidates, given_or, first_given, receiver_decision, giver_decision, requester_decision}
use Rattle.grasp_agent.specs.declared.decision.GiverDecision.{GiverDecision}
use Rattle.grasp_agent.specs.declared.decision.GiverDecision.TheVariants as giver
use Rattle.grasp_agent.specs.declared.decision.RequesterDecision.{RequesterDecision}
use Rattle.grasp_agent.specs.declared.decision.RequesterDecision.TheVariants as requester
use Rattle.grasp_agent.specs.declared.decision.Reason.TheVariants.{BadValue, NoLoops, NoPrefix, TooSmall, NotTaken}
use Rattle.grasp_agent.proofs.OfferPools.{IsGiven, taken_given}

-- ---- what is read from a value

-- the length of a prefix
abbrev pub IsLength : ℕ → Type 0
IsLength n = (1 ≤ n) × (n ≤ 128)

-- a length that was tested is one
length_ok : (o : Option ℕ) → IfSome (length_in o) IsLength
length_ok None = tt
length_ok (Some n) = choose (nat_le 1 n) refl (nat_le n 128) refl
  where
    choose : (a : Bool) → nat_le 1 n ≡ a → (b : Bool) → nat_le n 128 ≡ b → IfSome (cond (a && b) (Some n) None) IsLength
    choose true e true f = (leb-true 1 n e, leb-true n 128 f)
    choose true e false f = tt
    choose false e b f = tt

-- a length beside an address is one
beside_ok : (a n : Option ℕ) → IfSome n IsLength → IfSome (beside a n) IsLength
beside_ok None n h = tt
beside_ok (Some a) n h = h

-- of two lengths either is one
cond_ok : (b : Bool) (x y : Option ℕ) → IfSome x IsLength → IfSome y IsLength → IfSome (cond b x y) IsLength
cond_ok true x y h k = h
cond_ok false x y h k = k

-- a length that is asked for is one of a prefix
pub asked_ok : (v : Option DataItem) → IfSome (asked_in v) IsLength
unfolding asked_in
asked_ok None = tt
asked_ok (Some (array ts)) =
    let at : IfSome (length_at (items_in ts)) IsLength = length_ok (number_in (slice_get (items_in ts) 0))
    in cond_ok (nat_eq (length (items_in ts)) 1) _ _ at (cond_ok (nat_eq (length (items_in ts)) 2) _ _ (beside_ok (address_at (items_in ts)) _ at) tt)
asked_ok (Some t) = tt

-- the block is a prefix
abbrev IsValidBlock : Prefix → Type 0
IsValidBlock p = IsPrefix p.address p.length

-- a prefix that was tested is one
prefix_ok : (n a : Option ℕ) → IfSome n IsLength → IfSome (prefix_in n a) IsValidBlock
prefix_ok None a h = tt
prefix_ok (Some n) None h = tt
prefix_ok (Some n) (Some a) h = choose (nat_lt a (2 ^ 128)) refl (nat_eq (a % size_of n) 0) refl
  where
    choose : (b : Bool) → nat_lt a (2 ^ 128) ≡ b → (c : Bool) → nat_eq (a % size_of n) 0 ≡ c → IfSome (cond (b && c) (Some (record { address = a; length = n })) None) IsValidBlock
    choose true e true f = record { least = h.0; most = h.1; within = ltb-true a (2 ^ 128) e; aligned = multiple_of_mod (size_of n) a (eqb-true (a % size_of n) 0 f) }
    choose true e false f = tt
    choose false e c f = tt

-- a prefix or none
choice_ok : (b : Bool) (x : Option Prefix) → IfSome x IsValidBlock → IfSome (cond b x None) IsValidBlock
choice_ok true x h = h
choice_ok false x h = tt

-- a prefix that is offered is valid
pub offered_ok : (v : Option DataItem) → IfSome (offered_in v) IsValidBlock
unfolding offered_in
offered_ok None = tt
offered_ok (Some (array ts)) =
    choice_ok (nat_eq (length (items_in ts)) 2) _ (prefix_ok (length_at (items_in ts)) (address_at (items_in ts)) (length_ok (number_in (slice_get (items_in ts) 0))))
offered_ok (Some t) = tt

-- a prefix that is given back is valid
pub returned_ok : (v : Option DataItem) → IfSome (returned_in v) IsValidBlock
unfolding returned_in
returned_ok None = tt
returned_ok (Some (array ts)) =
    choice_ok (nat_eq (length (items_in ts)) 3 && is_true_in (slice_get (items_in ts) 2)) _
    (prefix_ok (length_at (items_in ts)) (address_at (items_in ts)) (length_ok (number_in (slice_get (items_in ts) 0))))
returned_ok (Some t) = tt

-- ---- one that requests

-- what is accepted is valid and can be gained, and what is asked again is what is wanted
abbrev pub AskedBy : Holding → ℕ → RequesterDecision → Type 0
AskedBy h wanted (requester.Accept p) = IsPrefix p.address p.length × (can_gain h p ≡ true)
AskedBy h wanted (requester.Counter n) = wanted ≡ n
AskedBy h wanted (requester.Decline reason) = Unit {0}

-- the decision where a prefix is offered
abbrev pub on_offer : Holding → ℕ → ℕ → ℕ → Prefix → RequesterDecision
on_offer h wanted longest loops p =
    cond (nat_lt longest p.length) (requester.Decline TooSmall) (cond (nat_lt p.length wanted && nat_le 2 loops) (requester.Counter wanted) (cond (can_gain h p) (requester.Accept p) (requester.Decline NotTaken)))

-- no prefix is offered
pub ask_none : (h : Holding) (wanted longest : ℕ) (v : Option DataItem) (loops : ℕ) → offered_in v ≡ None → requester_decision h wanted longest v loops ≡ requester.Decline BadValue
unfolding requester_decision
ask_none h wanted longest v loops e = rw e refl

-- a prefix is offered
pub ask_some : (h : Holding) (wanted longest : ℕ) (v : Option DataItem) (loops : ℕ) (p : Prefix) → offered_in v ≡ Some p → requester_decision h wanted longest v loops ≡ on_offer h wanted longest loops p
unfolding requester_decision
ask_some h wanted longest v loops p e = rw e refl

-- what is accepted of an offer
on_offer_asked : (h : Holding) (wanted longest loops : ℕ) (p : Prefix) → IsPrefix p.address p.length → AskedBy h wanted (on_offer h wanted longest loops p)
on_offer_asked h wanted longest loops p valid = choose (nat_lt longest p.length) (nat_lt p.length wanted && nat_le 2 loops) (can_gain h p) refl
  where
    choose : (a b c : Bool) → can_gain h p ≡ c → AskedBy h wanted (cond a (requester.Decline TooSmall) (cond b (requester.Counter wanted) (cond c (requester.Accept p) (requester.Decline NotTaken))))
    choose true b c e = tt
    choose false true c e = refl
    choose false false true e = (valid, e)
    choose false false false e = tt

-- what one that requests accepts
pub ask_asked : (h : Holding) (wanted longest : ℕ) (v : Option DataItem) (loops : ℕ) → AskedBy h wanted (requester_decision h wanted longest v loops)
ask_asked h wanted longest v loops = choose (offered_in v) refl (offered_ok v)
  where
    choose : (o : Option Prefix) → offered_in v ≡ o → IfSome o IsValidBlock → AskedBy h wanted (requester_decision h wanted longest v loops)
    choose None e k = subst (AskedBy h wanted) (sym (ask_none h wanted longest v loops e)) tt
    choose (Some p) e k = subst (AskedBy h wanted) (sym (ask_some h wanted longest v loops p e)) (on_offer_asked h wanted longest loops p k)

-- ---- a giver

-- what is offered was given, and what is accepted is valid and can be gained
abbrev pub GivenBy : Holding → GiverDecision → Type 0
GivenBy h (giver.Offer p) = IsGiven h p
GivenBy h (giver.Accept p) = IsPrefix p.address p.length × (can_gain h p ≡ true)
GivenBy h (giver.Decline reason) = Unit {0}

-- each is the length of a prefix
abbrev AreLengths : List ℕ → Type 0
AreLengths [] = Unit {0}
AreLengths (n ∷ ns) = IsLength n × AreLengths ns

-- lengths upward to 128
upward_lengths : (k n : ℕ) → 1 ≤ n → n + k ≤ 129 → AreLengths (upward k n)
unfolding upward
upward_lengths zero n some most = tt
upward_lengths (suc k) n some most = ((some, omega arith), upward_lengths k (n + 1) (omega arith) (omega arith))

-- a rounded length
rounded_lengths : (a b : Bool) (m : ℕ) → m ≤ 128 → AreLengths (cond (a && (b && nat_lt 0 m)) (m ∷ []) [])
rounded_lengths false b m most = tt
rounded_lengths true false m most = tt
rounded_lengths true true m most = choose (nat_lt 0 m) refl
  where
    choose : (c : Bool) → nat_lt 0 m ≡ c → AreLengths (cond c (m ∷ []) [])
    choose true e = ((ltb-true 0 m e, most), tt)
    choose false e = tt

-- two lists of lengths
both_lengths : (xs ys : List ℕ) → AreLengths xs → AreLengths ys → AreLengths (xs ++ ys)
both_lengths [] ys h k = k
both_lengths (x ∷ xs) ys h k = (h.0, both_lengths xs ys h.1 k)

-- each candidate is the length of a prefix
pub candidates_lengths : (n loops : ℕ) (first : Bool) → 1 ≤ n → n ≤ 128 → AreLengths (candidates n loops first)
candidates_lengths n loops first some most =
    both_lengths (rounded n loops first) (upward (tries n) n) (rounded_lengths first (nat_le 4 loops) (n - n % 4) (omega arith)) (upward_lengths (tries n) n some (omega arith))

-- either of two was given
either_given : (h : Holding) (a b : Option Prefix) → IfSome a (λ p. IsGiven h p) → IfSome b (λ p. IsGiven h p) → IfSome (given_or a b) (λ p. IsGiven h p)
either_given h None b x y = y
either_given h (Some p) b x y = x

-- the first that the pool gives was given
pub first_is_given : (h : Holding) (ns : List ℕ) → IsPool h → AreLengths ns → IfSome (first_given h ns) (λ p. IsGiven h p)
unfolding first_given
first_is_given h [] pool ok = tt
first_is_given h (n ∷ ns) pool ok = either_given h (take_reply h n) (first_given h ns) (taken_given h n pool ok.0.0 ok.0.1 (take_reply h n) refl) (first_is_given h ns pool ok.1)

-- a value of one or two parts has no third one
two_at_most : (k : ℕ) (x y : Option ℕ) (b : Bool) (z : Option Prefix) (n : ℕ) → cond (nat_eq k 1) x (cond (nat_eq k 2) y None) ≡ Some n
    → cond (nat_eq k 3 && b) z None ≡ None
two_at_most k x y b z n e = elim (eqb_tells k 3) [
  | inl same ↦ absurd (none-some n (subst (λ (m : ℕ). cond (nat_eq m 1) x (cond (nat_eq m 2) y None) ≡ Some n) same.1 e))
  | inr other ↦ ap (λ c. cond (c && b) z None) other.0
]

-- a value that asks for a length gives nothing back
pub asked_not_returned : (v : Option DataItem) (n : ℕ) → asked_in v ≡ Some n → returned_in v ≡ None
unfolding asked_in returned_in
asked_not_returned None n e = refl
asked_not_returned (Some (array ts)) n e = two_at_most (length (items_in ts)) _ _ _ _ n e
asked_not_returned (Some t) n e = refl

-- a prefix is given back
pub give_received : (h : Holding) (v : Option DataItem) (loops : ℕ) (first : Bool) (p : Prefix) → returned_in v ≡ Some p
    → giver_decision h v loops first ≡ receiver_decision h p
unfolding giver_decision
give_received h v loops first p e = rw e refl

-- no length is asked for
pub give_none : (h : Holding) (v : Option DataItem) (loops : ℕ) (first : Bool) → returned_in v ≡ None → asked_in v ≡ None → giver_decision h v loops first ≡ giver.Decline BadValue
unfolding giver_decision
give_none h v loops first none e = rw (none, e) refl

-- nothing is free
pub give_free : (h : Holding) (v : Option DataItem) (loops : ℕ) (first : Bool) (n : ℕ) → asked_in v ≡ Some n → first_given h (candidates n loops first) ≡ None
    → giver_decision h v loops first ≡ cond (nat_le loops 1) (giver.Decline NoLoops) (giver.Decline NoPrefix)
unfolding giver_decision
give_free h v loops first n e f = rw (asked_not_returned v n e, e, f) refl

-- a prefix is free
pub give_some : (h : Holding) (v : Option DataItem) (loops : ℕ) (first : Bool) (n : ℕ) (p : Prefix) → asked_in v ≡ Some n → first_given h (candidates n loops first) ≡ Some p
    → giver_decision h v loops first ≡ cond (nat_le loops 1) (giver.Decline NoLoops) (giver.Offer p)
unfolding giver_decision
give_some h v loops first n p e f = rw (asked_not_returned v n e, e, f) refl

-- either of two decisions
choice_given : (h : Holding) (b : Bool) (d e : GiverDecision) → GivenBy h d → GivenBy h e → GivenBy h (cond b d e)
choice_given h true d e x y = x
choice_given h false d e x y = y

-- what is given back is accepted where it can be gained
receive_given : (h : Holding) (p : Prefix) → IsPrefix p.address p.length → GivenBy h (receiver_decision h p)
receive_given h p valid = choose (can_gain h p) refl
  where
    choose : (b : Bool) → can_gain h p ≡ b → GivenBy h (cond b (giver.Accept p) (giver.Decline NotTaken))
    choose true e = (valid, e)
    choose false e = tt

-- what a giver offers was given, and what it accepts can be gained
pub give_given : (h : Holding) (v : Option DataItem) (loops : ℕ) (first : Bool) → IsPool h → GivenBy h (giver_decision h v loops first)
give_given h v loops first pool = choose (returned_in v) refl (returned_ok v) (asked_in v) refl (asked_ok v)
  where
    found : (n : ℕ) → asked_in v ≡ Some n → (o : Option Prefix) → first_given h (candidates n loops first) ≡ o → IfSome o (λ p. IsGiven h p) → GivenBy h (giver_decision h v loops first)
    found n e None f k = subst (GivenBy h) (sym (give_free h v loops first n e f)) (choice_given h (nat_le loops 1) (giver.Decline NoLoops) (giver.Decline NoPrefix) tt tt)
    found n e (Some p) f k = subst (GivenBy h) (sym (give_some h v loops first n p e f)) (choice_given h (nat_le loops 1) (giver.Decline NoLoops) (giver.Offer p) tt k)

    choose : (r : Option Prefix) → returned_in v ≡ r → IfSome r IsValidBlock → (o : Option ℕ) → asked_in v ≡ o → IfSome o IsLength
        → GivenBy h (giver_decision h v loops first)
    choose (Some p) back valid o e k = subst (GivenBy h) (sym (give_received h v loops first p back)) (receive_given h p valid)
    choose None back valid None e k = subst (GivenBy h) (sym (give_none h v loops first back e)) tt
    choose None back valid (Some n) e k = found n e (first_given h (candidates n loops first)) refl (first_is_given h (candidates n loops first) pool (candidates_lengths n loops first k.0 k.1))
