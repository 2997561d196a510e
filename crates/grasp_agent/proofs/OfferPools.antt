-- What becomes of a pool and of the offers with it.
use Rattle.std.proofs.Common.{◌≡◌, ℕ, ◌≤◌, inl, List, ◌∷◌, ◌++◌, Contains, Option, Some, None, MatchOption, sym, subst, IfSome}
use Rattle.grasp_types.specs.Prefix.{AddressBlock as Prefix}
use Rattle.grasp_types.specs.declared.session.By.TheVariants.{Theirs}
use Rattle.grasp_types.specs.declared.session.Outcome.{Outcome}
use Rattle.grasp_types.specs.declared.session.Outcome.TheVariants as outcome
use Rattle.grasp_pool.specs.Holdings.{Holding, Reserves}
use Rattle.grasp_pool.specs.Pools.{IsPool, IsTaken, IsNotTaken}
use Rattle.grasp_pool.specs.Functions.{take_reply, after_take, after_back, after_confirm, after_doubt}
use Rattle.grasp_pool.proofs.Addresses.{first_in}
use Rattle.grasp_pool.proofs.Meanings.{take_answers, take_keeps, back_means, back_keeps, confirm_means, confirm_keeps, doubt_means, doubt_keeps}
use Rattle.grasp_agent.specs.Kept.{offer_and}
use Rattle.grasp_agent.specs.Replies.{giving_back, settled, settling}
use Rattle.grasp_agent.proofs.Offers.{middle_has, AreReserved, offer_out, offer_in}

-- a pool, whose reserved prefixes are the offers
pub record IsBacked (h : Holding) (offered : List Prefix) : Type 0 where
  pub pool : IsPool h
  pub are : AreReserved h.reserved offered

-- the offer between two parts is reserved
pub middle_reserved : (h : Holding) (front back : List Prefix) (p : Prefix) → IsBacked h (front ++ p ∷ back) → Contains h.reserved p
middle_reserved h front back p b = (b.are.same p).1 (middle_has front back p)

module _ (h : Holding) (front back : List Prefix) (p : Prefix) (b : IsBacked h (front ++ p ∷ back)) where
  -- the offer is reserved
  has : Contains h.reserved p
  has = middle_reserved h front back p b

  -- after this offer goes back to the pool, what is reserved is the other offers
  pub backed_back : IsBacked (after_back h p) (front ++ back)
  backed_back = record { pool = back_keeps h p b.pool has; are = offer_out h.reserved (after_back h p).reserved front back p (back_means h p b.pool has).reserved b.are }

  -- after this offer is confirmed, what is reserved is the other offers
  pub backed_confirm : IsBacked (after_confirm h p) (front ++ back)
  backed_confirm = record { pool = confirm_keeps h p b.pool has; are = offer_out h.reserved (after_confirm h p).reserved front back p (confirm_means h p b.pool has).reserved b.are }

  -- after this offer is put in doubt, what is reserved is the other offers
  pub backed_doubt : IsBacked (after_doubt h p) (front ++ back)
  backed_doubt = record { pool = doubt_keeps h p b.pool has; are = offer_out h.reserved (after_doubt h p).reserved front back p (doubt_means h p b.pool has).reserved b.are }

  -- after this offer's session ended, what is reserved is the other offers
  pub backed_settled : (e : Outcome) → IsBacked (settled h p e) (front ++ back)
  backed_settled (outcome.Agreed Theirs o) = backed_confirm
  backed_settled (outcome.Declined Theirs reason) = backed_back
  backed_settled _ = backed_doubt

-- an offer that was made before goes back
pub backed_giving_back : (h : Holding) (front back : List Prefix) (o : Option Prefix) → IsBacked h (front ++ offer_and o back) → IsBacked (giving_back h o) (front ++ back)
backed_giving_back h front back None b = b
backed_giving_back h front back (Some p) b = backed_back h front back p b

-- a session ends with its offer
pub backed_settling : (h : Holding) (front back : List Prefix) (o : Option Prefix) (e : Outcome) → IsBacked h (front ++ offer_and o back)
    → IsBacked (settling h o e) (front ++ back)
backed_settling h front back None e b = b
backed_settling h front back (Some p) e b = backed_settled h front back p b e

-- ---- a prefix that is given

-- the pool without it is a pool
pub record IsGiven (h : Holding) (p : Prefix) : Type 0 where
  pub pool : IsPool (after_take h p.length (Some p))
  pub reserves : Reserves h (after_take h p.length (Some p)) p

-- a prefix that is given was all free, so that it wasn't reserved
pub given_new : (h : Holding) (p : Prefix) → IsPool h → IsGiven h p → ¬ Contains h.reserved p
given_new h p pool g c = pool.held p p.address (inl c) (first_in p) (g.reserves.was p.address (first_in p))

-- what was given is offered
pub backed_given : (h : Holding) (front back : List Prefix) (p : Prefix) → IsBacked h (front ++ back) → IsGiven h p
    → IsBacked (after_take h p.length (Some p)) (front ++ p ∷ back)
backed_given h front back p b g =
    record { pool = g.pool; are = offer_in h.reserved (after_take h p.length (Some p)).reserved front back p g.reserves.reserved (given_new h p b.pool g) b.are }

-- what `take` answers is given
pub taken_given : (h : Holding) (n : ℕ) → IsPool h → 1 ≤ n → n ≤ 128 → (o : Option Prefix) → take_reply h n ≡ o → IfSome o (λ p. IsGiven h p)
taken_given h n pool some most None e = tt
taken_given h n pool some most (Some p) e =
    let t : IsTaken h (after_take h n (Some p)) n p
    = subst (λ o. MatchOption o (IsNotTaken h (after_take h n o) n) (λ q. IsTaken h (after_take h n o) n q)) e (take_answers h n pool some most)
    in let k : IsPool (after_take h n (Some p)) = subst (λ o. IsPool (after_take h n o)) e (take_keeps h n pool some most)
    in record {
      pool = subst (λ m. IsPool (after_take h m (Some p))) (sym t.least.length) k;
      reserves = subst (λ m. Reserves h (after_take h m (Some p)) p) (sym t.least.length) t.reserves;
    }
