-- An agent at the end of its life: what dropping its act and its return keep, and holding nothing, is so of it.
use Rattle.std.proofs.Common.{◌≡◌, ◌⊎◌, inl, inr, ◌+◌, ◌≤◌, [], length, Option, Some, None, refl, sym, ap, subst, ◌∙◌, arith}
use Rattle.grasp_types.specs.declared.session.Handle.{Handle}
use Rattle.grasp_pool.specs.Holdings.{Holding}
use Rattle.grasp_pool.specs.Pools.{IsPool}
use Rattle.grasp_pool.proofs.Opening.{tidy_empty}
use Rattle.grasp_pool.proofs.Unique.{none_in}
use Rattle.grasp_agent.specs.Kept.{returned, IsKept}
use Rattle.grasp_agent.specs.Reopening.{without_act, without_return, holding_nothing, retired}
use Rattle.grasp_agent.specs.Replies.{after_dropping, after_unsent}
use Rattle.grasp_agent.specs.States.{AgentState, unsent_of}
use Rattle.grasp_agent.specs.declared.act.Act.{Act}
use Rattle.grasp_agent.specs.declared.act.Act.TheVariants as act
use Rattle.grasp_agent.specs.declared.back.Return.{Return}
use Rattle.grasp_agent.proofs.Keeping.{backed, kept_of, no_act, kept_dropping}
use Rattle.grasp_agent.proofs.Returning.{kept_unsent}

-- ---- without its act

-- with its act an agent drops only the offer of that act
pub dropping_is : (a : AgentState) (c : Act) → after_dropping a c ≡ record a { pool = (after_dropping a c).pool; giving = (after_dropping a c).giving; act = None }
dropping_is a (act.Offer place h p) = refl
dropping_is a _ = refl

module _ (a : AgentState) where
  -- an agent drops its act, where it has one
  without_act_so : (P : AgentState → Type 0) → (a.act ≡ None → P a) → ((c : Act) → a.act ≡ Some c → P (after_dropping a c)) → P (without_act a a.act)
  without_act_so P same dropped = by a.act refl
    where
      by : (o : Option Act) → a.act ≡ o → P (without_act a o)
      by None e = same e
      by (Some c) e = dropped c e

  act_gone : (without_act a a.act).act ≡ None
  act_gone = without_act_so (λ x. x.act ≡ None) (λ e. e) (λ c e. ap (λ (x : AgentState). x.act) (dropping_is a c))

  return_stays : (without_act a a.act).back ≡ a.back
  return_stays = without_act_so (λ x. x.back ≡ a.back) (λ e. refl) (λ c e. ap (λ (x : AgentState). x.back) (dropping_is a c))

-- ---- without its return

-- a return that wasn't requested is to be offered
pub unsent_cases : (o : Option Return) → (unsent_of o ≡ None) ⊎ ((r : Return) × (o ≡ Some r) × (r.session ≡ None) × (unsent_of o ≡ Some r.prefix))
unsent_cases None = inl refl
unsent_cases (Some r) = by r.session refl
  where
    by : (o : Option Handle) → r.session ≡ o → (unsent_of (Some r) ≡ None) ⊎ ((x : Return) × (Some r ≡ Some x) × (x.session ≡ None) × (unsent_of (Some r) ≡ Some x.prefix))
    by None e = inr (r, refl, e, rw e refl)
    by (Some h) e = inl (rw e refl)

module _ (b : AgentState) where
  -- an agent drops its return, where it has one that it hasn't requested
  pub without_return_so : (P : AgentState → Type 0) → (unsent_of b.back ≡ None → P b)
      → ((r : Return) → b.back ≡ Some r → r.session ≡ None → P (after_unsent b (Some r))) → P (without_return b (unsent_of b.back))
  without_return_so P same dropped = elim (unsent_cases b.back) [
    | inl e ↦ subst (λ o. P (without_return b o)) (sym e) (same e)
    | inr k ↦ subst (λ o. P (without_return b o)) (sym k.3) (subst (λ o. P (after_unsent b o)) (sym k.1) (dropped k.0 k.1 k.2))
  ]

  return_gone : unsent_of (without_return b (unsent_of b.back)).back ≡ None
  return_gone = without_return_so (λ x. unsent_of x.back ≡ None) (λ e. e) (λ r is e. refl)

  still_gone : b.act ≡ None → (without_return b (unsent_of b.back)).act ≡ None
  still_gone none = without_return_so (λ x. x.act ≡ None) (λ e. none) (λ r is e. none)

-- ---- holding nothing

-- the pool with nothing that is free
pool_empty : (h : Holding) → IsPool h → IsPool (record h { free = [] })
pool_empty h k =
    let few : (length h.free + length h.reserved) + length h.doubtful ≤ 4096 = k.few
    in record {
      free = tidy_empty;
      reserved = k.reserved;
      doubtful = k.doubtful;
      valid = k.valid;
      held = λ q x listed inside free. none_in free.0 free.1;
      apart = k.apart;
      once = k.once;
      few = omega arith;
    }

pub kept_empty : (a : AgentState) → a.act ≡ None → IsKept a → IsKept (holding_nothing a)
kept_empty a none k =
    let t : AgentState = holding_nothing a
    in kept_of t (record { pool = pool_empty a.pool k.pool; are = (backed a k).are }) k.few k.first k.want k.idle (no_act t none)

-- ---- the end of its life

-- the agent without its act, and then without its return
abbrev ended : AgentState → AgentState
ended a = without_return (without_act a a.act) (unsent_of (without_act a a.act).back)

retired_is : (a : AgentState) → retired a ≡ holding_nothing (ended a)
retired_is a = ap (λ o. holding_nothing (without_return (without_act a a.act) o)) (ap unsent_of (sym (return_stays a)))

-- what is kept where its act is dropped, where its return is, and where it then holds nothing
pub retires : (P : AgentState → Type 0) → ((b : AgentState) (c : Act) → b.act ≡ Some c → P b → P (after_dropping b c))
    → ((b : AgentState) (r : Return) → b.act ≡ None → b.back ≡ Some r → r.session ≡ None → P b → P (after_unsent b (Some r)))
    → ((b : AgentState) → b.act ≡ None → unsent_of b.back ≡ None → P b → P (holding_nothing b)) → (a : AgentState) → P a → P (retired a)
retires P drops returns empties a p =
    let b : AgentState = without_act a a.act
    in let none : b.act ≡ None = act_gone a
    in let first : P b = without_act_so a P (λ e. p) (λ c e. drops a c e p)
    in let second : P (ended a) = without_return_so b P (λ e. first) (λ r is e. returns b r none is e first)
    in subst P (sym (retired_is a)) (empties (ended a) (still_gone b none) (return_gone b) second)

pub retired_act : (a : AgentState) → (retired a).act ≡ None
retired_act a = ap (λ (x : AgentState). x.act) (retired_is a) ∙ still_gone (without_act a a.act) (act_gone a)

pub retired_unsent : (a : AgentState) → unsent_of (retired a).back ≡ None
retired_unsent a = ap (λ (x : AgentState). unsent_of x.back) (retired_is a) ∙ return_gone (without_act a a.act)

pub retired_kept : (a : AgentState) → IsKept a → IsKept (retired a)
retired_kept = retires IsKept kept_dropping (λ b r none is e k. kept_unsent b r.prefix (ap returned is) k none) (λ b none sent k. kept_empty b none k)

pub retired_doubtful : (a : AgentState) → (retired a).pool.doubtful ≡ a.pool.doubtful
retired_doubtful a = retires (λ x. x.pool.doubtful ≡ a.pool.doubtful) drops (λ b r none is e same. same) (λ b none sent same. same) a refl
  where
    drops : (b : AgentState) (c : Act) → b.act ≡ Some c → b.pool.doubtful ≡ a.pool.doubtful → (after_dropping b c).pool.doubtful ≡ a.pool.doubtful
    drops b (act.Offer place h p) is same = same
    drops b _ is same = same

-- the other agent has its number, its stage, its want, its cursor and how its last want ended
abbrev Same : AgentState → AgentState → Type 0
Same a x = x ≡ record a { pool = x.pool; back = x.back; giving = x.giving; act = x.act }

-- all but its pool, its return, its giving sessions and its act stays
pub retired_same : (a : AgentState) → retired a ≡ record a { pool = (retired a).pool; back = (retired a).back; giving = (retired a).giving; act = None }
retired_same a = all ∙ ap (λ o. record a { pool = (retired a).pool; back = (retired a).back; giving = (retired a).giving; act = o }) (retired_act a)
  where
    drops : (b : AgentState) (c : Act) → b.act ≡ Some c → Same a b → Same a (after_dropping b c)
    drops b c is same =
        let t : AgentState = after_dropping b c
        in dropping_is b c ∙ ap (λ (x : AgentState). record x { pool = t.pool; giving = t.giving; act = None }) same
        ∙ λ i. record a { pool = t.pool; back = sym (ap (λ (x : AgentState). x.back) (dropping_is b c)) i; giving = t.giving; act = sym (ap (λ (x : AgentState). x.act) (dropping_is b c)) i }

    all : Same a (retired a)
    all = retires (Same a) drops (λ b r none is e same. ap (λ (x : AgentState). after_unsent x (Some r)) same) (λ b none sent same. ap holding_nothing same) a refl
