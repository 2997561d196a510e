-- A pool as it is gives an image by which its agent may be opened anew, and so does the pool at the end of its life.
use Rattle.std.proofs.Common.{◌≡◌, ◌⊎◌, inl, inr, ℕ, ◌+◌, ◌≤◌, ◌++◌, length, Contains, Option, Some, None, refl, sym, ap, subst, ◌∙◌, arith}
use Rattle.std.proofs.lemmas.List.{length-append}
use Rattle.std.proofs.lemmas.List.Elements.{Contains-append_left, Contains-append_right, Contains-append_cases}
use Rattle.grasp_types.specs.Prefix.{AddressBlock as Prefix}
use Rattle.grasp_pool.specs.Functions.{after_back}
use Rattle.grasp_pool.specs.Holdings.{Holding, IsFree, IsListed, GivesBack}
use Rattle.grasp_pool.specs.Listings.{AreDisjoint}
use Rattle.grasp_pool.specs.Pools.{IsPool}
use Rattle.grasp_pool.specs.Spans.{Apart}
use Rattle.grasp_pool.proofs.Disjoint.{rising_disjoint, both_disjoint}
use Rattle.grasp_pool.proofs.Meanings.{back_means}
use Rattle.grasp_agent.specs.Kept.{returned, IsKept}
use Rattle.grasp_agent.specs.Laws.{by_act, by_return}
use Rattle.grasp_agent.specs.Reopening.{without_act, without_return, retired, IsToOffer}
use Rattle.grasp_agent.specs.Replies.{after_unsent}
use Rattle.grasp_agent.specs.States.{AgentState, unsent_of}
use Rattle.grasp_agent.specs.declared.act.Act.{Act}
use Rattle.grasp_agent.specs.declared.act.Act.TheVariants as act
use Rattle.grasp_agent.specs.declared.back.Return.{Return}
use Rattle.grasp_agent.proofs.Keeping.{kept_dropping}
use Rattle.grasp_agent.proofs.Retiring.{unsent_cases, retired_doubtful}
use Rattle.grasp_agent.proofs.Returning.{kept_unsent, return_reserved}
use Rattle.grasp_laws_agent.specs.Reopening.{KeptAgentsMayReopen, MayReopenRetired}
use Rattle.grasp_laws_agent.proofs.LawMoves.{drops_so}
use Rattle.grasp_laws_agent.proofs.Retiring.{agents_retire}

-- ---- the entries of a pool

module _ (h : Holding) (pool : IsPool h) where
  listed_so : (p : Prefix) → Contains (h.reserved ++ h.doubtful) p → IsListed h p
  listed_so p has = Contains-append_cases h.reserved h.doubtful p has

  so_listed : (p : Prefix) → IsListed h p → Contains (h.reserved ++ h.doubtful) p
  so_listed p l = elim l [ inl has ↦ Contains-append_left h.reserved h.doubtful p has | inr has ↦ Contains-append_right h.reserved h.doubtful p has ]

  free_disjoint : AreDisjoint h.free
  free_disjoint = rising_disjoint h.free pool.free.rising pool.free.clean.valid (λ p q ne has other. pool.free.clean.apart p q has other ne)

  reserved_disjoint : AreDisjoint h.reserved
  reserved_disjoint = rising_disjoint h.reserved pool.reserved (λ p has. pool.valid p (inl has)) (λ p q ne has other. pool.apart p q ne (inl has) (inl other))

  doubtful_disjoint : AreDisjoint h.doubtful
  doubtful_disjoint = rising_disjoint h.doubtful pool.doubtful (λ p has. pool.valid p (inr has)) (λ p q ne has other. pool.apart p q ne (inr has) (inr other))

  -- no prefix is both reserved and in doubt
  listed_apart : (p q : Prefix) → Contains h.reserved p → Contains h.doubtful q → Apart p q
  listed_apart p q has other = pool.apart p q (λ same. pool.once q (subst (Contains h.reserved) same has) other) (inl has) (inr other)

  -- what a pool has is disjoint
  pool_disjoint : AreDisjoint (h.free ++ (h.reserved ++ h.doubtful))
  pool_disjoint =
      both_disjoint h.free (h.reserved ++ h.doubtful) free_disjoint (both_disjoint h.reserved h.doubtful reserved_disjoint doubtful_disjoint listed_apart)
      (λ p q has other x inside too. pool.held q x (listed_so q other) too (p, has, inside))

  pool_few : length h.free + length (h.reserved ++ h.doubtful) ≤ 4096
  pool_few =
      let few : (length h.free + length h.reserved) + length h.doubtful ≤ 4096 = pool.few
      in let many : length (h.reserved ++ h.doubtful) ≡ length h.reserved + length h.doubtful = length-append h.reserved h.doubtful
      in omega (arith, many)

-- ---- the pool as it is

-- what is listed at the end of its life is listed
was_listed : (a : AgentState) → IsKept a → (p : Prefix) → IsListed (retired a).pool p → IsListed a.pool p
was_listed a k p l = elim l [
  | inl has ↦ inl (((agents_retire a).reserved k p).0 has).0
  | inr has ↦ inr (subst (λ ps. Contains ps p) (retired_doubtful a) has)
]

pub kept_agents_may_reopen : KeptAgentsMayReopen
kept_agents_may_reopen a k = record {
  few = pool_few a.pool k.pool;
  disjoint = pool_disjoint a.pool k.pool;
  free = λ x is. inl is;
  doubtful = λ p l. so_listed a.pool k.pool p (was_listed a k p l);
}

-- ---- the pool at the end of its life

-- what is free there was free, or was to be offered
abbrev WasHeld : AgentState → AgentState → Type 0
WasHeld a b = (x : ℕ) → IsFree b.pool x → IsFree a.pool x ⊎ IsToOffer a x

-- an agent without its act
record IsWithoutAct (a b : AgentState) : Type 0 where
  kept : IsKept b
  back : b.back ≡ a.back
  act : b.act ≡ None
  held : WasHeld a b

act_dropped : (a : AgentState) (o : Option Act) → a.act ≡ o → IsKept a → IsWithoutAct a (without_act a o)
act_dropped a None is k = record { kept = k; back = refl; act = is; held = λ x free. inl free }
act_dropped a (Some (act.Offer place h p)) is k =
    let back : GivesBack a.pool (after_back a.pool p) p = (drops_so a (act.Offer place h p) is k).3.0
    in record {
      kept = kept_dropping a (act.Offer place h p) is k;
      back = refl;
      act = refl;
      held = λ x free. elim ((back.free x).0 free) [ inl was ↦ inl was | inr inside ↦ inr (p, by_act place h is, inside) ];
    }
act_dropped a (Some (act.Counter h n)) is k = record { kept = kept_dropping a (act.Counter h n) is k; back = refl; act = refl; held = λ x free. inl free }
act_dropped a (Some (act.Accept h p)) is k = record { kept = kept_dropping a (act.Accept h p) is k; back = refl; act = refl; held = λ x free. inl free }
act_dropped a (Some (act.Decline h reason)) is k = record { kept = kept_dropping a (act.Decline h reason) is k; back = refl; act = refl; held = λ x free. inl free }

-- and without its return, where that wasn't requested
record IsWithoutBoth (a b : AgentState) : Type 0 where
  kept : IsKept b
  held : WasHeld a b

return_dropped : (a b : AgentState) → IsWithoutAct a b → IsWithoutBoth a (without_return b (unsent_of a.back))
return_dropped a b w = elim (unsent_cases a.back) [
  | inl none ↦ subst (λ o. IsWithoutBoth a (without_return b o)) (sym none) (record { kept = w.kept; held = w.held })
  | inr f ↦ subst (λ o. IsWithoutBoth a (without_return b o)) (sym f.3) (subst (λ o. IsWithoutBoth a (after_unsent b o)) (sym (w.back ∙ f.1)) (returned_so f.0 f.1 f.2))
]
  where
    returned_so : (r : Return) → a.back ≡ Some r → r.session ≡ None → IsWithoutBoth a (after_unsent b (Some r))
    returned_so r is none =
        let there : b.back ≡ Some r = w.back ∙ is
        in let back : GivesBack b.pool (after_back b.pool r.prefix) r.prefix = back_means b.pool r.prefix w.kept.pool (return_reserved b r there w.kept)
        in record {
          kept = kept_unsent b r.prefix (ap returned there) w.kept w.act;
          held = λ x free. elim ((back.free x).0 free) [ inl was ↦ w.held x was | inr inside ↦ inr (r.prefix, by_return r is none refl, inside) ];
        }

pub may_reopen_retired : MayReopenRetired
may_reopen_retired a k =
    let end : IsWithoutBoth a (without_return (without_act a a.act) (unsent_of a.back)) = return_dropped a (without_act a a.act) (act_dropped a a.act refl k)
    in let h : Holding = (without_return (without_act a a.act) (unsent_of a.back)).pool
    in record { few = pool_few h end.kept.pool; disjoint = pool_disjoint h end.kept.pool; free = end.held; doubtful = so_listed h end.kept.pool }
