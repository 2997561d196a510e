-- What an agent whose life ends has offered, or has in doubt.
use Rattle.std.proofs.Common.{◌≡◌, ◌⊎◌, inl, inr, refl, sym, ap, ◌∙◌, subst, Bool, true, false, not, Option, Some, None, Contains, List}
use Rattle.std.proofs.lemmas.Bool.{true≢false, false_from_ne_true}
use Rattle.std.proofs.lemmas.Option.{none-some, same_Some}
use Rattle.grasp_agent.specs.Kept.{IsKept}
use Rattle.grasp_agent.specs.Laws.{IsToBeOffered, by_act, by_return}
use Rattle.grasp_agent.specs.Reopening.{retired}
use Rattle.grasp_agent.specs.States.{AgentState, offered_by, unsent_of}
use Rattle.grasp_agent.specs.declared.act.Act.{Act}
use Rattle.grasp_agent.specs.declared.act.Act.TheVariants as act
use Rattle.grasp_agent.specs.declared.back.Return.{Return}
use Rattle.grasp_laws_agent.proofs.Retiring.{agents_retire}
use Rattle.grasp_laws_network.proofs.Offers.{same_prefix, prefix_itself, listed_so, so_listed}
use Rattle.grasp_model_network.specs.Offers.{is_listed}
use Rattle.grasp_pool.specs.Holdings.{IsListed}
use Rattle.grasp_types.specs.Prefix.{AddressBlock as Prefix}
use Rattle.grasp_types.specs.declared.session.Handle.{Handle}
use Rattle.grasp_simulator.specs.Restarts.{is_it}

-- ---- what is to be offered

it_is : (o : Option Prefix) (p : Prefix) → is_it o p ≡ true → o ≡ Some p
it_is None p e = absurd (true≢false (sym e))
it_is (Some q) p e = ap (λ x. Some x) (sym (same_prefix p q e))

is_this : (o : Option Prefix) (p : Prefix) → o ≡ Some p → is_it o p ≡ true
is_this None p e = absurd (none-some p e)
is_this (Some q) p e = prefix_itself p q (sym (same_Some q p e))

pub act_offers : (a : AgentState) (o : Option Act) (p : Prefix) → a.act ≡ o → offered_by o ≡ Some p → IsToBeOffered a p
act_offers a None p e f = absurd (none-some p f)
act_offers a (Some (act.Offer place h q)) p e f = by_act place h (e ∙ ap (λ x. Some (act.Offer place h x)) (same_Some q p f))
act_offers a (Some (act.Counter h n)) p e f = absurd (none-some p f)
act_offers a (Some (act.Accept h q)) p e f = absurd (none-some p f)
act_offers a (Some (act.Decline h reason)) p e f = absurd (none-some p f)

pub back_offers : (a : AgentState) (o : Option Return) (p : Prefix) → a.back ≡ o → unsent_of o ≡ Some p → IsToBeOffered a p
back_offers a None p e f = absurd (none-some p f)
back_offers a (Some r) p e f = by_session r.session refl f where
  by_session : (o : Option Handle) → r.session ≡ o → unsent_of (Some (record r { session = o })) ≡ Some p → IsToBeOffered a p
  by_session None none g = by_return r e none (same_Some r.prefix p g)
  by_session (Some h) some g = absurd (none-some p g)

pub to_offer : (a : AgentState) (p : Prefix) → IsToBeOffered a p → (offered_by a.act ≡ Some p) ⊎ (unsent_of a.back ≡ Some p)
to_offer a p (by_act place h is) = inl (ap offered_by is)
to_offer a p (by_return r is none same) = inr (ap unsent_of is ∙ (ap (λ (o : Option Handle). unsent_of (Some (record r { session = o }))) none ∙ ap (λ x. Some x) same))

-- ---- what is left

pub left_doubtful : (a : AgentState) (p : Prefix) → Contains a.pool.doubtful p → true ≡ is_listed (retired a).pool p
left_doubtful a p d = sym (so_listed (retired a).pool p (inr (subst (λ (ps : List Prefix). Contains ps p) (sym (agents_retire a).doubtful) d)))

not_left : (a : AgentState) (p : Prefix) → IsKept a → (Contains a.pool.doubtful p → ⊥) → (Contains a.pool.reserved p → (IsToBeOffered a p → ⊥) → ⊥) → false ≡ is_listed (retired a).pool p
not_left a p kept no_doubt not = sym (false_from_ne_true (is_listed (retired a).pool p) (λ is. by_list (listed_so (retired a).pool p is))) where
  by_list : IsListed (retired a).pool p → ⊥
  by_list (inl r) = let was = ((agents_retire a).reserved kept p).0 r in not was.0 was.1
  by_list (inr d) = no_doubt (subst (λ (ps : List Prefix). Contains ps p) (agents_retire a).doubtful d)

pub left_unreserved : (a : AgentState) (p : Prefix) → IsKept a → (Contains a.pool.doubtful p → ⊥) → (Contains a.pool.reserved p → ⊥) → false ≡ is_listed (retired a).pool p
left_unreserved a p kept no_doubt none = not_left a p kept no_doubt (λ r n. none r)

pub left_act : (a : AgentState) (p : Prefix) → IsKept a → (Contains a.pool.doubtful p → ⊥) → is_it (offered_by a.act) p ≡ true → false ≡ is_listed (retired a).pool p
left_act a p kept no_doubt is = not_left a p kept no_doubt (λ r n. n (act_offers a a.act p refl (it_is (offered_by a.act) p is)))

pub left_reserved : (a : AgentState) (p : Prefix) (b : Bool) → IsKept a → (Contains a.pool.doubtful p → ⊥) → Contains a.pool.reserved p → is_it (offered_by a.act) p ≡ false → is_it (unsent_of a.back) p ≡ b → not b ≡ is_listed (retired a).pool p
left_reserved a p true kept no_doubt r no_act is = not_left a p kept no_doubt (λ x n. n (back_offers a a.back p refl (it_is (unsent_of a.back) p is)))
left_reserved a p false kept no_doubt r no_act is = sym (so_listed (retired a).pool p (inl (((agents_retire a).reserved kept p).1 (r, not_offered)))) where
  not_offered : IsToBeOffered a p → ⊥
  not_offered o = by_case (to_offer a p o) where
    by_case : (offered_by a.act ≡ Some p) ⊎ (unsent_of a.back ≡ Some p) → ⊥
    by_case (inl e) = true≢false (sym (is_this (offered_by a.act) p e) ∙ no_act)
    by_case (inr e) = true≢false (sym (is_this (unsent_of a.back) p e) ∙ is)
