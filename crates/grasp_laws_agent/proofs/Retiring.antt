-- What an agent is at the end of its life, by the refusals that drop its act and its return.
use Rattle.std.proofs.Common.{◌≡◌, ◌↔◌, ◌⊎◌, inl, inr, false, Contains, Option, Some, None, refl, sym, ap, subst, ◌∙◌}
use Rattle.std.proofs.lemmas.Option.{none-some}
use Rattle.grasp_types.specs.Prefix.{AddressBlock as Prefix}
use Rattle.grasp_types.specs.declared.refusal.ApiRefused.{ApiRefused}
use Rattle.grasp_types.specs.declared.refusal.ApiRefused.TheVariants.{NoSession}
use Rattle.grasp_pool.specs.Holdings.{GivesBack}
use Rattle.grasp_agent.specs.Kept.{returned, ActStands, IsKept}
use Rattle.grasp_agent.specs.Laws.{IsToBeOffered, by_act, by_return}
use Rattle.grasp_agent.specs.Reopening.{without_act, without_return, holding_nothing, retired}
use Rattle.grasp_agent.specs.Replies.{after_dropping, after_unsent}
use Rattle.grasp_agent.specs.States.{AgentState, offer_of, offered_by, unsent_of}
use Rattle.grasp_agent.specs.declared.act.Act.{Act}
use Rattle.grasp_agent.specs.declared.act.Act.TheVariants as act
use Rattle.grasp_agent.specs.declared.back.Return.{Return}
use Rattle.grasp_agent.proofs.Keeping.{act_stands, without_is, kept_dropping}
use Rattle.grasp_agent.proofs.Retiring as agent
use Rattle.grasp_agent.proofs.Returning.{kept_unsent, kept_settling}
use Rattle.grasp_laws_agent.specs.Moves.{is_unsent, is_dropped, Effect}
use Rattle.grasp_laws_agent.specs.Retiring.{GivingStays, AgentsRetire, SettlingKeeps}
use Rattle.grasp_laws_agent.proofs.LawMoves.{drops_so}
use Rattle.grasp_laws_agent.proofs.Returning.{unsent_so}

-- what the refusals of its act and of the request of its return keep, and holding nothing then, is so at the end of an agent's life
pub retires_so : (P : AgentState → Type 0)
    → ((b t : AgentState) (c : Act) → IsKept b → b.act ≡ Some c → Effect b (is_dropped c) t → P b → P t)
    → ((b t : AgentState) (r : Return) → IsKept b → b.act ≡ None → b.back ≡ Some r → r.session ≡ None → ((x : ApiRefused) → Effect b (is_unsent x) t) → P b → P t)
    → ((b : AgentState) → b.act ≡ None → P b → P (holding_nothing b)) → (a : AgentState) → IsKept a → P a → P (retired a)
retires_so P drops returns empties a k p =
    (agent.retires (λ x. IsKept x × P x)
    (λ b c is q. (kept_dropping b c is q.0, drops b (after_dropping b c) c q.0 is (drops_so b c is q.0) q.1))
    (λ b r none is e q. (
      kept_unsent b r.prefix (ap returned is) q.0 none,
      returns b (after_unsent b (Some r)) r q.0 none is e (λ x. unsent_so b (Some r) x is (rw e refl) q.0) q.1,
    ))
    (λ b none sent q. (agent.kept_empty b none q.0, empties b none q.1)) a (k, p)).1

-- ---- what is to be offered

-- the prefix is that of a return that wasn't requested
abbrev IsToBeReturned : AgentState → Prefix → Type 0
IsToBeReturned s p = (r : Return) × (s.back ≡ Some r) × (r.session ≡ None) × (r.prefix ≡ p)

offered_how : (s : AgentState) (o : Option Act) → s.act ≡ o → (p : Prefix) → IsToBeOffered s p → (offered_by o ≡ Some p) ⊎ IsToBeReturned s p
offered_how s o e p (by_act place h is) = inl (ap offered_by (sym e ∙ is))
offered_how s o e p (by_return r is none same) = inr (r, is, none, same)

-- an agent without an act has only its return to offer
only_returned : (s : AgentState) → s.act ≡ None → (p : Prefix) → IsToBeOffered s p → IsToBeReturned s p
only_returned s none p o = elim (offered_how s None none p o) [ inl e ↦ absurd (none-some p e) | inr r ↦ r ]

act_offers : (s : AgentState) (c : Act) → s.act ≡ Some c → (p : Prefix) → offer_of c ≡ Some p → IsToBeOffered s p
act_offers s (act.Offer place h q) is p e = let same : q ≡ p = cc in by_act place h (is ∙ ap (λ x. Some (act.Offer place h x)) same)
act_offers s _ is p e = absurd (cc)

return_offers : (s t : AgentState) → s.back ≡ t.back → (p : Prefix) → IsToBeReturned s p → IsToBeOffered t p
return_offers s t same p r = by_return r.0 (sym same ∙ r.1) r.2 r.3

pub unsent_now : (r : Return) → r.session ≡ None → unsent_of (Some r) ≡ Some r.prefix
unsent_now r none = rw none refl

-- at the end of its life it has nothing to offer
nothing_to_offer : (a : AgentState) (p : Prefix) → ¬ IsToBeOffered (retired a) p
nothing_to_offer a p o =
    let r : IsToBeReturned (retired a) p = only_returned (retired a) (agent.retired_act a) p o
    in none-some r.0.prefix (sym (agent.retired_unsent a) ∙ (ap unsent_of r.1 ∙ unsent_now r.0 r.2))

-- ---- what is reserved

-- reserved, and not to be offered
abbrev IsOffered : AgentState → Prefix → Type 0
IsOffered s p = Contains s.pool.reserved p × (¬ IsToBeOffered s p)

dropped_reserved : (b t : AgentState) (c : Act) → Effect b (is_dropped c) t → (p : Prefix)
    → Contains t.pool.reserved p ↔ (Contains b.pool.reserved p × (¬ (offer_of c ≡ Some p)))
dropped_reserved b t (act.Offer place h q) e p =
    let back : GivesBack b.pool t.pool q = e.3.0
    in (
      λ has. (((back.reserved p).0 has).0, λ i. let same : p ≡ q = cc in ((back.reserved p).0 has).1 same),
      λ s. (back.reserved p).1 (s.0, λ i. s.1 (ap Some (sym i))),
    )
dropped_reserved b t _ e p = (
  λ has. (subst (λ h. Contains h.reserved p) e.3.0 has, λ i. absurd (cc)),
  λ s. subst (λ h. Contains h.reserved p) (sym e.3.0) s.0,
)

module _ (b t : AgentState) (c : Act) (is : b.act ≡ Some c) (e : Effect b (is_dropped c) t) (p : Prefix) where
  dropped_offered : IsOffered t p ↔ IsOffered b p
  dropped_offered = (
    λ s. let was = (dropped_reserved b t c e p).0 s.0 in
        (was.0, λ o. elim (offered_how b (Some c) is p o) [ inl f ↦ was.1 f | inr r ↦ s.1 (return_offers b t (sym e.1) p r) ]),
    λ s. ((dropped_reserved b t c e p).1 (s.0, λ f. s.1 (act_offers b c is p f)), λ o. s.1 (return_offers t b e.1 p (only_returned t e.2 p o))),
  )

module _ (b t : AgentState) (r : Return) (x : ApiRefused) (none : b.act ≡ None) (is : b.back ≡ Some r) (unsent : r.session ≡ None) (e : Effect b (is_unsent x) t) (p : Prefix) where
  the_return : (y : Return) → b.back ≡ Some y → y ≡ r
  the_return y at = cc

  gives_back : GivesBack b.pool t.pool r.prefix
  gives_back = subst (λ (y : Return). GivesBack b.pool t.pool y.prefix) (the_return e.4.0 e.4.1) e.4.2

  returned_offered : IsOffered t p ↔ IsOffered b p
  returned_offered = (
    λ s. let was = (gives_back.reserved p).0 s.0 in
        (was.0, λ o. let y : IsToBeReturned b p = only_returned b none p o in was.1 (sym y.3 ∙ ap (λ (z : Return). z.prefix) (the_return y.0 y.1))),
    λ s. (
      (gives_back.reserved p).1 (s.0, λ i. s.1 (by_return r is unsent (sym i))),
      λ o. let y : IsToBeReturned t p = only_returned t (e.2 ∙ none) p o in none-some y.0 (sym e.3 ∙ y.1),
    ),
  )

empty_offered : (b : AgentState) → b.act ≡ None → (p : Prefix) → IsOffered (holding_nothing b) p ↔ IsOffered b p
empty_offered b none p = (
  λ s. (s.0, λ o. s.1 (return_offers b (holding_nothing b) refl p (only_returned b none p o))),
  λ s. (s.0, λ o. s.1 (return_offers (holding_nothing b) b refl p (only_returned (holding_nothing b) none p o))),
)

reserved_was : (a : AgentState) → IsKept a → (p : Prefix) → IsOffered (retired a) p ↔ IsOffered a p
reserved_was a k p =
    retires_so (λ x. IsOffered x p ↔ IsOffered a p)
    (λ b t c kept is e same. both (dropped_offered b t c is e p) same)
    (λ b t r kept none is unsent e same. both (returned_offered b t r NoSession none is unsent (e NoSession) p) same)
    (λ b none same. both (empty_offered b none p) same) a k (λ s. s, λ s. s)
  where
    both : {A B C : Type 0} → A ↔ B → B ↔ C → A ↔ C
    both f g = (λ x. g.0 (f.0 x), λ x. f.1 (g.1 x))

-- ---- the giving sessions

unsent_giving : (b : AgentState) (o : Option Return) → (after_unsent b o).giving ≡ b.giving
unsent_giving b None = refl
unsent_giving b (Some r) = refl

return_giving : (b : AgentState) (o : Option Prefix) → (without_return b o).giving ≡ b.giving
return_giving b None = refl
return_giving b (Some p) = unsent_giving b b.back

act_giving : (a : AgentState) (o : Option Act) → a.act ≡ o → IsKept a → GivingStays o a.giving (without_act a o).giving
act_giving a None is k = refl
act_giving a (Some (act.Offer place h p)) is k =
    let stands : ActStands a (act.Offer place h p) = act_stands a (act.Offer place h p) is k
    in without_is a.giving place (record { handle = h; offer = Some p; first = false }) stands
act_giving a (Some _) is k = refl

-- ---- the return

-- the return of the one is that of the other, where it was requested
record ReturnStays (a b : AgentState) : Type 0 where
  was : (r : Return) → b.back ≡ Some r → a.back ≡ Some r
  stays : (r : Return) → a.back ≡ Some r → ¬ (r.session ≡ None) → b.back ≡ Some r

same_return : (a b t : AgentState) → t.back ≡ b.back → ReturnStays a b → ReturnStays a t
same_return a b t same k = record { was = λ r at. k.was r (sym same ∙ at); stays = λ r at sent. same ∙ k.stays r at sent }

return_stays : (a : AgentState) → ReturnStays a (retired a)
return_stays a =
    agent.retires (ReturnStays a)
    (λ b c is k. same_return a b (after_dropping b c) (ap (λ (x : AgentState). x.back) (agent.dropping_is b c)) k)
    (λ b r none is unsent k. record {
      was = λ y at. absurd (none-some y at);
      stays = λ y at sent. absurd (sent (let there : b.back ≡ Some y = k.stays y at sent in let same : y ≡ r = cc in ap (λ (z : Return). z.session) same ∙ unsent));
    })
    (λ b none sent k. same_return a b (holding_nothing b) refl k) a (record { was = λ r at. at; stays = λ r at sent. at })

-- ---- all of it

pub agents_retire : AgentsRetire
agents_retire a = record {
  kept = agent.retired_kept a;
  free = refl;
  doubtful = agent.retired_doubtful a;
  reserved = λ k p. (λ has. (reserved_was a k p).0 (has, nothing_to_offer a p), λ s. ((reserved_was a k p).1 s).0);
  giving = λ k. subst (GivingStays a.act a.giving) (sym (return_giving (without_act a a.act) (unsent_of a.back))) (act_giving a a.act refl k);
  returns = λ r. (
    λ at. ((return_stays a).was r at, λ none. none-some r.prefix (sym (agent.retired_unsent a) ∙ (ap unsent_of at ∙ unsent_now r none))),
    λ s. (return_stays a).stays r s.0 s.1,
  );
  back = agent.retired_unsent a;
  act = agent.retired_act a;
  same = agent.retired_same a;
}

pub settling_keeps : SettlingKeeps
settling_keeps a p k has = kept_settling a p has k
