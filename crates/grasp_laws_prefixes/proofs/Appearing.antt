-- What is in hand was in hand before.
use Rattle.std.proofs.Common.{◌≡◌, ◌≢◌, sym, subst, ℕ, ◌+◌, inl, inr, ◌⊎◌, length, Contains}
use Rattle.grasp_types.specs.Prefix.{AddressBlock as Prefix, span_of}
use Rattle.grasp_laws_network.proofs.Restarted.{Restarting}
use Rattle.grasp_laws_network.proofs.Settled.{Settling}
use Rattle.grasp_laws_network.specs.Authorities.{Holds, IsAuthority}
use Rattle.grasp_laws_network.specs.Telling.{Tells}
use Rattle.grasp_model_network.specs.Runs.{IsReached, first_world}
use Rattle.grasp_model_network.specs.Setting.{Setting}
use Rattle.grasp_model_network.specs.World.{Offered, WorldState, present_life}
use Rattle.grasp_pool.specs.declared.image.PoolImage.{PoolImage}
use Rattle.grasp_model_network.specs.declared.event.Event.{Event}
use Rattle.grasp_laws_prefixes.proofs.AgentKeeps.{IsFreed, holds_before, WasAuthority, was, is_taken, was_authority}
use Rattle.grasp_laws_prefixes.proofs.AgentSteps.{AgentStep, IsOfferOf}
use Rattle.grasp_laws_prefixes.proofs.Listing.{none_in}
use Rattle.grasp_laws_prefixes.proofs.Networks.{told_happens, is_kept, in_run}
use Rattle.grasp_laws_prefixes.proofs.QuietKeeps.{held_before, authority_before}
use Rattle.grasp_laws_prefixes.proofs.Returned as returned
use Rattle.grasp_laws_prefixes.proofs.Returned.{Takes, told_by}
use Rattle.grasp_laws_prefixes.proofs.RestartKeeps as restart
use Rattle.grasp_laws_prefixes.proofs.Safe.{stand}
use Rattle.grasp_laws_prefixes.proofs.SettleKeeps as settle
use Rattle.grasp_laws_prefixes.proofs.Standing.{offer_unsent, PrefixesStand, WorldGoesOn, NothingHappens}
use Rattle.grasp_laws_prefixes.specs.Grounds.{Grounds}
use Rattle.grasp_laws_prefixes.proofs.FirstHeld.{held_root}
use Rattle.grasp_laws_prefixes.specs.Hands.{IsInHand, NoneIsNew, NothingAppears}
use Rattle.grasp_laws_prefixes.specs.Apart.{offer_on}

-- ---- where no agent did anything

module _ (l : Grounds) (s : Setting) (w y : WorldState) (r : IsReached s w) (said : IsReached s y ⊎ NothingHappens w y) (g : WorldGoesOn w y) (k : PrefixesStand w) where
  quiet_hand : (a : ℕ) → IsInHand y a → IsInHand w a
  quiet_hand a (inl h) = inl (h.0, held_before l s w r y said g k h.0 a h.1)
  quiet_hand a (inr o) = inr (record { offer = o.offer; authority = authority_before l s w r y said g k o.offer o.authority; span = o.span })

-- ---- where an agent is told something

module _ (l : Grounds) (s : Setting) (w y : WorldState) (r : IsReached s w) where
  -- where it reserves a prefix that it is to return, its node held that
  taken_hand : Takes w y → (a : ℕ) → IsInHand y a → IsInHand w a
  taken_hand g a (inl h) = inl (h.0, returned.held_before l s w y r g h.0 a h.1)
  taken_hand g a (inr o) = by_case (returned.authority_before l s w y r g o.offer o.authority) where
    by_case : IsAuthority w o.offer ⊎ (o.offer ≡ offer_unsent g.node g.prefix) → IsInHand w a
    by_case (inl authority) = inr (record { offer = o.offer; authority = authority; span = o.span })
    by_case (inr is) = inl (g.node, returned.was_held l s w y r g a (subst (λ (z : Offered). span_of z.prefix a) is o.span))

  told_hand : (e : Event) → Tells s w e y → (a : ℕ) → IsInHand y a → IsInHand w a
  told_hand e t a = by_case (told_by l s w r e y t) where
    by_case : WorldGoesOn w y ⊎ Takes w y → IsInHand y a → IsInHand w a
    by_case (inl g) = quiet_hand l s w y r (inr (told_happens s w y e t)) g (stand l s w r) a
    by_case (inr g) = taken_hand g a

-- ---- an agent's own step

module _ (l : Grounds) (s : Setting) (w y : WorldState) (r : IsReached s w) (q : IsReached s y) (a : AgentStep w y) (k : PrefixesStand w) where
  held_hand : (n address : ℕ) → Holds w n address ⊎ ((n ≡ a.visit.node) × IsFreed l s w y r q a k address) → IsInHand w address
  held_hand n address (inl h) = inl (n, h)
  held_hand n address (inr f) = inr (record { offer = f.1.offer; authority = f.1.authority; span = f.1.span })

  offered_hand : (o : Offered) (address : ℕ) → span_of o.prefix address → WasAuthority l s w y r q a k o → IsInHand w address
  offered_hand o address span (was b node prefix authority) = inr (record { offer = b; authority = authority; span = subst (λ p. span_of p address) (sym prefix) span })
  offered_hand o address span (is_taken node taken) = by_taken (taken address span) where
    by_taken : Holds w a.visit.node address ⊎ ((p : Prefix) × span_of p address × IsOfferOf w a.visit.node p) → IsInHand w address
    by_taken (inl h) = inl (a.visit.node, h)
    by_taken (inr z) = inr (record { offer = offer_on a.visit.node z.0 z.2.place; authority = z.2.authority; span = z.1 })

  agent_hand : (address : ℕ) → IsInHand y address → IsInHand w address
  agent_hand address (inl h) = held_hand h.0 address (holds_before l s w y r q a k h.0 address h.1)
  agent_hand address (inr o) = offered_hand o.offer address o.span (was_authority l s w y r q a k o.offer o.authority)

-- ---- a settling

module _ (l : Grounds) (s : Setting) (w x : WorldState) (node : ℕ) (p : Prefix) (r : IsReached s w) (t : Settling w node p x) (k : PrefixesStand w) where
  -- what is free then lay in the offer
  settle_hand : (a : ℕ) → IsInHand x a → IsInHand w a
  settle_hand a (inl h) = by_case (settle.held_before l s w x node p r t h.0 a h.1) where
    by_case : Holds w h.0 a ⊎ ((h.0 ≡ present_life w node) × span_of p a) → IsInHand w a
    by_case (inl u) = inl (h.0, u)
    by_case (inr u) = inr (record { offer = t.offer; authority = settle.offer_authority l s w x node p r t k; span = settle.span_there l s w x node p r t k a u.1 })
  settle_hand a (inr o) = inr (record { offer = o.offer; authority = (settle.authority_before l s w x node p r t k o.offer o.authority).0; span = o.span })

-- ---- a restart

module _ (l : Grounds) (s : Setting) (w x : WorldState) (node : ℕ) (image : PoolImage) (r : IsReached s w) (t : Restarting s w node image x) (k : PrefixesStand w) where
  begun_hand : (a : ℕ) → restart.BegunHeld l s w x node image r t k a → IsInHand w a
  begun_hand a (restart.was_held h) = inl (present_life w node, h)
  begun_hand a (restart.was_offered o authority span gone) = inr (record { offer = o; authority = authority; span = span })

  restart_hand : (a : ℕ) → IsInHand x a → IsInHand w a
  restart_hand a (inl h) = by_case (restart.holds_before l s w x node image r t k h.0 a h.1) where
    by_case : (Holds w h.0 a × (h.0 ≢ present_life w node)) ⊎ ((h.0 ≡ length w.seats + 1) × restart.BegunHeld l s w x node image r t k a) → IsInHand w a
    by_case (inl u) = inl (h.0, u.0)
    by_case (inr u) = begun_hand a u.1
  restart_hand a (inr o) = inr (record { offer = o.offer; authority = restart.authority_before l s w x node image r t k o.offer o.authority; span = o.span })

-- ---- all of it

none_offered : (s : Setting) (o : Offered) → Contains (first_world s).offers o → ⊥
unfolding first_world
none_offered s o h = none_in o h

module _ (l : Grounds) (s : Setting) where
  none_new : (w : WorldState) → IsReached s w → NoneIsNew s w
  none_new w r = is_kept l s (NoneIsNew s) (record {
    quiet = λ x y p g said n a h. n a (quiet_hand l s x y p said g (stand l s x p) a h);
    agent = λ x y p q a c n address h. n address (agent_hand l s x y p q a (stand l s x p) address h);
    told = λ x y e p t n a h. n a (told_hand l s x y p e t a h);
    settles = λ x y node p r t n a h. n a (settle_hand l s x y node p r t (stand l s x r) a h);
    restarts = λ x y node image r t n a h. n a (restart_hand l s x y node image r t (stand l s x r) a h);
  }) first w r where
    first : NoneIsNew s (first_world s)
    first a (inl h) = (h.0, held_root s r.good h.0 a h.1)
    first a (inr o) = absurd (none_offered s o.offer o.authority.listed)

pub nothing_appears : Grounds → NothingAppears
nothing_appears l = record {
  reached = none_new l;
  run = λ s hs good run. in_run s (NoneIsNew s) (none_new l s) hs good run;
}
