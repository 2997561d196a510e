-- The return of a prefix: its request begins a session or is refused, and that session ends.
use Rattle.std.proofs.Common.{◌≡◌, ◌≢◌, ◌⊎◌, refl, sym, ap, ◌∙◌, subst, inl, inr, ℕ, None, Some, Contains, List, slice_get}
use Rattle.std.proofs.lemmas.Option.{none-some}
use Rattle.grasp_laws_agent.proofs.Retiring.{unsent_now}
use Rattle.grasp_laws_agent.specs.Moves.{hands, is_unsent, hears, Effect, Settled}
use Rattle.grasp_agent.specs.States.{AgentState, back_session, unsent_of, want_session}
use Rattle.grasp_agent.specs.declared.back.Return.{Return}
use Rattle.grasp_agent.specs.declared.giving.Giving.{Giving}
use Rattle.grasp_model_node.specs.Node.{NodeState}
use Rattle.grasp_pool.specs.Holdings.{IsFree, GivesBack}
use Rattle.grasp_session.specs.Messages.{Side, Near}
use Rattle.grasp_session.specs.Sessions.{SessionState, Sessions, left, session_at}
use Rattle.grasp_session.specs.Transcript.{outcome_of}
use Rattle.grasp_types.specs.Prefix.{AddressBlock as Prefix, span_of}
use Rattle.grasp_types.specs.declared.refusal.ApiRefused.{ApiRefused}
use Rattle.grasp_types.specs.declared.session.Handle.{Handle}
use Rattle.grasp_types.specs.declared.session.Outcome.{Outcome}
use Rattle.grasp_laws_agents.proofs.Dropping.{want_rests}
use Rattle.grasp_laws_agents.proofs.Entries.{some_is}
use Rattle.grasp_laws_agents.proofs.Leaving.{node_left, left_moves}
use Rattle.grasp_laws_agents.proofs.Sides.{kinds_left}
use Rattle.grasp_laws_agents.proofs.Standing.{same_apart, same_entry, same_own, same_streams, sides_apart, asked_apart, Moved, rests, idle_entry, own_was, plain_elsewhere, want_elsewhere, quiet}
use Rattle.grasp_laws_agents.proofs.Starting.{Begins, begun_own, begun_want, begun_streams, begun_left, begun_gives}
use Rattle.grasp_laws_agents.specs.Giving.{HasOffered, IsOpenOffer, IsOwnSession, EntryStands, WantStands, ReturnStands, OffersIn, in_entry, in_return, IsOffersSession, of_entry, of_return, Gives}
use Rattle.grasp_laws_agents.specs.OfferLaws.{FreedBy, WasOffered, was_there, just_requested, was_gone}

-- ---- the request of a return

-- the return of the agent is this one, which wasn't requested
module _ (a : AgentState) (v : Return) (is : a.back ≡ Some v) (none : v.session ≡ None) where
  to_send : unsent_of a.back ≡ Some v.prefix
  to_send = ap unsent_of is ∙ unsent_now v none

  -- so it has no session
  no_session : {A : Type 0} (r : Return) (l : Handle) → a.back ≡ Some r → r.session ≡ Some l → A
  no_session r l at f = absurd (none-some l (sym none ∙ (ap (λ (u : Return). u.session) (some_is v r (sym is ∙ at)) ∙ f)))

  -- the sessions in which the agent gives are those in which it may offer
  entries_only : (b : AgentState) → b.giving ≡ a.giving → (l : Handle) (side : Side) → IsOffersSession a side l → IsOffersSession b side l
  entries_only b giving l side (of_entry far place g at same) = of_entry far place g (ap (λ (u : List Giving). slice_get u place) giving ∙ at) same
  entries_only b giving l side (of_return near r at same) = no_session r l at same

-- the request began a session
module _ (n after : NodeState) (a b : AgentState) (h : Handle) (new : SessionState) (k : Gives n a) (idle : a.act ≡ None) (s : Begins n after h new) (v : Return) (is : a.back ≡ Some v) (none : v.session ≡ None)
    (offer : HasOffered new.view v.prefix) (e : Effect a (hands h) b) where
  abbrev sent : Return
  sent = record v { session = Some h }

  now : b.back ≡ Some sent
  now = e.4.2 ∙ ap (λ (u : Return). Some (record u { session = Some h })) (some_is e.4.0 v (sym e.4.1 ∙ is))

  handed_back : (r : Return) (l : Handle) → b.back ≡ Some r → r.session ≡ Some l → ReturnStands after.sessions l r.prefix
  handed_back r l at f =
      let same : sent ≡ r = some_is sent r (sym now ∙ at) in
      let there : h ≡ l = some_is h l (ap (λ (u : Return). u.session) same ∙ f) in
      subst (ReturnStands after.sessions l) (ap (λ (u : Return). u.prefix) same)
      (subst (λ u. ReturnStands after.sessions u v.prefix) there (record { session = new; own = begun_own n after a b h new k idle s e.1 e.3; offer = offer }))

  handed_offers : (side : Side) (l : Handle) (p : Prefix) → OffersIn b side l p → WasOffered n a b side l p
  handed_offers side l p (in_entry far place g at same given) = was_there (in_entry far place g (same_entry a b e.1 place g at) same given)
  handed_offers side l p (in_return near r at same given) =
      just_requested near (to_send a v is none ∙ ap (λ (u : Prefix). Some u) (ap (λ (u : Return). u.prefix) (some_is sent r (sym now ∙ at)) ∙ given)) (ap back_session at ∙ same)

  pub handed : Moved n after a b
  handed = record {
    gives = begun_gives n after a b h new k idle s e.1 e.3 (begun_want n after a b h new k idle s e.1 e.3 e.2.0) handed_back (λ p pending. of_return refl sent now refl) (entries_only a v is none b e.1);
    moves = quiet n after a b (record {
      streams = begun_streams n after a b h new k idle s e.1 e.3;
      pool = e.0;
      offered = handed_offers;
      unsent = λ p f. absurd (none-some p (sym (ap unsent_of now) ∙ f));
      left = begun_left n after a b h new k idle s e.1 e.3;
    });
  }

-- ---- the return is over

module _ (n : NodeState) (a b : AgentState) (giving : b.giving ≡ a.giving) (over : b.back ≡ None) where
  over_back : {A : Type 0} (r : Return) → b.back ≡ Some r → A
  over_back r at = absurd (none-some r (sym over ∙ at))

  over_offers : (side : Side) (l : Handle) (p : Prefix) → OffersIn b side l p → WasOffered n a b side l p
  over_offers side l p (in_entry far place g at same given) = was_there (in_entry far place g (same_entry a b giving place g at) same given)
  over_offers side l p (in_return near r at same given) = over_back r at

  over_unsent : (p : Prefix) → unsent_of b.back ≡ Some p → unsent_of a.back ≡ Some p
  over_unsent p f = absurd (none-some p (sym (ap unsent_of over) ∙ f))

-- its request was refused, and its prefix is free again
module _ (n : NodeState) (a b : AgentState) (x : ApiRefused) (k : Gives n a) (idle : a.act ≡ None) (v : Return) (is : a.back ≡ Some v) (none : v.session ≡ None) (e : Effect a (is_unsent x) b) where
  free_again : GivesBack a.pool b.pool v.prefix
  free_again = subst (λ (u : Return). GivesBack a.pool b.pool u.prefix) (some_is e.4.0 v (sym e.4.1 ∙ is)) e.4.2

  unsent_freed : (address : ℕ) → IsFree b.pool address → IsFree a.pool address ⊎ FreedBy n n a address
  unsent_freed address f = by_case ((free_again.free address).0 f) where
    by_case : IsFree a.pool address ⊎ span_of v.prefix address → IsFree a.pool address ⊎ FreedBy n n a address
    by_case (inl c) = inl c
    by_case (inr c) = inr (inr (inr (v.prefix, c, to_send a v is none)))

  pub unsent : Moved n n a b
  unsent = record {
    gives = record {
      want = want_rests n a b k e.1.0 (e.2 ∙ idle);
      entries = λ place g f. rests n.sessions b place g (e.2 ∙ idle) (idle_entry n a place g k idle (same_entry a b e.0 place g f));
      back = λ r l at f. over_back n a b e.0 e.3 r at;
      apart = same_apart n a b e.0 k;
      kinds = k.kinds;
      live = λ l side y p own pending. entries_only a v is none b e.0 l side (k.live l side y p own pending);
    };
    moves = record {
      streams = λ l y u at owner there. same_streams n.sessions n.sessions refl l y u at there;
      freed = unsent_freed;
      offered = over_offers n a b e.0 e.3;
      unsent = over_unsent n a b e.0 e.3;
      doubts = λ y p has owner pending. was_gone has;
      keeps_doubts = λ p has. subst (λ l. Contains l p) (sym free_again.doubtful) has;
      reserved = λ p has. inl ((free_again.reserved p).0 has).0;
      doubtful = λ p has. inl (subst (λ l. Contains l p) free_again.doubtful has);
    };
  }

-- its session ended
module _ (n : NodeState) (a b : AgentState) (h : Handle) (x : SessionState) (k : Gives n a) (idle : a.act ≡ None) (v : Return) (is : a.back ≡ Some v) (sent : v.session ≡ Some h)
    (there : session_at n.sessions h ≡ Some x) (o : Outcome) (told : outcome_of x.view ≡ Some o) (e : Effect a (hears h o) b) where
  abbrev z : Sessions
  z = left n.sessions h x

  s : ReturnStands n.sessions h v.prefix
  s = k.back v h is sent

  same_session : s.session ≡ x
  same_session = same_own n.sessions h Near s.session x s.own there

  own : IsOwnSession n.sessions h Near x
  own = subst (IsOwnSession n.sessions h Near) same_session s.own

  offer : HasOffered x.view v.prefix
  offer = subst (λ (u : SessionState). HasOffered u.view v.prefix) same_session s.offer

  settled : Settled o v.prefix a.pool b.pool
  settled = subst (λ (u : Return). Settled o u.prefix a.pool b.pool) (some_is e.4.0 v (sym e.4.1 ∙ is)) e.4.2

  -- what it offers is its prefix
  return_offers : (p : Prefix) → Some v.prefix ≡ Some p → OffersIn a Near h p
  return_offers p f = in_return refl v is sent (some_is v.prefix p f)

  heard_want : (l : Handle) → want_session b.want ≡ Some l → WantStands z b l
  heard_want l f =
      let w = k.want l (ap want_session (sym e.1.0) ∙ f) in
      want_elsewhere n.sessions z h.place None refl a b l w (λ same. asked_apart n a l h w.session v.prefix k (record { own = w.own; asks = w.asks }) s (sym same)) (e.2 ∙ idle)

  heard_entry : (place : ℕ) (g : Giving) → slice_get b.giving place ≡ Some g → EntryStands z b place g
  heard_entry place g f =
      let w = idle_entry n a place g k idle (same_entry a b e.0 place g f) in
      rests z b place g (e.2 ∙ idle) (plain_elsewhere n.sessions z h.place None refl g w (sides_apart n.sessions h g.handle x w.session own w.own))

  heard_live : (l : Handle) (side : Side) (y : SessionState) (p : Prefix) → IsOwnSession z l side y → IsOpenOffer y.view p → IsOffersSession b side l
  heard_live l side y p has pending = by_case (own_was n.sessions z h.place None refl l side y has) where
    by_entry : l.place ≢ h.place → IsOffersSession a side l → IsOffersSession b side l
    by_entry away (of_entry far place g at same) = of_entry far place g (ap (λ (u : List Giving). slice_get u place) e.0 ∙ at) same
    by_entry away (of_return near r at f) =
        absurd (away (ap (λ (u : Handle). u.place) (some_is l h (sym f ∙ (ap (λ (u : Return). u.session) (some_is r v (sym at ∙ is)) ∙ sent)))))

    by_case : ((l.place ≡ h.place) × (None ≡ Some y)) ⊎ ((l.place ≢ h.place) × IsOwnSession n.sessions l side y) → IsOffersSession b side l
    by_case (inl c) = absurd (none-some y c.1)
    by_case (inr c) = by_entry c.0 (k.live l side y p c.1 pending)

  pub heard : Moved n (node_left n h x) a b
  heard = record {
    gives = record {
      want = heard_want;
      entries = heard_entry;
      back = λ r l at f. over_back n a b e.0 e.3 r at;
      apart = same_apart n a b e.0 k;
      kinds = kinds_left n.sessions h x own.at k.kinds;
      live = heard_live;
    };
    moves = left_moves n a b Near h x own (Some v.prefix) offer return_offers o told settled (over_offers n a b e.0 e.3) (over_unsent n a b e.0 e.3);
  }
