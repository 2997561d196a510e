-- A call that is refused: the act that isn't done, and the request of a want.
use Rattle.std.proofs.Common.{◌≡◌, ◌≢◌, ◌⊎◌, refl, sym, ap, ◌∙◌, subst, inl, inr, ℕ, false, Option, None, Some, Contains, slice_get, slice_set}
use Rattle.std.proofs.lemmas.Bool.{eq-eqb, ne_eqb}
use Rattle.grasp_agent.specs.Kept.{ActStands}
use Rattle.grasp_laws_agent.specs.Moves.{is_refused, is_dropped, Effect}
use Rattle.grasp_agent.specs.States.{AgentState, want_session}
use Rattle.grasp_agent.specs.declared.act.Act.{Act}
use Rattle.grasp_agent.specs.declared.act.Act.TheVariants as act
use Rattle.grasp_agent.specs.declared.giving.Giving.{Giving}
use Rattle.grasp_agent.specs.declared.want.Want.{Want}
use Rattle.grasp_model_node.specs.Node.{NodeState}
use Rattle.grasp_pool.specs.Holdings.{IsFree, GivesBack}
use Rattle.grasp_session.proofs.Tables.{state_slot}
use Rattle.grasp_session.specs.Made.{IsBuilt}
use Rattle.grasp_session.specs.Messages.{Side, Near, Far}
use Rattle.grasp_session.specs.Says.{IsAt}
use Rattle.grasp_session.specs.Sessions.{SessionState}
use Rattle.grasp_types.specs.Prefix.{AddressBlock as Prefix, span_of}
use Rattle.grasp_types.specs.declared.refusal.ApiRefused.{ApiRefused}
use Rattle.grasp_types.specs.declared.session.Handle.{Handle}
use Rattle.grasp_laws_agents.proofs.Replacing.{entry_was, still_apart, still_live}
use Rattle.grasp_laws_agents.proofs.Standing.{same_apart, same_back, same_entry, same_has, same_quiet, same_streams, same_unsent, Moved, plain, none_accepts, rests, idle_entry}
use Rattle.grasp_laws_agents.proofs.Turning.{none_open, deciding_unaccepted}
use Rattle.grasp_laws_agents.specs.Giving.{IsDeciding, is_offering, OfferStands, EntryStands, WantStands, OffersIn, in_entry, in_return, Gives}
use Rattle.grasp_laws_agents.specs.OfferLaws.{FreedBy, WasOffered, was_there, was_gone}

some_want : (o : Option Want) (h : Handle) → o ≡ None → want_session o ≡ Some h → ⊥
some_want o h e f = let clash : None ≡ Some h = sym (ap want_session e) ∙ f in cc

-- ---- the request of a want

pub refused : (n : NodeState) (a b : AgentState) (x : ApiRefused) → Gives n a → a.act ≡ None → Effect a (is_refused x) b → Moved n n a b
refused n a b x k idle e = record {
  gives = record {
    want = λ h f. absurd (some_want b.want h e.4 f);
    entries = λ place g f. rests n.sessions b place g (e.3 ∙ idle) (idle_entry n a place g k idle (same_entry a b e.1 place g f));
    back = same_back n a b e.2 k;
    apart = same_apart n a b e.1 k;
    kinds = k.kinds;
    live = λ l side y p own pending. same_has a b e.1 e.2 l side (k.live l side y p own pending);
  };
  moves = same_quiet n n a b (same_streams n.sessions n.sessions refl) e.0 e.1 e.2 (λ y p pending has. has);
}

-- ---- an act

-- where the agent has no act, its want stands as it did
pub want_rests : (n : NodeState) (a b : AgentState) → Gives n a → b.want ≡ a.want → b.act ≡ None → (h : Handle) → want_session b.want ≡ Some h → WantStands n.sessions b h
want_rests n a b k same none h f =
    let s = k.want h (ap want_session (sym same) ∙ f) in
    record { session = s.session; own = s.own; accept = none_accepts b h Near s.session.view none; asks = s.asks }

-- one that isn't an offer
ends_idle : (n : NodeState) (a b : AgentState) → Gives n a → ((place : ℕ) → is_offering a.act place ≡ false) → b.pool ≡ a.pool → b.giving ≡ a.giving → b.want ≡ a.want → b.back ≡ a.back → b.act ≡ None → Moved n n a b
ends_idle n a b k offers pool giving want back none = record {
  gives = record {
    want = want_rests n a b k want none;
    entries = λ place g f. rests n.sessions b place g none (plain n.sessions a place g (offers place) (k.entries place g (same_entry a b giving place g f)));
    back = same_back n a b back k;
    apart = same_apart n a b giving k;
    kinds = k.kinds;
    live = λ l side y p own pending. same_has a b giving back l side (k.live l side y p own pending);
  };
  moves = same_quiet n n a b (same_streams n.sessions n.sessions refl) pool giving back (λ y p pending has. has);
}

-- an offer that isn't made
module _ (n : NodeState) (a b : AgentState) (built : (q : ℕ) (x : SessionState) → IsAt n.sessions q x → IsBuilt x.view) (place : ℕ) (h : Handle) (p : Prefix) (k : Gives n a)
    (is : a.act ≡ Some (act.Offer place h p)) (here : slice_get a.giving place ≡ Some (record { handle = h; offer = Some p; first = false })) (e : Effect a (is_dropped (act.Offer place h p)) b) where
  abbrev old : Giving
  old = record { handle = h; offer = Some p; first = false }

  abbrev new : Giving
  new = record { handle = h; offer = None; first = false }

  free_again : GivesBack a.pool b.pool p
  free_again = e.3.0

  set : b.giving ≡ slice_set a.giving place new
  set = e.3.1

  s : EntryStands n.sessions a place old
  s = k.entries place old here

  turn : IsDeciding s.session.view
  turn = (subst (λ c. OfferStands c (Some p) s.session.view) (ap (λ (o : Option Act). is_offering o place) is ∙ eq-eqb place place refl) s.offer).0

  dropped_entry : (i : ℕ) (f : Giving) → slice_get b.giving i ≡ Some f → EntryStands n.sessions b i f
  dropped_entry i f at = by_case (entry_was a b place old new here refl set i f at) where
    by_case : ((i ≡ place) × (new ≡ f)) ⊎ ((i ≢ place) × (slice_get a.giving i ≡ Some f)) → EntryStands n.sessions b i f
    by_case (inl c) =
        subst (EntryStands n.sessions b i) c.1
        (rests n.sessions b i new e.2
        (record { session = s.session; own = s.own; offer = λ q. none_open s.session.view q (built h.place s.session (state_slot n.sessions h s.session s.own.at)) turn }))
    by_case (inr c) =
        rests n.sessions b i f e.2
        (plain n.sessions a i f (ap (λ (o : Option Act). is_offering o i) is ∙ ne_eqb place i (λ g. c.0 (sym g))) (k.entries i f c.1))

  dropped_offers : (side : Side) (l : Handle) (q : Prefix) → OffersIn b side l q → WasOffered n a b side l q
  dropped_offers side l q (in_entry far i f at same offer) = by_case (entry_was a b place old new here refl set i f at) where
    by_case : ((i ≡ place) × (new ≡ f)) ⊎ ((i ≢ place) × (slice_get a.giving i ≡ Some f)) → WasOffered n a b side l q
    by_case (inl c) = let clash : None ≡ Some q = ap (λ (u : Giving). u.offer) c.1 ∙ offer in absurd (cc)
    by_case (inr c) = was_there (in_entry far i f c.1 same offer)
  dropped_offers side l q (in_return near r is_back same offer) = was_there (in_return near r (sym e.1 ∙ is_back) same offer)

  dropped_freed : (address : ℕ) → IsFree b.pool address → IsFree a.pool address ⊎ FreedBy n n a address
  dropped_freed address f = by_case ((free_again.free address).0 f) where
    by_case : IsFree a.pool address ⊎ span_of p address → IsFree a.pool address ⊎ FreedBy n n a address
    by_case (inl c) = inl c
    by_case (inr c) =
        inr (inl (p, c, record { handle = h; side = Far; session = s.session; offers = in_entry refl place old here refl refl; own = s.own; unaccepted = deciding_unaccepted s.session.view turn }))

  pub unmade : Moved n n a b
  unmade = record {
    gives = record {
      want = want_rests n a b k e.0.0 e.2;
      entries = dropped_entry;
      back = same_back n a b e.1 k;
      apart = still_apart a b place old new here refl set n k;
      kinds = k.kinds;
      live = still_live a b place old new here refl set n e.1 k;
    };
    moves = record {
      streams = λ l y u at owner there. same_streams n.sessions n.sessions refl l y u at there;
      freed = dropped_freed;
      offered = dropped_offers;
      unsent = same_unsent a b e.1;
      doubts = λ y q has owner pending. was_gone has;
      keeps_doubts = λ q has. subst (λ l. Contains l q) (sym free_again.doubtful) has;
      reserved = λ q has. inl ((free_again.reserved q).0 has).0;
      doubtful = λ q has. inl (subst (λ l. Contains l q) free_again.doubtful has);
    };
  }

pub dropped : (n : NodeState) (a b : AgentState) (c : Act) → ((q : ℕ) (x : SessionState) → IsAt n.sessions q x → IsBuilt x.view) → Gives n a → a.act ≡ Some c → ActStands a c → Effect a (is_dropped c) b → Moved n n a b
dropped n a b (act.Offer place h p) built k is stands e = unmade n a b built place h p k is stands e
dropped n a b _ built k is stands e = ends_idle n a b k (λ place. ap (λ (o : Option Act). is_offering o place) is) e.3.0 e.3.1 e.0.0 e.1 e.2
