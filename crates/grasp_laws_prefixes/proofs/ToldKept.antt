-- An address that is in hand stays so where an agent is told something.
use Rattle.std.proofs.Common.{◌≡◌, refl, sym, ap, ◌∙◌, subst, ℕ, inl, inr, ◌⊎◌, List, Contains, slice_get, Option, None, Some}
use Rattle.std.proofs.lemmas.Bool.{cases_eq}
use Rattle.std.proofs.lemmas.Option.{none-some, same_Some}
use Rattle.grasp_agent.specs.Replies as agent
use Rattle.grasp_agent.specs.Replies.{AgentEvent, want_reply, return_reply, after_return, after_event}
use Rattle.grasp_agent.specs.States.{AgentState, unsent_of}
use Rattle.grasp_agent.specs.declared.back.Return.{Return}
use Rattle.grasp_agent.specs.declared.giving.Giving.{Giving}
use Rattle.grasp_pool.specs.Holdings.{IsFree}
use Rattle.grasp_session.specs.Runs.{WasMade}
use Rattle.grasp_types.specs.Prefix.{AddressBlock as Prefix, span_of}
use Rattle.grasp_types.specs.declared.session.Handle.{Handle}
use Rattle.grasp_laws_network.proofs.Others.{put_elsewhere}
use Rattle.grasp_laws_network.proofs.Staying.{one_same, told_here, want_alone}
use Rattle.grasp_laws_network.proofs.Telling.{one_agent, one_least}
use Rattle.grasp_laws_network.specs.Authorities.{Holds, IsOpenTalk}
use Rattle.grasp_laws_network.specs.Telling.{IsNoReply, Tells}
use Rattle.grasp_model_network.specs.Runs.{IsReached}
use Rattle.grasp_model_network.specs.Sending.{seat_with}
use Rattle.grasp_model_network.specs.Setting.{Setting}
use Rattle.grasp_model_network.specs.Streams.{StreamState}
use Rattle.grasp_model_network.specs.World.{Seat, Offered, WorldState, seat_at}
use Rattle.grasp_model_network.specs.declared.event.Event.{Event}
use Rattle.grasp_laws_agents.specs.Giving.{OffersIn, in_entry, in_return}
use Rattle.grasp_laws_prefixes.proofs.AgentPools.{span_tells}
use Rattle.grasp_laws_prefixes.proofs.EntryOffers.{not_requested}
use Rattle.grasp_laws_prefixes.proofs.Keeping.{GivesIt, by_offer, in_doubt, IsGivenAt, IsGiven, IsUnsentAt, IsKeptIn, gives_listed, same_heard, quiet_kept}
use Rattle.grasp_laws_prefixes.proofs.Listing.{no_offer_of, put_keeps}
use Rattle.grasp_laws_prefixes.proofs.Networks.{told_happens}
use Rattle.grasp_laws_prefixes.proofs.OneNode.{each_node, seat_there}
use Rattle.grasp_laws_prefixes.proofs.Places.{same_stay}
use Rattle.grasp_laws_prefixes.proofs.Returned.{Takes, told_by}
use Rattle.grasp_laws_prefixes.proofs.Standing.{WorldGoesOn}
use Rattle.grasp_laws_prefixes.proofs.Talking.{giver_on}
use Rattle.grasp_laws_prefixes.specs.Grounds.{Grounds}
use Rattle.grasp_laws_prefixes.specs.Apart.{offer_on}

-- ---- an agent that has a return keeps it, whatever it is told

told_back : (a : AgentState) (what : AgentEvent) (v : Return) → IsNoReply what → a.back ≡ Some v → (after_event a what).back ≡ Some v
told_back a (agent.wanted n longest peer) v other is = ap (λ (b : AgentState). b.back) (want_alone a n longest peer (want_reply a)) ∙ is
told_back a (agent.returned p peer) v other is = ap (λ o. (after_return (record a { back = o }) p peer (return_reply (record a { back = o }) p)).back) is
told_back a (agent.replied z) v other is = absurd other

module _ (s : Setting) (w y : WorldState) (e : Event) (t : Tells s w e y) where
  abbrev told_seat : Seat
  told_seat = seat_with t.seat.core (after_event t.seat.agent t.telling.what)

  back_stays : (v : Return) (n : ℕ) (seat z : Seat) → seat_at w n ≡ Some seat → seat_at y n ≡ Some z → seat.agent.back ≡ Some v → z.agent.back ≡ Some v
  back_stays v n seat z here there = each_node w y t.telling.node told_seat now others (λ m x. (u : Seat) → seat_at w m ≡ Some u → u.agent.back ≡ Some v → x.agent.back ≡ Some v)
      (λ u at is. told_back t.seat.agent t.telling.what v t.no_reply (ap (λ (x : Seat). x.agent.back) (same_Some t.seat u (sym t.here ∙ at)) ∙ is))
      (λ m x apart at u found is. ap (λ (x : Seat). x.agent.back) (same_Some x u (sym at ∙ found)) ∙ is) n z there seat here where
        now : seat_at y t.telling.node ≡ Some told_seat
        now = ap (λ (x : WorldState). seat_at x t.telling.node) t.after ∙ told_here w t.telling t.seat t.seat t.here t.here

        others : (k : ℕ) → (k ≡ t.telling.node → ⊥) → seat_at y k ≡ seat_at w k
        others k apart = ap (λ (x : WorldState). seat_at x k) t.after ∙ put_elsewhere w.seats t.telling.node k told_seat (one_least w y (one_agent s w e y t)) apart

-- ---- where an agent reserves a prefix that it is to return

module _ (l : Grounds) (s : Setting) (w y : WorldState) (r : IsReached s w) (e : Event) (t : Tells s w e y) (g : Takes w y) where
  abbrev new : Seat
  new = seat_with g.seat.core g.agent

  -- what a node held it holds, or its node is to return it now
  held_taken : (n a : ℕ) → Holds w n a → IsKeptIn y a
  held_taken n a h = by_node (cases_eq n g.node) where
    by_node : (n ≡ g.node) ⊎ (n ≡ g.node → ⊥) → IsKeptIn y a
    by_node (inr apart) = inl (n, record { seat = h.seat; here = g.others n apart ∙ h.here; free = h.free })
    by_node (inl same) = by_span (span_tells g.prefix a) where
      free : IsFree g.seat.agent.pool a
      free = subst (λ (z : Seat). IsFree z.agent.pool a) (same_Some h.seat g.seat (sym h.here ∙ (ap (λ m. seat_at w m) same ∙ g.here))) h.free

      by_span : span_of g.prefix a ⊎ (¬ span_of g.prefix a) → IsKeptIn y a
      by_span (inl span) = inr (inr (record { node = g.node; seat = new; here = g.there; prefix = g.prefix; unsent = g.unsent; span = span }))
      by_span (inr outside) = inl (g.node, record { seat = new; here = g.there; free = (g.reserves.free a).1 (free, outside) })

  -- an offer of another prefix, or of another node, stands where its session and its prefix do
  module _ (a n : ℕ) (seat : Seat) (h : IsGivenAt w a n seat) where
    given_by : (z : Seat) → seat_at y n ≡ Some z → WasMade z.core.sessions h.session → GivesIt z h.side h.session h.prefix → (n ≡ g.node → h.prefix ≡ g.prefix → ⊥) → IsKeptIn y a
    given_by z there made gives differ = inr (inl (record {
      node = n;
      seat = z;
      here = there;
      given = record {
        side = h.side;
        place = h.place;
        session = h.session;
        prefix = h.prefix;
        giver = giver_on w y (same_stay w.streams y.streams g.streams) n seat z h.side h.place h.session h.session (same_heard h.session) made h.giver;
        gives = gives;
        span = h.span;
        listed = subst (λ (os : List Offered). Contains os (offer_on n h.prefix h.place)) (sym g.offers)
            (put_keeps w.offers g.node g.prefix None (offer_on n h.prefix h.place) h.listed (no_offer_of g.node g.prefix (offer_on n h.prefix h.place) differ));
        open_still = subst (λ (ts : List StreamState). IsOpenTalk ts h.place) (sym g.streams) h.open_still;
      };
    }))

  own_given : (a : ℕ) → IsGivenAt w a g.node g.seat → IsKeptIn y a
  own_given a h = given_by a g.node g.seat h new g.there h.giver.made (still h.gives) (λ same. differs) where
    offers_still : (k : Handle) → OffersIn g.seat.agent h.side k h.prefix → OffersIn g.agent h.side k h.prefix
    offers_still k (in_entry far place f at on offer) = in_entry far place f (ap (λ (gs : List Giving). slice_get gs place) g.giving ∙ at) on offer
    offers_still k (in_return near v is on same) = absurd (not_requested g.agent.back v k g.prefix g.unsent (back_stays s w y e t v g.node g.seat new g.here g.there is) on)

    still : GivesIt g.seat h.side h.session h.prefix → GivesIt new h.side h.session h.prefix
    still (by_offer k offers own) = by_offer k (offers_still k offers) own
    still (in_doubt doubtful gone offered) = in_doubt (subst (λ (ps : List Prefix). Contains ps h.prefix) (sym g.reserves.doubtful) doubtful) gone offered

    differs : h.prefix ≡ g.prefix → ⊥
    differs same =
        (l.kept s w r g.node g.seat g.here).pool.held h.prefix a (gives_listed l s w r g.node g.seat g.here h.side h.session h.prefix h.gives) h.span
        (g.reserves.was a (subst (λ p. span_of p a) same h.span))

  given_taken : (a : ℕ) → IsGiven w a → IsKeptIn y a
  given_taken a h = by_node (cases_eq h.node g.node) where
    by_node : (h.node ≡ g.node) ⊎ (h.node ≡ g.node → ⊥) → IsKeptIn y a
    by_node (inr apart) = given_by a h.node h.seat h.given h.seat (g.others h.node apart ∙ h.here) h.given.giver.made h.given.gives (λ same. absurd (apart same))
    by_node (inl same) =
        own_given a (subst (λ z. IsGivenAt w a g.node z) (same_Some h.seat g.seat (sym h.here ∙ (ap (λ n. seat_at w n) same ∙ g.here))) (subst (λ n. IsGivenAt w a n h.seat) same h.given))

  unsent_taken : (a : ℕ) → IsUnsentAt w a → IsKeptIn y a
  unsent_taken a u = from (seat_there w y (one_same w y (one_agent s w e y t)) u.node u.seat u.here) where
    by_back : (z : Seat) → seat_at y u.node ≡ Some z → (o : Option Return) → u.seat.agent.back ≡ o → unsent_of o ≡ Some u.prefix → unsent_of z.agent.back ≡ Some u.prefix
    by_back z there None is f = absurd (none-some u.prefix f)
    by_back z there (Some v) is f = ap unsent_of (back_stays s w y e t v u.node u.seat z u.here there is) ∙ f

    from : (z : Seat) × (seat_at y u.node ≡ Some z) → IsKeptIn y a
    from z = inr (inr (record { node = u.node; seat = z.0; here = z.1; prefix = u.prefix; unsent = by_back z.0 z.1 u.seat.agent.back refl u.unsent; span = u.span }))

  taken_kept : (a : ℕ) → IsKeptIn w a → IsKeptIn y a
  taken_kept a (inl h) = held_taken h.0 a h.1
  taken_kept a (inr (inl h)) = given_taken a h
  taken_kept a (inr (inr u)) = unsent_taken a u

pub told_kept : (l : Grounds) (s : Setting) (w y : WorldState) (e : Event) → IsReached s w → Tells s w e y → (a : ℕ) → IsKeptIn w a → IsKeptIn y a
told_kept l s w y e r t a = by_case (told_by l s w r e y t) where
  by_case : WorldGoesOn w y ⊎ Takes w y → IsKeptIn w a → IsKeptIn y a
  by_case (inl g) = quiet_kept l s w y r g (inr (told_happens s w y e t)) a
  by_case (inr g) = taken_kept l s w y r e t g a
