-- An address that is in hand stays so where no agent did anything.
use Rattle.std.proofs.Common.{◌≡◌, refl, sym, ap, ◌∙◌, subst, ℕ, inl, inr, ◌⊎◌, List, Contains, Option, Some}
use Rattle.std.proofs.lemmas.Option.{same_Some}
use Rattle.grasp_agent.specs.States.{unsent_of}
use Rattle.grasp_agent.specs.declared.back.Return.{Return}
use Rattle.grasp_pool.specs.Holdings.{Holding, IsFree, IsListed}
use Rattle.grasp_session.specs.Conversation.{Said, requested}
use Rattle.grasp_session.specs.Messages.{Side, other}
use Rattle.grasp_session.specs.Sessions.{SessionState}
use Rattle.grasp_types.specs.Prefix.{AddressBlock as Prefix, span_of}
use Rattle.grasp_types.specs.declared.session.Handle.{Handle}
use Rattle.grasp_laws_network.specs.Authorities.{Holds, IsOpenTalk}
use Rattle.grasp_model_network.specs.Accepting.{has_accepted, is_return, offering_by}
use Rattle.grasp_model_network.specs.Runs.{IsReached}
use Rattle.grasp_model_network.specs.Setting.{Setting}
use Rattle.grasp_model_network.specs.World.{Seat, Offered, WorldState, seat_at}
use Rattle.grasp_laws_agents.proofs.GoingOn.{nothing_heard}
use Rattle.grasp_laws_agents.proofs.Going.{StillOwn, own_on}
use Rattle.grasp_laws_agents.specs.Giving.{HasOffered, IsOwnSession, OffersIn}
use Rattle.grasp_laws_agents.specs.GoingOn.{OnlyHeard}
use Rattle.grasp_laws_prefixes.proofs.EntryOffers.{offers_reserved, unsent_reserved, same_offers}
use Rattle.grasp_laws_prefixes.proofs.OwnSessions.{handle_made}
use Rattle.grasp_laws_prefixes.proofs.Safe.{stand}
use Rattle.grasp_laws_prefixes.proofs.Standing.{offer_unsent, SeatGoesOn, WorldGoesOn, NothingHappens}
use Rattle.grasp_laws_prefixes.specs.Grounds.{Grounds}
use Rattle.grasp_laws_prefixes.proofs.OneNode.{seat_there}
use Rattle.grasp_laws_prefixes.proofs.Talking.{quiet_accepted, IsGiver, giver_on, GivesAt, gives_at, open_on}
use Rattle.grasp_laws_prefixes.specs.Hands.{IsInHand}
use Rattle.grasp_laws_prefixes.specs.Apart.{offer_on}

-- ---- an address in hand

-- the agent offers the prefix in this session, of which it is this side; or the session is no longer live, and its last offer is in doubt
pub data GivesIt (seat : Seat) (side : Side) (x : SessionState) (p : Prefix) : Type 0 where
  by_offer : (h : Handle) → OffersIn seat.agent side h p → IsOwnSession seat.core.sessions h side x → GivesIt seat side x p
  in_doubt : Contains seat.agent.pool.doubtful p → Contains seat.core.sessions.gone x → HasOffered x.view p → GivesIt seat side x p

-- the address lies in an offer of a session at this node, which may still be accepted
pub record IsGivenAt (w : WorldState) (a node : ℕ) (seat : Seat) : Type 0 where
  pub side : Side
  pub place : ℕ
  pub session : SessionState
  pub prefix : Prefix
  pub giver : IsGiver w node seat side place session
  pub gives : GivesIt seat side session prefix
  pub span : span_of prefix a
  pub listed : Contains w.offers (offer_on node prefix place)
  pub open_still : IsOpenTalk w.streams place

pub record IsGiven (w : WorldState) (a : ℕ) : Type 0 where
  pub node : ℕ
  pub seat : Seat
  pub here : seat_at w node ≡ Some seat
  pub given : IsGivenAt w a node seat

-- the address lies in a prefix that a node is to return and hasn't requested to yet
pub record IsUnsentAt (w : WorldState) (a : ℕ) : Type 0 where
  pub node : ℕ
  pub seat : Seat
  pub here : seat_at w node ≡ Some seat
  pub prefix : Prefix
  pub unsent : unsent_of seat.agent.back ≡ Some prefix
  pub span : span_of prefix a

-- a node holds the address, or it lies in an offer that may still be accepted, or in what is to be returned
abbrev pub IsKeptIn : WorldState → ℕ → Type 0
IsKeptIn w a = ((node : ℕ) × Holds w node a) ⊎ (IsGiven w a ⊎ IsUnsentAt w a)

-- what a session's offer that may still be accepted gives, its node has reserved or in doubt
pub gives_listed : (l : Grounds) (s : Setting) (w : WorldState) → IsReached s w → (node : ℕ) (seat : Seat) → seat_at w node ≡ Some seat → (side : Side) (x : SessionState) (p : Prefix) → GivesIt seat side x p
    → IsListed seat.agent.pool p
gives_listed l s w r node seat here side x p (by_offer h offers own) = inl (offers_reserved seat.agent side h p (l.kept s w r node seat here) offers)
gives_listed l s w r node seat here side x p (in_doubt doubtful gone offered) = inr doubtful

-- an address that a node holds, or that lies in a session's offer that may still be accepted or in what is to be returned, is in hand
pub kept_in_hand : (l : Grounds) (s : Setting) (w : WorldState) → IsReached s w → (a : ℕ) → IsKeptIn w a → IsInHand w a
kept_in_hand l s w r a (inl h) = inl h
kept_in_hand l s w r a (inr (inl g)) = inr (record {
  offer = offer_on g.node g.given.prefix g.given.place;
  authority = record {
    listed = g.given.listed;
    kept = record { seat = g.seat; here = g.here; listed = gives_listed l s w r g.node g.seat g.here g.given.side g.given.session g.given.prefix g.given.gives };
    live = g.given.open_still;
  };
  span = g.given.span;
})
kept_in_hand l s w r a (inr (inr u)) = inr (record {
  offer = offer_unsent u.node u.prefix;
  authority = record {
    listed = (stand l s w r).known.unsent u.node u.seat u.here u.prefix u.unsent;
    kept = record { seat = u.seat; here = u.here; listed = inl reserved };
    live = record { seat = u.seat; here = u.here; reserved = reserved };
  };
  span = u.span;
}) where
  reserved : Contains u.seat.agent.pool.reserved u.prefix
  reserved = unsent_reserved u.seat.agent u.prefix (l.kept s w r u.node u.seat u.here) u.unsent

-- ---- where no agent did anything

-- a session of which nothing was heard
pub same_heard : (x : SessionState) → OnlyHeard x x
same_heard x = record { number = refl; owner = refl; stream = refl; view = nothing_heard x.view }

module _ (l : Grounds) (s : Setting) (w y : WorldState) (r : IsReached s w) (g : WorldGoesOn w y) where
  new_seat : (node : ℕ) (seat : Seat) → seat_at w node ≡ Some seat → (new : Seat) × (seat_at y node ≡ Some new) × SeatGoesOn seat new
  new_seat node seat here =
      let n = seat_there w y g.count node seat here in
      let b = g.seats node n.0 n.1 in
      (n.0, n.1, subst (λ (z : Seat). SeatGoesOn z n.0) (same_Some b.0 seat (sym b.1 ∙ here)) b.2)

  still_held : (node a : ℕ) → Holds w node a → Holds y node a
  still_held node a h =
      let n = new_seat node h.seat h.here in
      record { seat = n.0; here = n.1; free = subst (λ (p : Holding). IsFree p a) (sym n.2.pool) h.free }

  module _ (a node : ℕ) (seat new : Seat) (goes : SeatGoesOn seat new) (h : IsGivenAt w a node seat) where
    -- what a session that goes on gave, it gives
    abbrev NewGiver : Type 0
    NewGiver = (z : SessionState) × IsGiver y node new h.side h.place z × GivesIt new h.side z h.prefix

    new_giver : GivesIt seat h.side h.session h.prefix → NewGiver
    new_giver (in_doubt doubtful gone offered) = (
      h.session,
      giver_on w y g.streams node seat new h.side h.place h.session h.session (same_heard h.session) (inr (goes.sessions.gone h.session gone)) h.giver,
      in_doubt (subst (λ (k : Holding). Contains k.doubtful h.prefix) (sym goes.pool) doubtful) (goes.sessions.gone h.session gone) offered,
    )
    new_giver (by_offer k offers own) = from (own_on seat.core.sessions new.core.sessions k h.side h.session goes.sessions own) where
      from : StillOwn new.core.sessions k h.side h.session → NewGiver
      from t = (
        t.session,
        giver_on w y g.streams node seat new h.side h.place h.session t.session t.over (handle_made new.core.sessions k t.session t.own.at) h.giver,
        by_offer k (same_offers new.agent seat.agent h.side k h.prefix (sym goes.giving) (sym goes.back) offers) t.own,
      )

    still_open : (here : seat_at w node ≡ Some seat) (there : seat_at y node ≡ Some new) (z : SessionState) → IsGiver y node new h.side h.place z → IsReached s y ⊎ NothingHappens w y → IsOpenTalk y.streams h.place
    still_open here there z giver (inl q) =
        from (open_on l s w y r q g.streams h.place h.side h.session z (gives_at l s w r node seat here h.side h.place h.session h.giver) now h.open_still
        (λ e. inl (quiet_accepted w y g (other h.side) now.talk e))) where
          now : GivesAt y h.place h.side z
          now = gives_at l s y q node new there h.side h.place z giver

          from : IsOpenTalk y.streams h.place ⊎ ⊥ → IsOpenTalk y.streams h.place
          from (inl o) = o
          from (inr none) = absurd none
    still_open here there z giver (inr said) =
        let u = said.said h.place h.open_still.talk h.open_still.here in
        record {
          talk = u.0;
          here = u.1.0;
          open_still = ap (λ (c : List Said). has_accepted (other (offering_by (is_return (requested c).value))) c) u.1.1 ∙ h.open_still.open_still;
        }

    still_given : seat_at w node ≡ Some seat → seat_at y node ≡ Some new → IsReached s y ⊎ NothingHappens w y → IsGiven y a
    still_given here there said =
        let n = new_giver h.gives in
        record {
          node = node;
          seat = new;
          here = there;
          given = record {
            side = h.side;
            place = h.place;
            session = n.0;
            prefix = h.prefix;
            giver = n.1;
            gives = n.2;
            span = h.span;
            listed = subst (λ (os : List Offered). Contains os (offer_on node h.prefix h.place)) (sym g.offers) h.listed;
            open_still = still_open here there n.0 n.1 said;
          };
        }

  pub quiet_kept : IsReached s y ⊎ NothingHappens w y → (a : ℕ) → IsKeptIn w a → IsKeptIn y a
  quiet_kept said a (inl h) = inl (h.0, still_held h.0 a h.1)
  quiet_kept said a (inr (inl h)) = let n = new_seat h.node h.seat h.here in inr (inl (still_given a h.node h.seat n.0 n.2 h.given h.here n.1 said))
  quiet_kept said a (inr (inr u)) =
      let n = new_seat u.node u.seat u.here in
      inr (inr (record { node = u.node; seat = n.0; here = n.1; prefix = u.prefix; unsent = ap (λ (o : Option Return). unsent_of o) n.2.back ∙ u.unsent; span = u.span }))
