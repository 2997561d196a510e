-- What the agent of prefixes offers stands while it says nothing.
use Rattle.std.proofs.Common.{◌≡◌, sym, ap, ◌∙◌, ℕ, Bool, true, false, Option, None, Some, slice_get}
use Rattle.grasp_agent.specs.States.{AgentState, want_session}
use Rattle.grasp_agent.specs.Values.{returned_in}
use Rattle.grasp_agent.specs.declared.act.Act.{Act}
use Rattle.grasp_agent.specs.declared.act.Act.TheVariants as act
use Rattle.grasp_agent.specs.declared.back.Return.{Return}
use Rattle.grasp_agent.specs.declared.giving.Giving.{Giving}
use Rattle.grasp_laws_node.proofs.Meaning.Acts.{number_at}
use Rattle.grasp_model_node.specs.Node.{NodeState}
use Rattle.grasp_session.proofs.Facts.{at_handle}
use Rattle.grasp_session.proofs.Tables.{state_slot}
use Rattle.grasp_session.specs.Conversation.{answered, ended, has_offered, newest_offer_by, turn}
use Rattle.grasp_session.specs.Messages.{Side, Near, Far, other}
use Rattle.grasp_session.specs.Sessions.{SessionState, Sessions}
use Rattle.grasp_session.specs.Transcript.{Transcript, known, my_offer, peer_offer, request_of}
use Rattle.grasp_types.specs.Prefix.{AddressBlock as Prefix}
use Rattle.grasp_types.specs.declared.objective.Objective.{Objective}
use Rattle.grasp_types.specs.declared.session.Handle.{Handle}
use Rattle.grasp_laws_agents.proofs.GoingOn.{heard_alike, heard_offer, heard_offered, heard_turn, heard_unanswered}
use Rattle.grasp_laws_agents.proofs.Sides.{kinds_on}
use Rattle.grasp_laws_agents.specs.GoingOn.{OnlyHears, OnlyHeard, OwnGoOn}
use Rattle.grasp_laws_agents.specs.Giving.{HasOffered, IsOpenOffer, IsDeciding, OfferStands, IsOwnSession, EntryStands, AcceptStands, WantStands, ReturnStands, IsOffersSession, offered_by, Gives}

-- ---- offers

made_same : (v w : Transcript) → OnlyHears v w → has_offered w.role (known w) ≡ has_offered v.role (known v)
made_same v w h = ap (λ s. has_offered s (known w)) (heard_alike v w h).role ∙ heard_offered v w h

-- what its last value offers is the same
value_same : (v w : Transcript) → OnlyHears v w → offered_by w.role (my_offer w).value ≡ offered_by v.role (my_offer v).value
value_same v w h = ap (λ s. offered_by s (my_offer w).value) (heard_alike v w h).role ∙ ap (λ (o : Objective). offered_by v.role o.value) (heard_offer v w h)

offered_on : (v w : Transcript) (p : Prefix) → OnlyHears v w → HasOffered v p → HasOffered w p
offered_on v w p h o = record { made = made_same v w h ∙ o.made; offer = value_same v w h ∙ o.offer }

offered_back : (v w : Transcript) (p : Prefix) → OnlyHears v w → HasOffered w p → HasOffered v p
offered_back v w p h o = record { made = sym (made_same v w h) ∙ o.made; offer = sym (value_same v w h) ∙ o.offer }

pub open_back : (v w : Transcript) (p : Prefix) → OnlyHears v w → IsOpenOffer w p → IsOpenOffer v p
open_back v w p h o = record { offered = offered_back v w p h o.offered; unanswered = heard_unanswered v w h (ap (λ s. answered s (known w)) (sym (heard_alike v w h).role) ∙ o.unanswered) }

deciding_on : (v w : Transcript) → OnlyHears v w → IsDeciding v → IsDeciding w
deciding_on v w h d = record { mine = ap turn (heard_turn v w h d.mine) ∙ (d.mine ∙ sym (heard_alike v w h).role); no_end = ap ended (heard_turn v w h d.mine) ∙ d.no_end }

-- what its request gives back is the same
back_same : (v w : Transcript) → OnlyHears v w → returned_in (request_of w).value ≡ returned_in (request_of v).value
back_same v w h = ap (λ (q : Objective). returned_in q.value) (heard_alike v w h).request

offer_on : (b : Bool) (o : Option Prefix) (v w : Transcript) → OnlyHears v w → OfferStands b o v → OfferStands b o w
offer_on true o v w h s = (deciding_on v w h s.0, back_same v w h ∙ s.1)
offer_on false (Some p) v w h s = offered_on v w p h s
offer_on false None v w h s = λ p q. s p (open_back v w p h q)

peer_on : (v w : Transcript) → OnlyHears v w → IsDeciding v → peer_offer w ≡ peer_offer v
peer_on v w h d = ap (λ (s : Side). newest_offer_by (other s) (known w)) (heard_alike v w h).role ∙ ap (newest_offer_by (other v.role)) (heard_turn v w h d.mine)

accept_on : (o : Option Act) (k : Handle) (side : Side) (v w : Transcript) → OnlyHears v w → AcceptStands o k side v → AcceptStands o k side w
accept_on (Some (act.Accept at p)) k side v w h s = λ e. let d = s e in (deciding_on v w h d.0, ap (λ (o : Objective). offered_by (other side) o.value) (peer_on v w h d.0) ∙ d.1)
accept_on _ k side v w h s = tt

-- ---- its sessions

-- the session is there, in which it has said nothing since
pub record StillOwn (w : Sessions) (h : Handle) (side : Side) (x : SessionState) : Type 0 where
  pub session : SessionState
  pub own : IsOwnSession w h side session
  pub over : OnlyHeard x session

pub own_on : (z w : Sessions) (h : Handle) (side : Side) (x : SessionState) → OwnGoOn z w → IsOwnSession z h side x → StillOwn w h side x
own_on z w h side x g o =
    let s = g.stay h.place x (state_slot z h x o.at) o.owner in
    record {
      session = s.0;
      own = record { at = at_handle w h s.0 s.1 (s.2.number ∙ number_at z h x o.at); owner = s.2.owner ∙ o.owner; role = (heard_alike x.view s.0.view s.2.view).role ∙ o.role };
      over = s.2;
    }

-- the session of agent 1 was there before, and this end has said nothing in it since
pub record WasOwn (z : Sessions) (h : Handle) (side : Side) (y : SessionState) : Type 0 where
  pub session : SessionState
  pub own : IsOwnSession z h side session
  pub over : OnlyHeard session y

pub own_back : (z w : Sessions) (h : Handle) (side : Side) (y : SessionState) → OwnGoOn z w → IsOwnSession w h side y → WasOwn z h side y
own_back z w h side y g o =
    let s = g.were h.place y (state_slot w h y o.at) o.owner in
    record {
      session = s.0;
      own = record {
        at = at_handle z h s.0 s.1 (sym s.2.number ∙ number_at w h y o.at);
        owner = sym s.2.owner ∙ o.owner;
        role = sym (heard_alike s.0.view y.view s.2.view).role ∙ o.role;
      };
      over = s.2;
    }

pub gives_on : (n m : NodeState) (a : AgentState) → OwnGoOn n.sessions m.sessions → Gives n a → Gives m a
gives_on n m a g k = record {
  want = want;
  entries = entries;
  back = back;
  apart = k.apart;
  kinds = kinds_on n.sessions m.sessions g k.kinds;
  live = live;
} where
  want : (h : Handle) → want_session a.want ≡ Some h → WantStands m.sessions a h
  want h e =
      let s = k.want h e in
      let y = own_on n.sessions m.sessions h Near s.session g s.own in
      record { session = y.session; own = y.own; accept = accept_on a.act h Near s.session.view y.session.view y.over.view s.accept; asks = back_same s.session.view y.session.view y.over.view ∙ s.asks }

  entries : (place : ℕ) (e : Giving) → slice_get a.giving place ≡ Some e → EntryStands m.sessions a place e
  entries place e f =
      let s = k.entries place e f in
      let y = own_on n.sessions m.sessions e.handle Far s.session g s.own in
      record {
        session = y.session;
        own = y.own;
        offer = offer_on _ e.offer s.session.view y.session.view y.over.view s.offer;
        accept = accept_on a.act e.handle Far s.session.view y.session.view y.over.view s.accept;
      }

  back : (r : Return) (h : Handle) → a.back ≡ Some r → r.session ≡ Some h → ReturnStands m.sessions h r.prefix
  back r h is f =
      let s = k.back r h is f in
      let y = own_on n.sessions m.sessions h Near s.session g s.own in
      record { session = y.session; own = y.own; offer = offered_on s.session.view y.session.view r.prefix y.over.view s.offer }

  live : (h : Handle) (side : Side) (y : SessionState) (p : Prefix) → IsOwnSession m.sessions h side y → IsOpenOffer y.view p → IsOffersSession a side h
  live h side y p own pending =
      let x = own_back n.sessions m.sessions h side y g own in
      k.live h side x.session p x.own (open_back x.session.view y.view p x.over.view pending)
