-- What an acceptance by the agent's own call makes of the offer that is accepted.
use Rattle.std.proofs.Common.{◌≡◌, refl, sym, ap, ◌∙◌, subst, ℕ, inr, Option, Some, slice_get}
use Rattle.std.proofs.lemmas.Option.{same_Some}
use Rattle.grasp_agent.proofs.Keeping.{act_stands}
use Rattle.grasp_agent.specs.Kept.{MayAccept, accepts_in_want, accepts_in_giving}
use Rattle.grasp_laws_agent.proofs.LawMoves.{moves_are_made}
use Rattle.grasp_laws_agent.specs.Moves.{is_made}
use Rattle.grasp_agent.specs.States.{AgentState, want_session}
use Rattle.grasp_agent.specs.declared.act.Act.{Act}
use Rattle.grasp_agent.specs.declared.act.Act.TheVariants as act
use Rattle.grasp_model_node.specs.Begin.{begin}
use Rattle.grasp_model_node.specs.Node.{NodeState}
use Rattle.grasp_pool.specs.Holdings.{IsFree}
use Rattle.grasp_laws_session.proofs.Follows.{other_other}
use Rattle.grasp_laws_session.proofs.Trailing.{trails_legal}
use Rattle.grasp_session.specs.Conversation.{IsLegal}
use Rattle.grasp_session.specs.Messages.{Side, Near, Far, other}
use Rattle.grasp_session.specs.Sessions.{SessionState}
use Rattle.grasp_session.specs.Transcript.{Transcript, known, peer_offer}
use Rattle.grasp_types.specs.Prefix.{AddressBlock as Prefix, span_of}
use Rattle.grasp_laws_network.specs.Authorities.{Holds}
use Rattle.grasp_model_network.specs.Runs.{IsReached}
use Rattle.grasp_model_network.specs.Sending.{seat_with}
use Rattle.grasp_model_network.specs.Setting.{Setting}
use Rattle.grasp_model_network.specs.Streams.{StreamEnd, StreamState, end_at}
use Rattle.grasp_laws_network.specs.Views.{view_at}
use Rattle.grasp_model_network.specs.World.{Seat, WorldState, seat_at, end_of}
use Rattle.grasp_laws_agents.proofs.Begun.{WasSo, was_so}
use Rattle.grasp_laws_agents.proofs.Known.{may_say_end}
use Rattle.grasp_laws_agents.specs.Giving.{HasOffered, IsOpenOffer, IsOwnSession, AcceptStands, offered_by}
use Rattle.grasp_laws_negotiation.specs.Knowing.{IsKnown}
use Rattle.grasp_laws_prefixes.proofs.AgentSteps.{AgentStep}
use Rattle.grasp_laws_prefixes.proofs.BegunCalls.{IsBegun, AcceptsNow}
use Rattle.grasp_laws_prefixes.proofs.Offering.{StandsOffered, is_coming, is_said, stands_offered}
use Rattle.grasp_laws_prefixes.proofs.OwnSessions.{one_session, IsTalkOf, own_talk}
use Rattle.grasp_laws_prefixes.proofs.OwnSteps.{IsCall}
use Rattle.grasp_laws_prefixes.proofs.Places.{same_place}
use Rattle.grasp_laws_prefixes.proofs.Speech.{accepting_open, deciding_closed}
use Rattle.grasp_laws_prefixes.proofs.Standing.{Stays}
use Rattle.grasp_laws_prefixes.specs.Grounds.{Grounds}
use Rattle.grasp_laws_prefixes.proofs.Keeping.{GivesIt, by_offer, in_doubt}
use Rattle.grasp_laws_prefixes.proofs.Speaking.{NowAccepts}
use Rattle.grasp_laws_prefixes.proofs.Talking.{GivesAt}

-- the prefix of an offer that is open is the one that is offered
one_offer : (v : Transcript) (p z : Prefix) → IsOpenOffer v p → HasOffered v z → p ≡ z
one_offer v p z o h = same_Some p z (sym o.offered.offer ∙ h.offer)

module _ (l : Grounds) (s : Setting) (w y : WorldState) (r : IsReached s w) (q : IsReached s y) (a : AgentStep w y) (c : IsCall w y a) (b : IsBegun w y a c) where
  abbrev begun : NodeState
  begun = begin a.visit.seat.core c.now

  -- ---- what it accepts

  module _ (side : Side) (stream : ℕ) (n : NowAccepts begun a.core a.visit.seat.agent c.reply side stream) where
    -- what is accepted at a side is the last offer of the other one, in the agent's own session
    abbrev AcceptsAt : Side → Type 0
    AcceptsAt i = IsOwnSession begun.sessions n.handle i n.session × (offered_by (other i) (peer_offer n.session.view).value ≡ Some n.prefix)

    at_side : AcceptsAt side
    at_side = by_may (act_stands a.visit.seat.agent (act.Accept n.handle n.prefix) n.act_is b.kept).0 where
      in_session : (i : Side) (x : SessionState) → IsOwnSession begun.sessions n.handle i x → AcceptStands a.visit.seat.agent.act n.handle i x.view → AcceptsAt side
      in_session i x mine accept =
          let same : x ≡ n.session = one_session begun.sessions n.handle x n.session mine.at n.says.there in
          let stands : AcceptStands (Some (act.Accept n.handle n.prefix)) n.handle i x.view = subst (λ (o : Option Act). AcceptStands o n.handle i x.view) n.act_is accept in
          let there : IsOwnSession begun.sessions n.handle i n.session = subst (IsOwnSession begun.sessions n.handle i) same mine in
          subst AcceptsAt (sym there.role ∙ n.role) (there, subst (λ (z : SessionState). offered_by (other i) (peer_offer z.view).value ≡ Some n.prefix) same (stands refl).1)

      by_may : MayAccept (want_session a.visit.seat.agent.want) a.visit.seat.agent.giving n.handle → AcceptsAt side
      by_may (accepts_in_want e) = let t = b.gives.want n.handle e in in_session Near t.session t.own t.accept
      by_may (accepts_in_giving place g there same none) =
          let t = b.gives.entries place g there in
          in_session Far t.session (subst (λ k. IsOwnSession begun.sessions k Far t.session) same t.own) (subst (λ k. AcceptStands a.visit.seat.agent.act k Far t.session.view) same t.accept)

    own : IsOwnSession a.visit.seat.core.sessions n.handle side n.session
    own = from (was_so a.visit.seat.core c.now n.handle side n.session b.sound at_side.0) where
      from : WasSo a.visit.seat.core.sessions n.handle side n.session → IsOwnSession a.visit.seat.core.sessions n.handle side n.session
      from t = subst (IsOwnSession a.visit.seat.core.sessions n.handle side) (sym (t.going n.says.going)) t.own

    -- the session at the other side of the stream has this offer open
    open_there : (place : ℕ) (u : StreamState) → slice_get y.streams place ≡ Some u → end_at u side ≡ Some (end_of a.visit.node stream) → (x : SessionState) → GivesAt w place (other side) x
        → IsOpenOffer x.view n.prefix
    open_there place u now ends x g = from (own_talk l s w r a.visit.node a.visit.seat a.here n.handle side n.session own) where
      end_is : StreamEnd
      end_is = end_of a.visit.node n.session.stream

      from : IsTalkOf w a.visit.node n.session side → IsOpenOffer x.view n.prefix
      from t =
          let later : Stays y.streams t.place t.talk = a.streams t.place t.talk t.stands in
          let at : t.place ≡ place = same_place l.ready s y q end_is t.place place later.after u side side later.stands (later.ends side end_is t.ends) now
          (ends ∙ ap (λ i. Some (end_of a.visit.node i)) (sym n.on)) in
          let same : t.talk ≡ g.talk = same_Some t.talk g.talk (sym t.stands ∙ (ap (λ i. slice_get w.streams i) at ∙ g.stands)) in
          let saw : view_at w t.talk (other side) ≡ Some x.view = ap (λ (z : StreamState). view_at w z (other side)) same ∙ g.saw in
          let knows : IsKnown w t.talk = l.known s w r t.place t.talk t.stands t.negotiation in
          accepting_open side t.talk.said n.session.view x.view n.prefix n.role (knows.views (other side) x.view saw)
          (knows.accepts side n.session.view x.view t.saw saw (may_say_end n.session.view n.says.going n.says.mine)) at_side.1

    -- so its prefix is the one that this session gives
    same_prefix : (node : ℕ) (seat : Seat) → seat_at w node ≡ Some seat → (place : ℕ) (x : SessionState) (p : Prefix) → GivesAt w place (other side) x → IsOpenOffer x.view n.prefix
        → GivesIt seat (other side) x p → n.prefix ≡ p
    same_prefix node seat here place x p g is_open (in_doubt doubtful gone offered) = one_offer x.view n.prefix p is_open offered
    same_prefix node seat here place x p g is_open (by_offer h offers mine) = by_stands (stands_offered seat.core seat.agent (l.give s w r node seat here) (other side) h p offers x mine) where
      legal : IsLegal (known x.view)
      legal = trails_legal (other side) (known x.view) _ (l.in_order s w r place g.talk g.stands g.negotiation).legal g.view.trails

      by_stands : StandsOffered seat.agent (other side) x.view p → n.prefix ≡ p
      by_stands (is_coming far busy deciding asked) = absurd (deciding_closed x.view n.prefix legal deciding is_open)
      by_stands (is_said offered) = one_offer x.view n.prefix p is_open offered

    -- the addresses of the accepted offer are free at the node that accepts
    accepted_free : (address : ℕ) → span_of n.prefix address → IsFree a.agent.pool address
    accepted_free address span =
        subst (λ (z : AgentState). IsFree z.pool address) (sym c.agent_is)
        (((moves_are_made a.visit.seat.agent c.reply (is_made (act.Accept n.handle n.prefix)) b.kept (n.act_is, n.reply_is)).4.free address).1 (inr span))

  -- an offer that is accepted now is held by the node that accepts
  pub accepted_held : (node : ℕ) (seat : Seat) → seat_at w node ≡ Some seat → (side : Side) (place : ℕ) (u : StreamState) → slice_get y.streams place ≡ Some u → (x : SessionState) (p : Prefix)
      → GivesAt w place side x → GivesIt seat side x p → (address : ℕ) → span_of p address → AcceptsNow w y a c (other side) u → Holds y a.visit.node address
  accepted_held node seat here side place u now x p g gives address span e =
      let back : other (other side) ≡ side = other_other side in
      let at : GivesAt w place (other (other side)) x = subst (λ i. GivesAt w place i x) (sym back) g in
      let is_open = open_there (other side) e.stream e.accepts place u now e.ends x at in
      let same : e.accepts.prefix ≡ p = same_prefix (other side) e.stream e.accepts node seat here place x p at is_open (subst (λ i. GivesIt seat i x p) (sym back) gives) in
      record { seat = seat_with a.core a.agent; here = a.there; free = accepted_free (other side) e.stream e.accepts address (subst (λ z. span_of z address) (sym same) span) }
