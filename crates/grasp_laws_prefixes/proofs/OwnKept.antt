-- An address that is in hand stays so after an agent's own step.
use Rattle.std.proofs.Common.{◌≡◌, ◌≢◌, refl, sym, ap, ◌∙◌, subst, ℕ, ◌&&◌, ◌||◌, Bool, true, false, cond, inl, inr, ◌⊎◌, List, [], ◌∷◌, Contains, Option, Some, None}
use Rattle.std.proofs.lemmas.Bool.{true≢false, cases_eq, eq-eqb, or_right}
use Rattle.std.proofs.lemmas.Option.{none-some, same_Some}
use Rattle.grasp_agent.proofs.Keeping.{act_stands}
use Rattle.grasp_laws_agent.proofs.LawMoves.{moves_are_made}
use Rattle.grasp_laws_agent.proofs.LawOffers.{doubts_stay}
use Rattle.grasp_laws_agent.proofs.LawStays.{nothing_else_moves}
use Rattle.grasp_agent.specs.Kept.{IsKept}
use Rattle.grasp_laws_agent.specs.Moves.{IsReturning, Settled}
use Rattle.grasp_agent.specs.Replies.{answer_in, started_in, after_reply}
use Rattle.grasp_agent.specs.States.{AgentState, unsent_of}
use Rattle.grasp_agent.specs.declared.act.Act.{Act}
use Rattle.grasp_agent.specs.declared.act.Act.TheVariants as act
use Rattle.grasp_agent.specs.declared.giving.Giving.{Giving}
use Rattle.grasp_model_node.specs.Begin.{begin}
use Rattle.grasp_model_node.specs.Node.{NodeState}
use Rattle.grasp_pool.specs.Holdings.{IsFree}
use Rattle.grasp_session.specs.Conversation.{Said, strip, accepted_by}
use Rattle.grasp_session.specs.Laws.{OutcomeSays}
use Rattle.grasp_session.specs.Messages.{Side, Near, Far, other, is_side, is_invalid, is_acceptance}
use Rattle.grasp_session.specs.Runs.{WasMade}
use Rattle.grasp_session.specs.Sessions.{SessionState}
use Rattle.grasp_session.specs.Transcript.{known, outcome_of}
use Rattle.grasp_types.specs.Prefix.{AddressBlock as Prefix, span_of}
use Rattle.grasp_types.specs.declared.objective.Objective.{Objective}
use Rattle.grasp_types.specs.declared.session.By.TheVariants.{Theirs}
use Rattle.grasp_types.specs.declared.session.Handle.{Handle}
use Rattle.grasp_types.specs.declared.session.Outcome.{Outcome}
use Rattle.grasp_types.specs.declared.session.Outcome.TheVariants as outcome
use Rattle.grasp_laws_network.proofs.Lives.{same_is_present}
use Rattle.grasp_laws_network.specs.Authorities.{Holds, IsOpenTalk}
use Rattle.grasp_model_network.specs.Accepting.{has_accepted, is_accepted, taking_side}
use Rattle.grasp_model_network.specs.Runs.{IsReached}
use Rattle.grasp_model_network.specs.Sending.{seat_with}
use Rattle.grasp_model_network.specs.Setting.{Setting}
use Rattle.grasp_model_network.specs.Streams.{StreamEnd, StreamState, end_at}
use Rattle.grasp_model_network.specs.World.{Seat, WorldState, seat_at, end_of}
use Rattle.grasp_laws_agents.specs.GoingOn.{OnlyHeard}
use Rattle.grasp_laws_agents.specs.Owning.{IsOwned}
use Rattle.grasp_laws_agents.proofs.Going.{StillOwn, own_on}
use Rattle.grasp_laws_agents.specs.Giving.{EntryStands, HasOffered, IsDeciding, IsOwnSession, OfferStands, OffersIn, in_entry, is_offering}
use Rattle.grasp_laws_node.proofs.Consistent.Declines.{handle_state}
use Rattle.grasp_laws_session.proofs.Turns.{none_accepted}
use Rattle.grasp_laws_prefixes.proofs.AgentSteps.{AgentStep}
use Rattle.grasp_laws_prefixes.proofs.EntryOffers.{offering_session}
use Rattle.grasp_laws_prefixes.proofs.Offering.{StandsOffered, is_coming, is_said, stands_offered, offering_in}
use Rattle.grasp_laws_prefixes.proofs.OwnSessions.{handle_made, one_session}
use Rattle.grasp_laws_prefixes.proofs.OwnSteps.{IsCall}
use Rattle.grasp_laws_prefixes.proofs.Places.{end_stays, same_place}
use Rattle.grasp_laws_prefixes.proofs.Safe.{stand}
use Rattle.grasp_laws_prefixes.proofs.Speech.{never_accepted}
use Rattle.grasp_laws_prefixes.proofs.Standing.{IsEndAt, IsOfferedOn, PrefixesStand}
use Rattle.grasp_laws_prefixes.specs.Grounds.{Grounds}
use Rattle.grasp_laws_prefixes.proofs.AgentOffers.{just_reserved}
use Rattle.grasp_laws_prefixes.proofs.AgentPools.{IsNow, is_free, is_decided, still_free, OfferNow, stays, goes, ends, offer_now, UnsentNow, waits, is_back, is_requested, unsent_now}
use Rattle.grasp_laws_prefixes.proofs.Keeping.{GivesIt, by_offer, in_doubt, IsGivenAt, IsGiven, IsUnsentAt, IsKeptIn, same_heard}
use Rattle.grasp_laws_prefixes.proofs.Listed.{others_listed, own_listed}
use Rattle.grasp_laws_prefixes.proofs.NewOpen.{dialled_on, new_open}
use Rattle.grasp_laws_prefixes.proofs.BegunCalls.{IsBegun, AcceptsNow, accepted_now}
use Rattle.grasp_laws_prefixes.proofs.OwnCalls.{accepted_held}
use Rattle.grasp_laws_prefixes.proofs.Polling.{HasEnded, has_ended}
use Rattle.grasp_laws_prefixes.proofs.Talking.{GivesAt, IsGiver, giver_on, gives_at, open_on}
use Rattle.grasp_laws_prefixes.specs.Apart.{offer_on}

-- an acceptance that ends a conversation was said in it
ends_accepted : (side : Side) (c : List Said) → accepted_by side (strip c) ≡ true → has_accepted side c ≡ true
ends_accepted side [] e = e
ends_accepted side (x ∷ c) e = by_test (is_invalid x.message) e (ends_accepted side c) where
  either : (b d : Bool) → b ≡ true → (b || d) ≡ true
  either true d f = refl
  either false d f = absurd (true≢false (sym f))

  by_test : (b : Bool) → accepted_by side (cond b (strip c) (x ∷ strip c)) ≡ true → (accepted_by side (strip c) ≡ true → has_accepted side c ≡ true)
      → ((is_side side x.side && is_acceptance x.message) || has_accepted side c) ≡ true
  by_test true f rest = or_right (is_side side x.side && is_acceptance x.message) (has_accepted side c) (rest f)
  by_test false f rest = either (is_side side x.side && is_acceptance x.message) (has_accepted side c) f

module _ (l : Grounds) (s : Setting) (w y : WorldState) (r : IsReached s w) (q : IsReached s y) (a : AgentStep w y) (c : IsCall w y a) (b : IsBegun w y a c) where
  abbrev new_seat : Seat
  new_seat = seat_with a.core a.agent

  -- the node where the step has begun
  abbrev begun : NodeState
  begun = begin a.visit.seat.core c.now

  kept_now : IsKept a.agent
  kept_now = l.kept s y q a.visit.node new_seat a.there

  now_stands : PrefixesStand y
  now_stands = stand l s y q

  own_holds : (address : ℕ) → IsFree a.agent.pool address → Holds y a.visit.node address
  own_holds address free = record { seat = new_seat; here = a.there; free = free }

  -- ---- what is offered now

  module _ (side : Side) (h : Handle) (p : Prefix) (offers : OffersIn a.agent side h p) (x : SessionState) (own : IsOwnSession a.core.sessions h side x) where
    offered : IsOfferedOn y a.visit.node side x.stream p
    offered = now_stands.known.offered a.visit.node new_seat a.there (same_is_present w y a.visit.node a.lives ∙ a.present) side h p offers x own

    offer_giver : IsGiver y a.visit.node new_seat side offered.place x
    offer_giver = record {
      made = handle_made a.core.sessions h x own.at;
      owner = own.owner;
      role = own.role;
      kind = (owned.own own.owner).0;
      name = (owned.own own.owner).1;
      offering = offering_in l s y q a.visit.node new_seat a.there side h p offers x own;
      at = offered.at;
    } where
      owned : IsOwned x
      owned = l.owned s y q a.visit.node new_seat a.there h.place x (handle_state a.core.sessions h x own.at).0

    -- where it may still be accepted
    offer_kept : (address : ℕ) → span_of p address → (GivesAt y offered.place side x → IsOpenTalk y.streams offered.place) → IsKeptIn y address
    offer_kept address span is_open = inr (inl (record {
      node = a.visit.node;
      seat = new_seat;
      here = a.there;
      given = record {
        side = side;
        place = offered.place;
        session = x;
        prefix = p;
        giver = offer_giver;
        gives = by_offer h offers own;
        span = span;
        listed = offered.listed;
        open_still = is_open (gives_at l s y q a.visit.node new_seat a.there side offered.place x offer_giver);
      };
    }))

  -- what was just decided
  module _ (place : ℕ) (h : Handle) (p : Prefix) (is : a.agent.act ≡ Some (act.Offer place h p)) where
    abbrev entry : Giving
    entry = record { handle = h; offer = Some p; first = false }

    offers_it : OffersIn a.agent Far h p
    offers_it = in_entry refl place entry (act_stands a.agent (act.Offer place h p) is kept_now) refl refl

    decided_given : (address : ℕ) → span_of p address → EntryStands a.core.sessions a.agent place entry → IsKeptIn y address
    decided_given address span e = offer_kept Far h p offers_it e.session e.own address span is_open where
      there : IsOfferedOn y a.visit.node Far e.session.stream p
      there = offered Far h p offers_it e.session e.own

      deciding : IsDeciding e.session.view
      deciding = (subst (λ d. OfferStands d (Some p) e.session.view) (ap (λ (u : Option Act). is_offering u place) is ∙ eq-eqb place place refl) e.offer).0

      is_open : GivesAt y there.place Far e.session → IsOpenTalk y.streams there.place
      is_open g =
          let whole : known e.session.view ≡ strip g.talk.said = g.view.whole (inl (deciding.mine ∙ g.view.role)) in
          let none : accepted_by (taking_side g.talk) (strip g.talk.said) ≡ false =
          ap (λ (u : List Said). accepted_by (taking_side g.talk) u) (sym whole) ∙ none_accepted (known e.session.view) deciding.no_end (taking_side g.talk) in
          record { talk = g.talk; here = g.stands; open_still = never_accepted (taking_side g.talk) g.talk.said (l.in_order s y q there.place g.talk g.stands g.negotiation) none }

    decided_kept : (address : ℕ) → span_of p address → IsKeptIn y address
    decided_kept address span =
        decided_given address span ((l.give s y q a.visit.node new_seat a.there).entries place entry (act_stands a.agent (act.Offer place h p) is kept_now))

  -- what was just requested to be returned: nobody has accepted on the stream that was dialled for it
  module _ (h : Handle) (p : Prefix) (next : IsReturning a.visit.seat.agent) (told : started_in (answer_in c.reply) ≡ Some h) (offers : OffersIn a.agent Near h p) where
    requested_given : (address : ℕ) → span_of p address → (x : SessionState) × IsOwnSession a.core.sessions h Near x → IsKeptIn y address
    requested_given address span x = offer_kept Near h p offers x.0 x.1 address span is_open where
      there : IsOfferedOn y a.visit.node Near x.0.stream p
      there = offered Near h p offers x.0 x.1

      is_open : GivesAt y there.place Near x.0 → IsOpenTalk y.streams there.place
      is_open g =
          new_open l s w y r q a c b next.idle there.place x.0 g x.0.stream
          (ap (λ (t : StreamState). end_at t Near) (same_Some g.talk there.at.talk (sym g.stands ∙ there.at.stands)) ∙ there.at.end_is)
          (dialled_on l.means begun a.core b.sound_begun h x.0 x.1.at a.visit.seat.agent next c.reply told b.called)

    requested_kept : (address : ℕ) → span_of p address → IsKeptIn y address
    requested_kept address span = requested_given address span (offering_session a.core a.agent Near h p (l.give s y q a.visit.node new_seat a.there) offers)

  now_kept : (address : ℕ) → IsNow a.visit.seat.agent a.agent address → IsKeptIn y address
  now_kept address (is_free f) = inl (a.visit.node, own_holds address f)
  now_kept address (is_decided place h p none is span) = decided_kept place h p is address span

  is_now : (address : ℕ) → IsNow a.visit.seat.agent (after_reply a.visit.seat.agent c.reply) address → IsNow a.visit.seat.agent a.agent address
  is_now address n = subst (λ (z : AgentState). IsNow a.visit.seat.agent z address) (sym c.agent_is) n

  -- ---- what was held

  held_kept : (node address : ℕ) → Holds w node address → IsKeptIn y address
  held_kept node address h = by_node (cases_eq node a.visit.node) where
    by_node : (node ≡ a.visit.node) ⊎ (node ≡ a.visit.node → ⊥) → IsKeptIn y address
    by_node (inr apart) = inl (node, record { seat = h.seat; here = a.others node apart ∙ h.here; free = h.free })
    by_node (inl e) = now_kept address (is_now address (still_free moves_are_made nothing_else_moves a.visit.seat.agent c.reply b.kept address (subst (λ (z : Seat). IsFree z.agent.pool address) seat_is h.free))) where
      seat_is : h.seat ≡ a.visit.seat
      seat_is = same_Some h.seat a.visit.seat (sym h.here ∙ (ap (λ n. seat_at w n) e ∙ a.here))

  -- ---- what was given

  module _ (address node : ℕ) (seat : Seat) (here : seat_at w node ≡ Some seat) (h : IsGivenAt w address node seat) where
    before : GivesAt w h.place h.side h.session
    before = gives_at l s w r node seat here h.side h.place h.session h.giver

    -- with this session it goes on
    module _ (z : Seat) (there : seat_at y node ≡ Some z) (x : SessionState) (g : IsGiver y node z h.side h.place x) where
      now_at : GivesAt y h.place h.side x
      now_at = gives_at l s y q node z there h.side h.place x g

      -- the offer may still be accepted on its stream, or was just accepted there
      still_open : IsOpenTalk y.streams h.place ⊎ AcceptsNow w y a c (other h.side) now_at.talk
      still_open =
          open_on l s w y r q a.streams h.place h.side h.session x before now_at h.open_still (λ e. accepted_now w y a c b (other h.side) now_at.talk e)

      given_on : GivesIt z h.side x h.prefix → Contains y.offers (offer_on node h.prefix h.place) → IsKeptIn y address
      given_on gives listed = by_open still_open where
        by_open : IsOpenTalk y.streams h.place ⊎ AcceptsNow w y a c (other h.side) now_at.talk → IsKeptIn y address
        by_open (inl is_open) = inr (inl (record {
          node = node;
          seat = z;
          here = there;
          given = record { side = h.side; place = h.place; session = x; prefix = h.prefix; giver = g; gives = gives; span = h.span; listed = listed; open_still = is_open };
        }))
        by_open (inr e) =
            inl (a.visit.node, accepted_held l s w y r q a c b node seat here h.side h.place now_at.talk now_at.stands h.session h.prefix before h.gives address h.span e)

    -- at another node
    other_given : node ≢ a.visit.node → IsKeptIn y address
    other_given apart =
        given_on seat (a.others node apart ∙ here) h.session (giver_on w y a.streams node seat seat h.side h.place h.session h.session (same_heard h.session) h.giver.made h.giver) h.gives
        (others_listed w y a node h.prefix h.place apart h.listed)

  -- at the node of the step
  module _ (address : ℕ) (h : IsGivenAt w address a.visit.node a.visit.seat) where
    abbrev OwnGoes : SessionState → Type 0
    OwnGoes x = IsGiver y a.visit.node new_seat h.side h.place x

    heard_goes : (x : SessionState) → OnlyHeard h.session x → WasMade a.core.sessions x → OwnGoes x
    heard_goes x over made = giver_on w y a.streams a.visit.node a.visit.seat new_seat h.side h.place h.session x over made h.giver

    -- a prefix in doubt stays listed, and so the offer of a session that is no longer live
    doubt_given : (x : SessionState) → OwnGoes x → Contains a.agent.pool.doubtful h.prefix → Contains a.core.sessions.gone x → HasOffered x.view h.prefix → IsKeptIn y address
    doubt_given x g doubtful gone offered =
        given_on address a.visit.node a.visit.seat a.here h new_seat a.there x g (in_doubt doubtful gone offered)
        (own_listed w y a h.prefix h.place (inr doubtful) (λ j is same. kept_now.pool.once h.prefix (subst (λ p. Contains a.agent.pool.reserved p) same (just_reserved l s w y r q a (stand l s w r) j is)) doubtful) h.listed)

    doubt_stays : Contains a.visit.seat.agent.pool.doubtful h.prefix → Contains a.visit.seat.core.sessions.gone h.session → HasOffered h.session.view h.prefix → IsKeptIn y address
    doubt_stays doubtful was offered =
        doubt_given h.session (heard_goes h.session (same_heard h.session) (inr gone))
        (subst (λ (z : AgentState). Contains z.pool.doubtful h.prefix) (sym c.agent_is) (doubts_stay a.visit.seat.agent c.reply h.prefix b.kept doubtful)) gone offered where
          gone : Contains a.core.sessions.gone h.session
          gone = b.stays h.session (b.on.gone h.session was)

    module _ (handle : Handle) (offers : OffersIn a.visit.seat.agent h.side handle h.prefix) (own : IsOwnSession a.visit.seat.core.sessions handle h.side h.session) where
      -- where the agent offers it still in this session
      offer_stays : OffersIn a.agent h.side handle h.prefix → (x : SessionState) × IsOwnSession a.core.sessions handle h.side x → IsKeptIn y address
      offer_stays still x =
          given_on address a.visit.node a.visit.seat a.here h new_seat a.there x.0 (subst (λ n. IsGiver y a.visit.node new_seat h.side n x.0) place_is (offer_giver h.side handle h.prefix still x.0 x.1))
          (by_offer handle still x.1) (subst (λ n. Contains y.offers (offer_on a.visit.node h.prefix n)) place_is now.listed) where
            end_is : StreamEnd
            end_is = end_of a.visit.node x.0.stream

            now : IsOfferedOn y a.visit.node h.side x.0.stream h.prefix
            now = offered h.side handle h.prefix still x.0 x.1

            stream : x.0.stream ≡ h.session.stream
            stream = a.moves.streams handle h.session x.0 own.at own.owner x.1.at

            there : IsEndAt y.streams h.place h.side end_is
            there =
                subst (λ n. IsEndAt y.streams h.place h.side (end_of a.visit.node n)) (sym stream)
                (end_stays w.streams y.streams a.streams h.place h.side (end_of a.visit.node h.session.stream) h.giver.at)

            place_is : now.place ≡ h.place
            place_is = same_place l.ready s y q end_is now.place h.place now.at.talk there.talk h.side h.side now.at.stands now.at.end_is there.stands there.end_is

      -- where the session of the offer has ended
      module _ (o : Outcome) (idle : a.visit.seat.agent.act ≡ None) (ended : HasEnded begun a.core handle o) where
        over : StillOwn begun.sessions handle h.side h.session
        over = own_on a.visit.seat.core.sessions begun.sessions handle h.side h.session b.on own

        session_is : ended.session ≡ over.session
        session_is = one_session begun.sessions handle ended.session over.session ended.there over.own.at

        gone : Contains a.core.sessions.gone over.session
        gone = subst (λ x. Contains a.core.sessions.gone x) session_is ended.gone

        told : outcome_of over.session.view ≡ Some o
        told = ap (λ (x : SessionState). outcome_of x.view) (sym session_is) ∙ ended.outcome

        offered_there : HasOffered over.session.view h.prefix
        offered_there = by_stands (stands_offered begun a.visit.seat.agent b.gives h.side handle h.prefix offers over.session over.own) where
          by_stands : StandsOffered a.visit.seat.agent h.side over.session.view h.prefix → HasOffered over.session.view h.prefix
          by_stands (is_coming far busy deciding asked) = absurd (busy idle)
          by_stands (is_said offered) = offered

        over_goes : OwnGoes over.session
        over_goes = heard_goes over.session over.over (inr gone)

        -- where the prefix of the ended session is in doubt, the address is still kept
        doubted : Contains (after_reply a.visit.seat.agent c.reply).pool.doubtful h.prefix → IsKeptIn y address
        doubted d = doubt_given over.session over_goes (subst (λ (z : AgentState). Contains z.pool.doubtful h.prefix) (sym c.agent_is) d) gone offered_there

        -- the session hasn't ended with an acceptance by the other end: that would have been said on the stream before
        not_agreed : (u : Objective) → outcome_of over.session.view ≡ Some (outcome.Agreed Theirs u) → ⊥
        not_agreed u is =
            from (now_at address a.visit.node a.visit.seat a.here h new_seat a.there over.session over_goes)
            (still_open address a.visit.node a.visit.seat a.here h new_seat a.there over.session over_goes) where
              from : (g : GivesAt y h.place h.side over.session) → {e : _} → IsOpenTalk y.streams h.place ⊎ AcceptsNow w y a c (other h.side) e → ⊥
              from g (inr e) = none-some _ (sym idle ∙ e.accepts.act_is)
              from g (inl is_open) =
                  let says : OutcomeSays h.side g.talk.said over.session.view (Some (outcome.Agreed Theirs u))
                  = subst (λ e. OutcomeSays h.side g.talk.said over.session.view e) is ((l.known s y q h.place g.talk g.stands g.negotiation).outcomes h.side over.session.view g.saw) in
                  let one : is_open.talk ≡ g.talk = same_Some is_open.talk g.talk (sym is_open.here ∙ g.stands) in
                  true≢false
                  (sym (ends_accepted (other h.side) g.talk.said says.1)
                  ∙ (ap (λ i. has_accepted (other i) g.talk.said) (sym g.offering) ∙ (ap (λ (t : StreamState). is_accepted t) (sym one) ∙ is_open.open_still)))

        settled : (e : Outcome) → outcome_of over.session.view ≡ Some e → Settled e h.prefix a.visit.seat.agent.pool (after_reply a.visit.seat.agent c.reply).pool → IsKeptIn y address
        settled (outcome.Agreed Theirs u) is t = absurd (not_agreed u is)
        settled (outcome.Declined Theirs reason) is t =
            inl (a.visit.node, own_holds address (subst (λ (z : AgentState). IsFree z.pool address) (sym c.agent_is) ((t.free address).1 (inr h.span))))
        settled _ is t = doubted ((t.doubtful h.prefix).1 (inr refl))

        end_given : Settled o h.prefix a.visit.seat.agent.pool (after_reply a.visit.seat.agent c.reply).pool → IsKeptIn y address
        end_given t = settled o told t

    own_given : GivesIt a.visit.seat h.side h.session h.prefix → IsKeptIn y address
    own_given (in_doubt doubtful gone offered) = doubt_stays doubtful gone offered
    own_given (by_offer handle offers own) = by_now (offer_now moves_are_made nothing_else_moves a.visit.seat.agent c.reply b.kept h.side handle h.prefix offers) where
      by_now : OfferNow moves_are_made nothing_else_moves a.visit.seat.agent c.reply b.kept h.side handle h.prefix → IsKeptIn y address
      by_now (stays still) = offer_stays handle offers own offers_now (offering_session a.core a.agent h.side handle h.prefix (l.give s y q a.visit.node new_seat a.there) offers_now) where
        offers_now : OffersIn a.agent h.side handle h.prefix
        offers_now = subst (λ (z : AgentState). OffersIn z h.side handle h.prefix) (sym c.agent_is) still
      by_now (goes now) = now_kept address (is_now address (now address h.span))
      by_now (ends d e next polls told t) = end_given handle offers own e next.idle (has_ended l.means begun a.core handle e a.visit.seat.agent d next polls c.reply told b.called) t

  given_kept : (address : ℕ) → IsGiven w address → IsKeptIn y address
  given_kept address g = by_node (cases_eq g.node a.visit.node) where
    by_node : (g.node ≡ a.visit.node) ⊎ (g.node ≡ a.visit.node → ⊥) → IsKeptIn y address
    by_node (inr apart) = other_given address g.node g.seat g.here g.given apart
    by_node (inl e) = own_given address here here.gives where
      seat_is : g.seat ≡ a.visit.seat
      seat_is = same_Some g.seat a.visit.seat (sym g.here ∙ (ap (λ n. seat_at w n) e ∙ a.here))

      here : IsGivenAt w address a.visit.node a.visit.seat
      here = subst (λ z. IsGivenAt w address a.visit.node z) seat_is (subst (λ n. IsGivenAt w address n g.seat) e g.given)

  -- ---- what was to be returned

  -- at the node of the step
  own_unsent : (address : ℕ) (p : Prefix) → span_of p address → unsent_of a.visit.seat.agent.back ≡ Some p → IsKeptIn y address
  own_unsent address p span unsent = by_now (unsent_now moves_are_made nothing_else_moves a.visit.seat.agent c.reply b.kept p unsent) where
    by_now : UnsentNow moves_are_made nothing_else_moves a.visit.seat.agent c.reply b.kept p → IsKeptIn y address
    by_now (waits still) = inr (inr (record { node = a.visit.node; seat = new_seat; here = a.there; prefix = p; unsent = ap (λ (z : AgentState). unsent_of z.back) c.agent_is ∙ still; span = span }))
    by_now (is_back free) = inl (a.visit.node, own_holds address (subst (λ (z : AgentState). IsFree z.pool address) (sym c.agent_is) (free address span)))
    by_now (is_requested h next told offers) = requested_kept h p next told (subst (λ (z : AgentState). OffersIn z Near h p) (sym c.agent_is) offers) address span

  unsent_kept : (address : ℕ) → IsUnsentAt w address → IsKeptIn y address
  unsent_kept address u = by_node (cases_eq u.node a.visit.node) where
    by_node : (u.node ≡ a.visit.node) ⊎ (u.node ≡ a.visit.node → ⊥) → IsKeptIn y address
    by_node (inr apart) = inr (inr (record { node = u.node; seat = u.seat; here = a.others u.node apart ∙ u.here; prefix = u.prefix; unsent = u.unsent; span = u.span }))
    by_node (inl e) =
        own_unsent address u.prefix u.span (subst (λ (z : Seat). unsent_of z.agent.back ≡ Some u.prefix) (same_Some u.seat a.visit.seat (sym u.here ∙ (ap (λ n. seat_at w n) e ∙ a.here))) u.unsent)

  pub agent_kept : (address : ℕ) → IsKeptIn w address → IsKeptIn y address
  agent_kept address (inl h) = held_kept h.0 address h.1
  agent_kept address (inr (inl g)) = given_kept address g
  agent_kept address (inr (inr u)) = unsent_kept address u
