-- What was settled is accepted never, whatever happens.
use Rattle.std.proofs.Common.{◌≡◌, refl, sym, ap, ◌∙◌, subst, arith, ℕ, ◌*◌, ◌<◌, Bool, true, false, inl, inr, ◌⊎◌, List, Some, slice_get}
use Rattle.std.proofs.lemmas.Bool.{true≢false, cases_eq}
use Rattle.std.proofs.lemmas.Option.{same_Some}
use Rattle.grasp_agent.specs.Calls.{objective_name}
use Rattle.grasp_laws_node.proofs.Beginning.{beginnings_end}
use Rattle.grasp_model_node.specs.Begin.{begin}
use Rattle.grasp_model_node.specs.Node.{NodeState}
use Rattle.grasp_session.proofs.Tables.{state_slot}
use Rattle.grasp_session.specs.Conversation.{Said, requested}
use Rattle.grasp_session.specs.Messages.{Near, other}
use Rattle.grasp_session.specs.Says.{IsAt}
use Rattle.grasp_types.specs.declared.objective.Objective.{Objective}
use Rattle.grasp_laws_network.proofs.Lives.{same_is_present}
use Rattle.grasp_model_network.specs.Accepting.{has_accepted, is_accepted, is_return, offering_by, taking_side}
use Rattle.grasp_model_network.specs.Runs.{IsReached}
use Rattle.grasp_model_network.specs.Sending.{seat_with}
use Rattle.grasp_model_network.specs.Setting.{Setting}
use Rattle.grasp_model_network.specs.Settling.{IsAsking, NeverAccepts}
use Rattle.grasp_model_network.specs.Streams.{StreamEnd, StreamState}
use Rattle.grasp_model_network.specs.World.{Seat, Offered, WorldState, seat_at, end_of, is_present}
use Rattle.grasp_laws_agents.proofs.Known.{none_goes_on}
use Rattle.grasp_laws_delivery.proofs.FromReady.{every_at}
use Rattle.grasp_laws_negotiation.specs.Negotiations.{IsNegotiation}
use Rattle.grasp_laws_prefixes.proofs.AgentSteps.{AgentStep}
use Rattle.grasp_laws_prefixes.proofs.Asked.{asked_still, request_stays, placed_one, placed_at}
use Rattle.grasp_laws_prefixes.proofs.Asking.{heard_going, begun_going, is_asking, asking_on, asking_role, asking_owner}
use Rattle.grasp_laws_prefixes.proofs.BegunCalls.{IsBegun, AcceptsNow, accepted_now}
use Rattle.grasp_laws_prefixes.proofs.OwnSteps.{IsCall}
use Rattle.grasp_laws_prefixes.proofs.Speech.{same_requested}
use Rattle.grasp_laws_prefixes.proofs.Standing.{IsPlaced, StaysUnaccepted, Stays, AllStay, WorldGoesOn, IsGoingOn, NothingHappens}
use Rattle.grasp_laws_prefixes.proofs.Talking.{AcceptedBy, accepted_by, quiet_accepted, side_accepted}
use Rattle.grasp_laws_prefixes.specs.Grounds.{Grounds}

-- an offer for the stream at this place, on which it is never accepted
pub stays_unaccepted : (y : WorldState) (o : Offered) → IsPlaced y.streams o → (place : ℕ) (u : StreamState) → o.talk ≡ Some place → slice_get y.streams place ≡ Some u → NeverAccepts y u → StaysUnaccepted y o
stays_unaccepted y o at place u is stands never = record { at = at; never = subst (λ t. NeverAccepts y t) (sym (placed_one y.streams o at place u is stands)) never }

module _ (l : Grounds) (s : Setting) (w : WorldState) (r : IsReached s w) (y : WorldState) (stay : AllStay w.streams y.streams) (o : Offered) (n : StaysUnaccepted w o) where
  -- the stream as it is then
  abbrev now : Stays y.streams n.at.place n.at.talk
  now = stay n.at.place n.at.talk n.at.stands

  near_is : now.after.near ≡ n.at.talk.near
  near_is = same_Some now.after.near n.at.talk.near (now.ends Near n.at.talk.near refl)

  takes_near : IsReached s y ⊎ NothingHappens w y → taking_side now.after ≡ Near
  takes_near said =
      ap (λ (q : Objective). other (offering_by (is_return q.value))) (request_stays l s w r n.at.place n.at.talk n.at.stands n.at.negotiation n.at.asked y said now) ∙ n.never.takes

  -- where nobody has accepted, and who asks asked before
  stays_so : IsReached s y ⊎ NothingHappens w y → is_accepted now.after ≡ false → (IsAsking y now.after → IsAsking w n.at.talk) → StaysUnaccepted y o
  stays_so said unaccepted asked =
      stays_unaccepted y o (placed_at l s w r y said stay o n.at) n.at.place now.after n.at.is now.stands
      (record { takes = takes_near said; unaccepted = unaccepted; over = λ a. n.never.over (asked a) })

  asked_before : (seat : Seat) → seat_at w now.after.near.node ≡ Some seat → is_present w now.after.near.node ≡ true → IsGoingOn seat.core.sessions now.after.near.number → IsAsking w n.at.talk
  asked_before seat here present goes =
      is_asking w n.at.talk (subst (λ (e : StreamEnd). is_present w e.node ≡ true) near_is present) seat (ap (λ (e : StreamEnd). seat_at w e.node) (sym near_is) ∙ here)
      (subst (λ (e : StreamEnd). IsGoingOn seat.core.sessions e.number) near_is goes)

  -- ---- where nothing happens

  pub still_unaccepted : NothingHappens w y → StaysUnaccepted y o
  still_unaccepted h = stays_so (inr h) unaccepted asked where
    said_is : now.after.said ≡ n.at.talk.said
    said_is =
        let v = h.said n.at.place n.at.talk n.at.stands in
        ap (λ (x : StreamState). x.said) (same_Some now.after v.0 (sym now.stands ∙ v.1.0)) ∙ v.1.1

    unaccepted : is_accepted now.after ≡ false
    unaccepted = ap (λ (c : List Said). has_accepted (other (offering_by (is_return (requested c).value))) c) said_is ∙ n.never.unaccepted

    asked : IsAsking y now.after → IsAsking w n.at.talk
    asked a =
        let b = h.going now.after.near.node a.seat a.here now.after.near.number (asking_on y now.after a) in
        asked_before b.0 b.1 (h.present now.after.near.node b.0 b.1 a.present) b.2

  -- ---- after a step

  module _ (q : IsReached s y) where
    negotiation : IsNegotiation now.after
    negotiation = (asked_still l s w r n.at.place n.at.talk n.at.stands n.at.negotiation n.at.asked y.streams now).0

    name : (requested now.after.said).name ≡ objective_name
    name = ap (λ (x : Objective). x.name) (request_stays l s w r n.at.place n.at.talk n.at.stands n.at.negotiation n.at.asked y (inl q) now) ∙ n.at.name

    after_step : (AcceptedBy y Near now.after → AcceptedBy w Near now.after ⊎ IsAsking w n.at.talk) → (IsAsking y now.after → IsAsking w n.at.talk) → StaysUnaccepted y o
    after_step accepts asked = stays_so (inl q) (by_test (is_accepted now.after) refl) asked where
      not_accepted : AcceptedBy w Near now.after ⊎ IsAsking w n.at.talk → ⊥
      not_accepted (inl a) =
          true≢false
          (sym (side_accepted l s w y r q stay n.at.place n.at.talk now.after n.at.stands n.at.negotiation now.stands Near a)
          ∙ (ap (λ i. has_accepted i n.at.talk.said) (sym n.never.takes) ∙ n.never.unaccepted))
      not_accepted (inr a) = n.never.over a

      by_test : (b : Bool) → is_accepted now.after ≡ b → b ≡ false
      by_test false is = refl
      by_test true is =
          absurd
          (not_accepted
          (accepts
          (accepted_by l s y q n.at.place now.after now.stands negotiation (ap (λ (x : Objective). x.name) (same_requested now.after.said) ∙ name) Near
          (ap (λ i. has_accepted i now.after.said) (sym (takes_near (inl q))) ∙ is))))

    -- one that isn't an agent's own
    pub quiet_unaccepted : WorldGoesOn w y → StaysUnaccepted y o
    quiet_unaccepted g = after_step (λ a. inl (quiet_accepted w y g Near now.after a)) asked where
      asked : IsAsking y now.after → IsAsking w n.at.talk
      asked a =
          let b = g.seats now.after.near.node a.seat a.here in
          asked_before b.0 b.1 (sym (same_is_present w y now.after.near.node g.lives) ∙ a.present)
          (heard_going b.0.core.sessions a.seat.core.sessions b.2.sessions now.after.near.number (asking_on y now.after a) (asking_owner l s y q n.at.place now.after now.stands negotiation name a))

    -- an agent's own
    module _ (a : AgentStep w y) (c : IsCall w y a) (b : IsBegun w y a c) where
      abbrev begun : NodeState
      begun = begin a.visit.seat.core c.now

      -- what goes on where the step has begun
      own_asked : now.after.near.node ≡ a.visit.node → IsGoingOn begun.sessions now.after.near.number → IsAsking w n.at.talk
      own_asked same goes =
          asked_before a.visit.seat (ap (λ k. seat_at w k) same ∙ a.here) (ap (λ k. is_present w k) same ∙ a.present) (begun_going a.visit.seat.core c.now b.sound now.after.near.number goes)

      own_accepts : AcceptsNow w y a c Near now.after → IsAsking w n.at.talk
      own_accepts e =
          let end_is : now.after.near ≡ end_of a.visit.node e.stream = same_Some now.after.near (end_of a.visit.node e.stream) e.ends in
          own_asked (ap (λ (x : StreamEnd). x.node) end_is) (record {
            place = e.accepts.handle.place;
            session = e.accepts.session;
            at = state_slot begun.sessions e.accepts.handle e.accepts.session e.accepts.says.there;
            on = e.accepts.on ∙ sym (ap (λ (x : StreamEnd). x.number) end_is);
            going = e.accepts.says.going;
          })

      accepts : AcceptedBy y Near now.after → AcceptedBy w Near now.after ⊎ IsAsking w n.at.talk
      accepts e = by_now (accepted_now w y a c b Near now.after e) where
        by_now : AcceptedBy w Near now.after ⊎ AcceptsNow w y a c Near now.after → AcceptedBy w Near now.after ⊎ IsAsking w n.at.talk
        by_now (inl before) = inl before
        by_now (inr now) = inr (own_accepts now)

      -- a stream that the node dials next wasn't there
      none_next : (stream : ℕ) → now.after.near.node ≡ a.visit.node → stream ≡ now.after.near.number → stream ≡ 2 * begun.streams.dialled → ⊥
      none_next stream same number next =
          below n.at.talk.near.number a.visit.seat.core.streams.dialled begun.streams.dialled stream now.after.near.number
          (every_at (λ (t : StreamState). t.near.node ≡ a.visit.node → t.near.number < 2 * a.visit.seat.core.streams.dialled) w.streams (l.ready.next s w r a.visit.node a.visit.seat a.here) n.at.place n.at.talk n.at.stands
          (ap (λ (x : StreamEnd). x.node) (sym near_is) ∙ same)) (ap (λ (x : StreamEnd). x.number) near_is) number next (beginnings_end a.visit.seat.core c.now).0.dialled where
            below : (k d e i j : ℕ) → k < 2 * d → j ≡ k → i ≡ j → i ≡ 2 * e → e ≡ d → ⊥
            below k d e i j lt f g h m = omega (arith, lt, f, g, h, m)

      asked : IsAsking y now.after → IsAsking w n.at.talk
      asked e = by_node (cases_eq now.after.near.node a.visit.node) where
        by_live : now.after.near.node ≡ a.visit.node → IsGoingOn begun.sessions e.session.stream ⊎ (e.session.stream ≡ 2 * begun.streams.dialled) → IsAsking w n.at.talk
        by_live same (inl goes) = own_asked same (subst (λ k. IsGoingOn begun.sessions k) e.stream goes)
        by_live same (inr next) = absurd (none_next e.session.stream same e.stream next)

        seat_is : now.after.near.node ≡ a.visit.node → e.seat ≡ seat_with a.core a.agent
        seat_is same = same_Some e.seat (seat_with a.core a.agent) (sym e.here ∙ (ap (λ k. seat_at y k) same ∙ a.there))

        by_node : (now.after.near.node ≡ a.visit.node) ⊎ (now.after.near.node ≡ a.visit.node → ⊥) → IsAsking w n.at.talk
        by_node (inr apart) =
            asked_before e.seat (sym (a.others now.after.near.node apart) ∙ e.here) (sym (same_is_present w y now.after.near.node a.lives) ∙ e.present) (asking_on y now.after e)
        by_node (inl same) =
            by_live same
            (b.live e.place e.session (subst (λ (z : Seat). IsAt z.core.sessions e.place e.session) (seat_is same) e.at) (asking_role l s y q n.at.place now.after now.stands negotiation name e) (none_goes_on e.session.view e.going))

      pub agent_unaccepted : StaysUnaccepted y o
      agent_unaccepted = after_step accepts asked
