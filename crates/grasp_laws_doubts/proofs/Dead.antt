-- Where the call of a doubter settles a prefix, that is accepted never on the stream for which it is listed, and so it is dead; and the node to which
-- it was offered has answered so.
use Rattle.std.proofs.Common.{◌≡◌, ◌⊎◌, inl, inr, refl, sym, ap, ◌∙◌, subst, arith, ℕ, ◌+◌, ◌*◌, ◌-◌, ◌<◌, ◌≤◌, ◌==◌, ◌&&◌, ◌||◌, Bool, true, false, cond, List, [], ◌∷◌, Contains, Option, None, Some, slice_get, slice_set}
use Rattle.std.proofs.lemmas.Bool.{or_right, true≢false}
use Rattle.std.proofs.lemmas.Option.{none-some, same_Some}
use Rattle.grasp_agent.specs.States.{AgentState}
use Rattle.grasp_doubter.specs.Calls as doubter
use Rattle.grasp_doubter.specs.Questions.{doubt_name}
use Rattle.grasp_doubter.specs.Replies.{after_take}
use Rattle.grasp_doubter.specs.States.{DoubterState, answering_duty, ask_session, asking_duty, duty_at, duty_of}
use Rattle.grasp_doubter.specs.declared.asking.Ask.{Ask}
use Rattle.grasp_doubter.specs.declared.duty.DoubtAct.{DoubtAct}
use Rattle.grasp_doubter.specs.declared.duty.DoubtDuty.{DoubtDuty}
use Rattle.grasp_doubter.specs.declared.duty.DoubtDuty.TheVariants as duty
use Rattle.grasp_doubter.specs.declared.seen.Sent.{Sent}
use Rattle.grasp_session.specs.Conversation.{Said, accepted_by, strip}
use Rattle.grasp_session.specs.Laws.{OutcomeSays}
use Rattle.grasp_session.specs.Messages.{Far, Near, Side, is_acceptance, is_invalid, is_side}
use Rattle.grasp_session.specs.Runs.{WasMade}
use Rattle.grasp_session.specs.Says.{IsAt}
use Rattle.grasp_session.specs.Sessions.{SessionState, left, session_at}
use Rattle.grasp_session.specs.Transcript.{is_mine, outcome_of}
use Rattle.grasp_types.specs.Prefix.{AddressBlock as Prefix}
use Rattle.grasp_types.specs.declared.objective.Objective.{Objective}
use Rattle.grasp_types.specs.declared.reply.ApiAnswer.TheVariants as answer
use Rattle.grasp_types.specs.declared.reply.Reply.TheVariants as reply
use Rattle.grasp_types.specs.declared.call.Call.TheVariants as call
use Rattle.grasp_types.specs.declared.session.By.TheVariants.{Mine, Theirs}
use Rattle.grasp_types.specs.declared.session.Handle.{Handle}
use Rattle.grasp_types.specs.declared.session.Kind.TheVariants.{Negotiation}
use Rattle.grasp_types.specs.declared.session.Outcome.{Outcome}
use Rattle.grasp_types.specs.declared.session.Outcome.TheVariants as outcome
use Rattle.grasp_types.specs.declared.session.Progress.TheVariants as progress
use Rattle.grasp_model_node.specs.Begin.{begin}
use Rattle.grasp_model_node.specs.Node.{NodeState}
use Rattle.grasp_model_node.specs.Step.{Calls}
use Rattle.grasp_model_network.specs.Accepting.{has_accepted}
use Rattle.grasp_model_network.specs.Runs.{IsReached}
use Rattle.grasp_model_network.specs.Sending as network
use Rattle.grasp_model_network.specs.Sending.{seat_with}
use Rattle.grasp_model_network.specs.Setting.{Setting, numbered}
use Rattle.grasp_model_network.specs.Settling.{IsDead}
use Rattle.grasp_model_network.specs.Streams.{StreamEnd, StreamState, end_at}
use Rattle.grasp_model_network.specs.Visits.{Choice}
use Rattle.grasp_model_network.specs.World.{Offered, Seat, WorldState, end_of, member_of, present_life, seat_at}
use Rattle.grasp_model_doubts.specs.Answered.{IsQuestion, WasAnswered}
use Rattle.grasp_model_doubts.specs.World.{with_doubter}
use Rattle.grasp_laws_agents.proofs.GoingOn.{heard_alike}
use Rattle.grasp_laws_agents.proofs.Places.{owned_at}
use Rattle.grasp_laws_agents.specs.GoingOn.{OnlyHeard}
use Rattle.grasp_laws_delivery.proofs.Worlds.{reached_in_order}
use Rattle.grasp_laws_negotiation.specs.Negotiations.{IsNegotiation}
use Rattle.grasp_laws_negotiation.specs.Streams.{HasItsStream}
use Rattle.grasp_laws_network.specs.Views.{view_at, view_in}
use Rattle.grasp_laws_node.proofs.Meaning.Acts.{number_at}
use Rattle.grasp_laws_node.specs.Means.{PollFacts}
use Rattle.grasp_laws_prefixes.proofs.Asked.{placed_one}
use Rattle.grasp_laws_prefixes.proofs.Listing.{first_in}
use Rattle.grasp_laws_prefixes.proofs.NeverAccepted.{quiet_unaccepted}
use Rattle.grasp_laws_prefixes.proofs.OneNode.{seat_there}
use Rattle.grasp_laws_prefixes.proofs.Places.{same_place}
use Rattle.grasp_laws_prefixes.proofs.Speech.{same_requested}
use Rattle.grasp_laws_prefixes.proofs.Standing.{Stays, StaysUnaccepted, WorldGoesOn}
use Rattle.grasp_laws_prefixes.specs.Apart.{offer_on}
use Rattle.grasp_laws_prefixes.specs.Known.{HasInDoubt}
use Rattle.grasp_session.proofs.Tables.{state_slot}
use Rattle.grasp_laws_doubts.proofs.Answered.{answered_on}
use Rattle.grasp_laws_doubts.proofs.Asking.{AnswersNever, AskStands, AskedFor, AskedStand, AsksStand, HasDecided, IsAskOf, IsAskTalk, accepted, answers_on, ask_on, ask_talk}
use Rattle.grasp_laws_doubts.proofs.Called.{decided_before, there}
use Rattle.grasp_laws_doubts.proofs.Calling.{IsCalled}
use Rattle.grasp_laws_doubts.proofs.Changing.{owner_at}
use Rattle.grasp_laws_doubts.proofs.Decisions.{PlansStand, not_pending}
use Rattle.grasp_laws_doubts.proofs.Offering.{one_number}
use Rattle.grasp_laws_doubts.proofs.Opening.{PlansLast, dialled_on, near_stays, quiet_plans}
use Rattle.grasp_laws_doubts.proofs.Quiet.{IsQuiet}
use Rattle.grasp_laws_doubts.proofs.Taking.{IsSettling, settles_so, told_accepted}
use Rattle.grasp_laws_doubts.specs.Grounds.{Grounds}
use Rattle.grasp_laws_doubts.specs.Opening.{IsDialledBy}
use Rattle.grasp_laws_doubts.specs.Remembering.{RemembersAll}
use Rattle.grasp_laws_doubts.specs.Sending.{IsOfferedTo, SentStand}
use Rattle.grasp_laws_doubts.specs.Standing.{ServeStand}

-- ---- the duty and the call

-- how a question stands is asked only where it has this session
duty_asks : (o : Option Handle) (hs : List Handle) (k : ℕ) (h : Handle) → duty_at o hs k ≡ duty.Ask h → o ≡ Some h
duty_asks o hs k h e = by_first (k == 0) e where
  none_answering : (place : ℕ) → answering_duty hs place ≡ duty.Ask h → ⊥
  none_answering place f = by_entry (slice_get hs place) refl where
    by_entry : (x : Option Handle) → slice_get hs place ≡ x → ⊥
    by_entry None is = let g = f in let i = is in absurd (cc)
    by_entry (Some y) is = let g = f in let i = is in absurd (cc)

  by_asked : (o : Option Handle) → asking_duty o hs (k - 1) ≡ duty.Ask h → o ≡ Some h
  by_asked None f = absurd (none_answering (k - 1) f)
  by_asked (Some x) f = by_place (k - 1 == 0) f where
    by_place : (b : Bool) → cond b (duty.Ask x) (answering_duty hs (k - 1 - 1)) ≡ duty.Ask h → Some x ≡ Some h
    by_place true g = cc
    by_place false g = absurd (none_answering (k - 1 - 1) g)

  by_first : (b : Bool) → cond b duty.Listen (asking_duty o hs (k - 1)) ≡ duty.Ask h → o ≡ Some h
  by_first true f = absurd (cc)
  by_first false f = by_asked o f

-- then the doubter asks that
poll_next : (d : DoubterState) (k : Ask) (h : Handle) → d.act ≡ None → d.ask ≡ Some k → k.session ≡ Some h → duty_of d ≡ duty.Ask h → doubter.next_call d ≡ call.Poll h
unfolding doubter.next_call
poll_next d k h act ask session is =
    ap (λ o. doubter.serving_call o d.ask (duty_of d)) act
    ∙ (ap (λ o. doubter.asking_call o (duty_of d)) ask ∙ (ap (λ o. doubter.asking_call (Some (record k { session = o })) (duty_of d)) session ∙ ap (λ u. doubter.duty_call u) is))

-- an acceptance that ends a conversation was said in it
ends_accepted : (side : Side) (c : List Said) → accepted_by side (strip c) ≡ true → has_accepted side c ≡ true
ends_accepted side [] e = e
ends_accepted side (x ∷ c) e = by_test (is_invalid x.message) e (ends_accepted side c) where
  either : (b d : Bool) → b ≡ true → (b || d) ≡ true
  either true d f = refl
  either false d f = absurd (true≢false (sym f))

  by_test : (b : Bool) → accepted_by side (cond b (strip c) (x ∷ strip c)) ≡ true → (accepted_by side (strip c) ≡ true → has_accepted side c ≡ true)
      → ((is_side side x.side && is_acceptance x.message) || has_accepted side c) ≡ true
  by_test true f rest = or_right (is_side side x.side && is_acceptance x.message) (has_accepted side c) (rest f)
  by_test false f rest = either (is_side side x.side && is_acceptance x.message) (has_accepted side c) f

-- ---- the prefix

module _ (l : Grounds) (s : Setting) (w y : WorldState) (ds : List DoubterState) (r : IsReached s w) (q : IsReached s y) (plans : PlansLast w y) (goes : WorldGoesOn w y) (different : PlansStand y)
    (serves : ServeStand w) (serves_now : ServeStand y) (sent : SentStand w ds) (asked : AskedStand w ds) (node : ℕ) (seat : Seat) (c : Choice) (here : seat_at w node ≡ Some seat) (d : DoubterState)
    (is : numbered ds node ≡ Some d) (put : y.seats ≡ slice_set w.seats (node - 1) (seat_with c.after seat.agent)) (address : d.address ≡ c.after.plan.address) (remembers : RemembersAll c.after.sessions d)
    (called : IsCalled 2 doubt_name seat.core c.after (doubter.next_call d) c.reply) (all : AsksStand w ds) (p : Prefix) (settles : (after_take d seat.agent c.reply).settled ≡ Some p) where
  t : IsSettling d c.reply p
  t = settles_so d seat.agent c.reply p settles

  abbrev k : Ask
  k = t.ask

  abbrev h : Handle
  h = t.handle

  now_at : seat_at y node ≡ Some (seat_with c.after seat.agent)
  now_at = there l s w y ds r q plans goes different serves serves_now sent asked node seat c here d is put address remembers called

  abbrev begun_node : NodeState
  begun_node = begin seat.core called.now

  session_is : k.session ≡ Some h
  session_is = sym (ap ask_session t.ask_is) ∙ duty_asks (ask_session d.ask) d.answering d.cursor h t.duty_is

  calls : Calls begun_node 2 (call.Poll h) (told_accepted t.objective) c.after
  calls =
      subst (λ x. Calls begun_node 2 x (told_accepted t.objective) c.after) (poll_next d k h t.act t.ask_is session_is t.duty_is)
      (subst (λ x. Calls begun_node 2 (doubter.next_call d) x c.after) t.told called.calls)

  facts : PollFacts begun_node 2 h (answer.Polled (progress.Ended (outcome.Agreed Theirs t.objective))) c.after
  facts =
      subst (PollFacts begun_node 2 h (answer.Polled (progress.Ended (outcome.Agreed Theirs t.objective)))) (sym calls.1)
      (l.prefixes.means.polls begun_node 2 h (answer.Polled (progress.Ended (outcome.Agreed Theirs t.objective))) calls.0)

  -- the session of the question, when the call was made
  abbrev x : SessionState
  x = facts.session

  over : outcome_of x.view ≡ Some (outcome.Agreed Theirs t.objective)
  over = by_outcome (outcome_of x.view) refl where
    by_mine : (b : Bool) → is_mine x.view ≡ b → outcome_of x.view ≡ None → ⊥
    by_mine true m e = let f = (facts.turn e m).0 in absurd (cc)
    by_mine false m e = let f = (facts.waiting e m).0 in absurd (cc)

    same_outcome : (e : Outcome) → answer.Polled (progress.Ended (outcome.Agreed Theirs t.objective)) ≡ answer.Polled (progress.Ended e) → e ≡ outcome.Agreed Theirs t.objective
    same_outcome e f = cc

    by_outcome : (o : Option Outcome) → outcome_of x.view ≡ o → o ≡ Some (outcome.Agreed Theirs t.objective)
    by_outcome None e = absurd (by_mine (is_mine x.view) refl e)
    by_outcome (Some z) e = ap (λ o. Some o) (same_outcome z (facts.ended z e).0)

  at : session_at begun_node.sessions h ≡ Some x
  at = owned_at begun_node.sessions 2 h x facts.holds.owned

  owner : x.owner ≡ 2
  owner = owner_at begun_node.sessions 2 h x facts.holds.owned

  made : WasMade c.after.sessions x
  made = inr (subst (λ (m : NodeState). Contains m.sessions.gone x) (sym (facts.ended (outcome.Agreed Theirs t.objective) over).1) (first_in x begun_node.sessions.gone))

  -- it is the one in which the question was requested
  a : AskStands w ds node seat.core.sessions k h
  a = all node seat here d is k h t.ask_is session_is

  before : (z : SessionState) × IsAt seat.core.sessions h.place z × OnlyHeard z x
  before = (l.begins 2 doubt_name seat.core called.now (omega arith)).0.were h.place x (state_slot begun_node.sessions h x at) owner

  same_session : before.0 ≡ a.of.session
  same_session =
      one_number seat.core.sessions called.sound.sessions h.place before.0 a.of.session before.1 a.of.made (sym before.2.number ∙ (number_at begun_node.sessions h x at ∙ sym a.of.number))

  role : x.view.role ≡ Near
  role = (heard_alike before.0.view x.view before.2.view).role ∙ (ap (λ (z : SessionState). z.view.role) same_session ∙ a.of.role)

  kind : x.view.kind ≡ Negotiation
  kind = (heard_alike before.0.view x.view before.2.view).kind ∙ (ap (λ (z : SessionState). z.view.kind) same_session ∙ a.of.kind)

  on : x.stream ≡ a.of.session.stream
  on = before.2.stream ∙ ap (λ (z : SessionState). z.stream) same_session

  -- the stream of the question, then
  abbrev v : Stays y.streams a.of.place a.of.talk
  v = goes.streams a.of.place a.of.talk a.of.stands

  near : v.after.near ≡ end_of node x.stream
  near = near_stays y.streams a.of.place a.of.talk v ∙ (a.of.near ∙ ap (λ m. end_of node m) (sym on))

  stream : HasItsStream y node x
  stream = l.prefixes.streams.each s y q node (seat_with c.after seat.agent) now_at x made

  side : stream.side ≡ Near
  side = sym stream.role ∙ role

  talk : stream.talk ≡ v.after
  talk =
      same_Some stream.talk v.after
      (sym stream.stands
      ∙ (ap (λ m. slice_get y.streams m)
      (same_place l.prefixes.ready s y q (end_of node x.stream) stream.place a.of.place stream.talk v.after stream.side Near stream.stands stream.ends v.stands (ap (λ (e : StreamEnd). Some e) near)) ∙ v.stands))

  negotiation : IsNegotiation v.after
  negotiation = subst IsNegotiation talk (stream.request kind)

  saw : view_at y v.after Near ≡ Some x.view
  saw = ap (λ i. view_at y v.after i) (sym side) ∙ (ap (λ (u : StreamState). view_at y u stream.side) (sym talk) ∙ ap view_in stream.found)

  says : OutcomeSays Near v.after.said x.view (Some (outcome.Agreed Theirs t.objective))
  says = subst (λ o. OutcomeSays Near v.after.said x.view o) over ((l.prefixes.known s y q a.of.place v.after v.stands negotiation).outcomes Near x.view saw)

  answered : has_accepted Far v.after.said ≡ true
  answered = ends_accepted Far v.after.said says.1

  -- ---- the offer

  for : AskedFor seat d k
  for = asked node seat here d is k t.ask_is

  offered : IsOfferedTo w node (record { prefix = k.prefix; address = k.address })
  offered =
      (sent node seat here d is (record { prefix = k.prefix; address = k.address }) for.sent).offered (not_pending seat.agent k.prefix (l.prefixes.kept s w r node seat here) for.doubtful)

  listed : Contains y.offers (offer_on node k.prefix offered.place)
  listed = subst (λ (os : List Offered). Contains os (offer_on node k.prefix offered.place)) (sym goes.offers) offered.listed

  abbrev now_asks : IsAskOf y node c.after.sessions k h
  now_asks = ask_on w y goes.streams node seat.core.sessions c.after.sessions called.stay k h a.of

  asks_now : IsAskTalk k v.after
  asks_now = ask_talk l s y q node (seat_with c.after seat.agent) now_at k h now_asks

  -- in the network after the call, the prefix is never accepted, and whoever dialled the stream of its offer has answered so
  answers : AnswersNever y v.after (offer_on node k.prefix offered.place)
  answers =
      by_case
      (decided_before l s w y ds r q plans goes different serves serves_now sent asked node seat c here d is put address remembers called node seat here d is k t.ask_is a.of.place a.of.talk v.after a.of.stands v.stands
      (ask_talk l s w r node seat here k h a.of) asks_now (accepted answered)) where
        by_case : HasDecided w ds a.of.talk ⊎ ((place : ℕ) → Contains y.offers (offer_on node k.prefix place) → AnswersNever y v.after (offer_on node k.prefix place))
            → AnswersNever y v.after (offer_on node k.prefix offered.place)
        by_case (inl had) =
            let old : AnswersNever w a.of.talk (offer_on node k.prefix offered.place) = a.never offered.place offered.listed had in
            answers_on w y goes.streams a.of.place a.of.talk v.after a.of.stands v.stands (offer_on node k.prefix offered.place) old
            (quiet_unaccepted l.prefixes s w r y goes.streams (offer_on node k.prefix offered.place) old.unaccepted q goes)
        by_case (inr just) = just offered.place listed

  never : StaysUnaccepted y (offer_on node k.prefix offered.place)
  never = answers.unaccepted

  -- the stream of the offer, then, and who dialled it
  abbrev m : Stays y.streams offered.place offered.talk
  m = goes.streams offered.place offered.talk offered.stands

  by : IsDialledBy y m.after k.address
  by = dialled_on w y plans offered.talk m.after k.address (near_stays y.streams offered.place offered.talk m) offered.by

  answered_now : WasAnswered y (offer_on node k.prefix offered.place)
  answered_now = record {
    place = offered.place;
    talk = m.after;
    on = refl;
    stands = m.stands;
    requester = by.dialler;
    dialled = by.dialled;
    question_place = a.of.place;
    asking = v.after;
    asked = v.stands;
    later = a.later offered.place offered.listed;
    asker = ap (λ (e : StreamEnd). e.node) near;
    is = subst (λ x. IsQuestion x k.prefix v.after) (sym by.address) (record { opens = negotiation; asks = sym (same_requested v.after.said) ∙ asks_now.asks });
    far = answers.far;
    opened = answers.opened;
    answerer = answers.answerer ∙ ap (λ (u : StreamState). u.near.node) (placed_one y.streams (offer_on node k.prefix offered.place) answers.unaccepted.at offered.place m.after refl m.stands);
    accepted = answered;
  }

  -- so it is in a network to which that one goes on, quietly, of the offer of this prefix that is listed for the member
  pub settled_answered : (z : WorldState) → IsReached s z → IsQuiet y z → member_of z node ≡ node → (o : Offered) → Contains z.offers o → member_of z o.node ≡ node → o.prefix ≡ p → WasAnswered z o
  settled_answered z reached quiet member o has own same =
      subst (λ (x : Offered). WasAnswered z x) one (answered_on l s y z q reached quiet.goes.streams (quiet_plans y z quiet) (offer_on node k.prefix offered.place) answered_now)
    where
      still : Contains z.offers (offer_on node k.prefix offered.place)
      still = subst (λ (os : List Offered). Contains os (offer_on node k.prefix offered.place)) (sym quiet.goes.offers) listed

      one : offer_on node k.prefix offered.place ≡ o
      one = (l.offers s z reached).once (offer_on node k.prefix offered.place) o still has (member ∙ sym own) (t.prefix ∙ sym same)

  -- and so it is dead in a network to which that one goes on, quietly
  pub settled_dead : (z : WorldState) → IsReached s z → IsQuiet y z → present_life z node ≡ node → member_of z node ≡ node → IsDead z node p
  settled_dead z reached quiet present member =
      subst (λ m. IsDead z m p) member (subst (λ x. IsDead z (member_of z node) x) t.prefix (l.dead s z reached (offer_on node k.prefix offered.place) still u.at.place u.at.talk u.at.is u.at.stands doubt u.never))
    where
      u : StaysUnaccepted z (offer_on node k.prefix offered.place)
      u = quiet_unaccepted l.prefixes s y q z quiet.goes.streams (offer_on node k.prefix offered.place) never reached quiet.goes

      still : Contains z.offers (offer_on node k.prefix offered.place)
      still = subst (λ (os : List Offered). Contains os (offer_on node k.prefix offered.place)) (sym quiet.goes.offers) listed

      new : (m : Seat) × (seat_at z node ≡ Some m)
      new = seat_there y z quiet.goes.count node (seat_with c.after seat.agent) now_at

      doubtful : Contains new.0.agent.pool.doubtful k.prefix
      doubtful =
          let f = quiet.seats node new.0 new.1 in
          subst (λ (b : AgentState). Contains b.pool.doubtful k.prefix) (sym (f.2.agent ∙ ap (λ (m : Seat). m.agent) (same_Some f.0 (seat_with c.after seat.agent) (sym f.1 ∙ now_at)))) for.doubtful

      doubt : HasInDoubt z (present_life z (member_of z node)) k.prefix
      doubt = record { seat = new.0; here = ap (λ m. seat_at z m) (ap (λ m. present_life z m) member ∙ present) ∙ new.1; doubtful = doubtful }
