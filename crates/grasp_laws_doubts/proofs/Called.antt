-- What the call of a doubter makes of the questions in a network.
use Rattle.std.proofs.Common.{◌≡◌, ◌≢◌, ◌⊎◌, inl, inr, refl, sym, ap, ◌∙◌, subst, arith, ℕ, ◌+◌, ◌*◌, ◌-◌, ◌<◌, ◌≤◌, ◌||◌, Bool, true, false, List, Contains, Option, None, Some, get_or, length, slice_get, slice_set, slice_index_or}
use Rattle.std.proofs.lemmas.Bool.{cases_eq, or_cases, true≢false}
use Rattle.std.proofs.lemmas.List.{get_or-set_same}
use Rattle.std.proofs.lemmas.Option.{none-some, same_Some, slice_get_cases, slice_get_within}
use Rattle.grasp_agent.specs.Replies.{is_again}
use Rattle.grasp_doubter.specs.Calls as doubter
use Rattle.grasp_doubter.specs.Questions.{doubt_name, question_in, question_value}
use Rattle.grasp_doubter.specs.Replies.{after_take}
use Rattle.grasp_doubter.specs.States.{DoubterState, duty_of, is_unasked}
use Rattle.grasp_doubter.specs.declared.asking.Ask.{Ask}
use Rattle.grasp_doubter.specs.declared.duty.DoubtAct.{DoubtAct}
use Rattle.grasp_doubter.specs.declared.duty.DoubtDuty.{DoubtDuty}
use Rattle.grasp_session.specs.Messages.{Far, Near, is_acceptance}
use Rattle.grasp_session.specs.Runs.{WasMade}
use Rattle.grasp_session.specs.Says.{IsAt}
use Rattle.grasp_session.specs.Sessions.{SessionState, with_owner}
use Rattle.grasp_session.specs.Transcript.{message_of, opening, request_of}
use Rattle.grasp_types.specs.declared.address.Address.{Address}
use Rattle.grasp_types.specs.declared.objective.Objective.{Objective}
use Rattle.grasp_types.specs.declared.reply.ApiAnswer.TheVariants as answer
use Rattle.grasp_types.specs.declared.reply.Reply.TheVariants as reply
use Rattle.grasp_types.specs.declared.session.Handle.{Handle}
use Rattle.grasp_types.specs.declared.session.Kind.TheVariants.{Negotiation}
use Rattle.grasp_model_node.specs.Begin.{begin}
use Rattle.grasp_model_node.specs.Draws.{next_session}
use Rattle.grasp_model_node.specs.Node.{NodeState}
use Rattle.grasp_model_node.specs.SessionCalls.{after_request}
use Rattle.grasp_model_node.specs.Step.{Calls}
use Rattle.grasp_model_node.specs.Tests.{owned_flags}
use Rattle.grasp_model_network.specs.Runs.{IsReached}
use Rattle.grasp_model_network.specs.Sending.{seat_with}
use Rattle.grasp_model_network.specs.Setting.{Setting, numbered}
use Rattle.grasp_model_network.specs.Streams.{StreamEnd, StreamState, end_at}
use Rattle.grasp_model_network.specs.Visits.{Choice}
use Rattle.grasp_model_network.specs.World.{Offered, Seat, WorldState, end_of, seat_at}
use Rattle.grasp_model_doubts.specs.Answered.{question}
use Rattle.grasp_model_doubts.specs.World.{with_doubter}
use Rattle.grasp_laws_delivery.proofs.FromReady.{every_at}
use Rattle.grasp_laws_delivery.proofs.Worlds.{reached_in_order}
use Rattle.grasp_laws_negotiation.specs.Negotiations.{IsNegotiation}
use Rattle.grasp_laws_negotiation.specs.Streams.{HasItsStream}
use Rattle.grasp_laws_network.proofs.Here.{numbered_within}
use Rattle.grasp_laws_network.proofs.Lists.{numbered_put}
use Rattle.grasp_laws_network.proofs.Others.{put_elsewhere}
use Rattle.grasp_laws_network.proofs.Staying.{put_here}
use Rattle.grasp_laws_node.proofs.Beginning.{beginnings_end}
use Rattle.grasp_laws_node.proofs.Meaning.Acts.{number_at}
use Rattle.grasp_laws_node.specs.MeansRequests.{RequestFacts, having_asked, negotiable}
use Rattle.grasp_laws_owned.specs.Owned.{AreOwnedBy, GoOnBy}
use Rattle.grasp_laws_prefixes.proofs.Asking.{near_far}
use Rattle.grasp_laws_prefixes.proofs.NeverAccepted.{quiet_unaccepted}
use Rattle.grasp_laws_prefixes.proofs.Places.{same_place}
use Rattle.grasp_laws_prefixes.proofs.Speaking.{accepts}
use Rattle.grasp_laws_prefixes.proofs.Standing.{AllStay, Stays, WorldGoesOn}
use Rattle.grasp_laws_prefixes.specs.Apart.{offer_on}
use Rattle.grasp_laws_prefixes.specs.Known.{HasStream}
use Rattle.grasp_session.proofs.Tables.{state_slot}
use Rattle.grasp_laws_doubts.proofs.Answering.{IsAnswerOf, answer_accepts, answers}
use Rattle.grasp_laws_doubts.proofs.Asking.{AnswersNever, AskStands, AskedStand, AsksStand, HasDecided, IsAskOf, IsAskTalk, accepted, acts, answers_on, ask_on, ask_talk}
use Rattle.grasp_laws_doubts.proofs.Calling.{IsCalled}
use Rattle.grasp_laws_doubts.proofs.Changing.{IsLater, MadeStay, SaysBy, WasOwn, back_on, itself, later_then, own_was}
use Rattle.grasp_laws_doubts.proofs.Changing as changing
use Rattle.grasp_laws_doubts.proofs.Decisions.{PlansStand, never_there}
use Rattle.grasp_laws_doubts.proofs.Offering.{one_number}
use Rattle.grasp_laws_doubts.proofs.Opening.{PlansLast, near_stays}
use Rattle.grasp_laws_doubts.proofs.Spoken.{HasAnswered, IsAnswering, answered_by, was_answered, was_far}
use Rattle.grasp_laws_doubts.proofs.Taken.{WasAct, WasAsk, take_act, take_ask}
use Rattle.grasp_laws_doubts.proofs.Taken as taken
use Rattle.grasp_laws_doubts.specs.Grounds.{Grounds}
use Rattle.grasp_laws_doubts.specs.Remembering.{RemembersAll}
use Rattle.grasp_laws_doubts.specs.Sending.{SentStand}
use Rattle.grasp_laws_doubts.specs.Standing.{ServeStand}

module _ (l : Grounds) (s : Setting) (w y : WorldState) (ds : List DoubterState) (r : IsReached s w) (q : IsReached s y) (plans : PlansLast w y) (goes : WorldGoesOn w y) (different : PlansStand y)
    (serves : ServeStand w) (serves_now : ServeStand y) (sent : SentStand w ds) (asked : AskedStand w ds)
    -- whose doubter has called
    (node : ℕ) (seat : Seat) (c : Choice) (here : seat_at w node ≡ Some seat) (d : DoubterState) (is : numbered ds node ≡ Some d) (put : y.seats ≡ slice_set w.seats (node - 1) (seat_with c.after seat.agent))
    (address : d.address ≡ c.after.plan.address) (remembers : RemembersAll c.after.sessions d) (call : IsCalled 2 doubt_name seat.core c.after (doubter.next_call d) c.reply) where
  abbrev f : DoubterState
  f = (after_take d seat.agent c.reply).after

  abbrev es : List DoubterState
  es = with_doubter ds node f

  abbrev new : Seat
  new = seat_with c.after seat.agent

  least : 1 ≤ node
  least = (numbered_within w.seats node seat here).least

  pub there : seat_at y node ≡ Some new
  there = ap (λ xs. numbered xs node) put ∙ put_here w.seats node seat new here

  elsewhere : (n : ℕ) → n ≢ node → seat_at y n ≡ seat_at w n
  elsewhere n apart = ap (λ xs. numbered xs n) put ∙ put_elsewhere w.seats node n new least apart

  stay : AllStay w.streams y.streams
  stay = goes.streams

  -- the node when the step had begun
  abbrev n : NodeState
  n = begin seat.core call.now

  two : 0 < 2
  two = omega arith

  begun : GoOnBy 2 seat.core.sessions n.sessions × (AreOwnedBy 2 doubt_name seat.core.sessions → AreOwnedBy 2 doubt_name n.sessions)
  begun = l.begins 2 doubt_name seat.core call.now two

  -- ---- a session that answers

  -- it was there, and has accepted what it had; or the doubter's answer is what it says in it; or it has begun or was taken just now
  data WasBy {u : StreamState} (b : IsAnswering y u) : Type 0 where
    before : (z : Seat) → seat_at w b.node ≡ Some z → (x : SessionState) → WasMade z.core.sessions x → IsLater x b.session → accepts b.session.view ≡ accepts x.view → WasBy b
    answered : b.node ≡ node → (x : SessionState) → WasMade seat.core.sessions x → IsLater x b.session → (a : DoubtAct) → d.act ≡ Some a → x.number ≡ a.handle.number
        → (accepts b.session.view ≡ true → (a.accepts ≡ true) ⊎ (accepts x.view ≡ true)) → WasBy b
    began : b.node ≡ node → (h : Handle) → c.reply ≡ reply.Api (answer.Started h) → b.session.number ≡ h.number → accepts b.session.view ≡ false → WasBy b
    took : b.node ≡ node → (h : Handle) (from : Address) (o : Objective) → c.reply ≡ reply.Api (answer.Incoming h from o) → accepts b.session.view ≡ false → WasBy b

  module _ {u : StreamState} (b : IsAnswering y u) where
    own_by : (same : b.node ≡ node) → WasOwn 2 n c.after two (doubter.next_call d) c.reply b.session → WasBy b
    own_by same (changing.was x made later e) =
        let k = back_on 2 seat.core.sessions n.sessions begun.0 x made (sym later.owner ∙ b.owner) in
        before seat (ap (λ m. seat_at w m) same ∙ here) k.0 k.1 (later_then k.0 x b.session k.2 later) (e ∙ k.3)
    own_by same (changing.spoke h x said at later by e) =
        let k = back_on 2 seat.core.sessions n.sessions begun.0 x (inl (h.place, state_slot n.sessions h x at)) (sym later.owner ∙ b.owner) in
        let a : IsAnswerOf d h said = answers d h said by in
        answered same k.0 k.1 (later_then k.0 x b.session k.2 later) a.act a.is
        (sym k.2.number ∙ (number_at n.sessions h x at ∙ ap (λ (j : Handle). j.number) (sym a.handle)))
        (λ so_it_is. by_or k.0 a k.3 (or_cases (is_acceptance (message_of x.view said)) (accepts x.view) (sym e ∙ so_it_is)))
      where
        by_or : (z : SessionState) (a : IsAnswerOf d h said) → accepts x.view ≡ accepts z.view → (is_acceptance (message_of x.view said) ≡ true) ⊎ (accepts x.view ≡ true) → (a.act.accepts ≡ true) ⊎ (accepts z.view ≡ true)
        by_or z a same (inl so_it_is) = inl (answer_accepts d h said x.view a so_it_is)
        by_or z a same (inr so_it_is) = inr (sym same ∙ so_it_is)
    own_by same (changing.began h told number none) = began same h told number none
    own_by same (changing.took h x from o told at number free e) =
        took same h from o told (ap (λ (z : SessionState). accepts z.view) e ∙ ((begun.1 (serves node seat here).owned x (inl (h.place, at))).unsaid free).unaccepted)

    was_by : WasBy b
    was_by = by_node (cases_eq b.node node) where
      by_node : (b.node ≡ node) ⊎ (b.node ≡ node → ⊥) → WasBy b
      by_node (inr apart) = before b.seat (sym (elsewhere b.node apart) ∙ b.here) b.session b.made (itself b.session) refl
      by_node (inl same) =
          let seat_is : b.seat ≡ new = same_Some b.seat new (sym b.here ∙ (ap (λ m. seat_at y m) same ∙ there)) in
          own_by same (own_was 2 n c.after two (doubter.next_call d) c.reply call.change b.session (subst (λ (z : Seat). WasMade z.core.sessions b.session) seat_is b.made))

  -- ---- a question that was asked before

  module _ (giver : ℕ) (gives : Seat) (gives_here : seat_at w giver ≡ Some gives) (g : DoubterState) (it : numbered ds giver ≡ Some g) (k : Ask) (ask : g.ask ≡ Some k) (place : ℕ) (t u : StreamState)
      (stands : slice_get w.streams place ≡ Some t) (now : slice_get y.streams place ≡ Some u) (talk_before : IsAskTalk k t) (talk : IsAskTalk k u) where
    -- either the node that is asked had decided so, or it has just decided, and the prefix is accepted never
    abbrev WasDecided : Type 0
    WasDecided = HasDecided w ds t ⊎ ((at : ℕ) → Contains y.offers (offer_on giver k.prefix at) → AnswersNever y u (offer_on giver k.prefix at))

    module _ (b : IsAnswering y u) where
      far_before : (x : SessionState) → IsLater x b.session → u.far ≡ Some (end_of b.node x.stream)
      far_before x later = b.far ∙ ap (λ m. Some (end_of b.node m)) later.stream

      role_before : (x : SessionState) → IsLater x b.session → x.view.role ≡ Far
      role_before x later = sym later.role ∙ b.role

      abbrev by_before : (z : Seat) → seat_at w b.node ≡ Some z → (x : SessionState) → WasMade z.core.sessions x → IsLater x b.session → IsAnswering w t
      by_before z at x made later = record {
        node = b.node;
        seat = z;
        here = at;
        session = x;
        made = made;
        owner = sym later.owner ∙ b.owner;
        role = role_before x later;
        far = was_far l s w y r q stay place t u stands now b.node z at x made (role_before x later) (far_before x later);
      }

      said_before : (z : Seat) → seat_at w b.node ≡ Some z → (x : SessionState) → WasMade z.core.sessions x → IsLater x b.session → accepts x.view ≡ true → WasDecided
      said_before z at x made later so_it_is =
          inl (accepted (was_answered l s w y r q stay place t u stands now talk_before.negotiation b.node z at x made (role_before x later) so_it_is (far_before x later)))

      own_here : b.node ≡ node → seat_at w b.node ≡ Some seat
      own_here same = ap (λ m. seat_at w m) same ∙ here

      own_is : b.node ≡ node → numbered ds b.node ≡ Some d
      own_is same = ap (λ m. numbered ds m) same ∙ is

      -- it has accepted
      said_was : accepts b.session.view ≡ true → WasBy b → WasDecided
      said_was said (before z at x made later same) = said_before z at x made later (sym same ∙ said)
      said_was said (answered same x made later a act number or) = by_or (or said) where
        by_or : (a.accepts ≡ true) ⊎ (accepts x.view ≡ true) → WasDecided
        by_or (inl so_it_is) = inl (acts (by_before seat (own_here same) x made later) d a (own_is same) act so_it_is number)
        by_or (inr so_it_is) = said_before seat (own_here same) x made later so_it_is
      said_was said (began same h told number none) = absurd (true≢false (sym said ∙ none))
      said_was said (took same h from o told none) = absurd (true≢false (sym said ∙ none))

      -- its doubter is to accept, and was so before
      act_was : (a : DoubtAct) → b.node ≡ node → d.act ≡ Some a → is_again c.reply ≡ true → a.accepts ≡ true → b.session.number ≡ a.handle.number → WasBy b → WasDecided
      act_was a own act again so_it_is number (before z at x made later same) = inl (acts (by_before z at x made later) d a (own_is own) act so_it_is (sym later.number ∙ number))
      act_was a own act again so_it_is number (answered same x made later other act_is n or) = inl (acts (by_before seat (own_here same) x made later) d a (own_is own) act so_it_is (sym later.number ∙ number))
      act_was a own act again so_it_is number (began same h told n none) = absurd (true≢false (sym again ∙ ap is_again told))
      act_was a own act again so_it_is number (took same h from o told none) = absurd (true≢false (sym again ∙ ap is_again told))

      own_act : (a : DoubtAct) → b.node ≡ node → WasAct d seat.agent c.reply a → a.accepts ≡ true → b.session.number ≡ a.handle.number → WasDecided
      own_act a own (taken.again act again) so_it_is number = act_was a own act again so_it_is number (was_by b)
      own_act a own (taken.decided h from o told same) so_it_is number =
          inr (never_there l s w y ds r q stay plans goes different sent asked node seat c there d address remembers call h from o told (sym (ap (λ (x : DoubtAct). x.accepts) same) ∙ so_it_is)
          giver gives gives_here g it k ask place u now talk b own (number ∙ ap (λ (x : DoubtAct). x.handle.number) same))

    pub decided_before : HasDecided y es u → WasDecided
    decided_before (accepted e) =
        let a : HasAnswered y u = answered_by l s y q serves_now place u now talk.negotiation (ap (λ (o : Objective). o.name) talk.asks) e in said_was a.by a.said (was_by a.by)
    decided_before (acts b e a at act so_it_is number) = by_put (numbered_put ds node b.node f e least at) where
      by_put : ((b.node ≡ node) × (f ≡ e)) ⊎ ((b.node ≢ node) × (numbered ds b.node ≡ Some e)) → WasDecided
      by_put (inl p) = own_act b a p.0 (take_act d seat.agent c.reply a (ap (λ (z : DoubterState). z.act) p.1 ∙ act)) so_it_is number
      by_put (inr p) = inl (acts (by_before b b.seat (sym (elsewhere b.node p.0) ∙ b.here) b.session b.made (itself b.session)) e a p.1 act so_it_is number)

  -- the sessions of agent 2 that were made
  made_stay : (m : ℕ) (z : Seat) → seat_at y m ≡ Some z → (x : Seat) × (seat_at w m ≡ Some x) × MadeStay 2 x.core.sessions z.core.sessions
  made_stay m z at = by_node (cases_eq m node) where
    by_node : (m ≡ node) ⊎ (m ≡ node → ⊥) → (x : Seat) × (seat_at w m ≡ Some x) × MadeStay 2 x.core.sessions z.core.sessions
    by_node (inl same) = (
      seat,
      ap (λ k. seat_at w k) same ∙ here,
      subst (λ (v : Seat). MadeStay 2 seat.core.sessions v.core.sessions) (same_Some new z (sym there ∙ (ap (λ k. seat_at y k) (sym same) ∙ at))) call.stay,
    )
    by_node (inr apart) = (z, sym (elsewhere m apart) ∙ at, λ x made own. (x, made, itself x))

  old_stands : (all : AsksStand w ds) (m : ℕ) (z : Seat) → seat_at y m ≡ Some z → (g : DoubterState) → numbered ds m ≡ Some g → (k : Ask) (h : Handle) → g.ask ≡ Some k → k.session ≡ Some h
      → AskStands y es m z.core.sessions k h
  old_stands all m z at g it k h ask session = record { of = now; later = λ place listed. a.later place (was_listed place listed); never = never } where
    x : (x : Seat) × (seat_at w m ≡ Some x) × MadeStay 2 x.core.sessions z.core.sessions
    x = made_stay m z at

    a : AskStands w ds m x.0.core.sessions k h
    a = all m x.0 x.1 g it k h ask session

    now : IsAskOf y m z.core.sessions k h
    now = ask_on w y stay m x.0.core.sessions z.core.sessions x.2 k h a.of

    now_stands : slice_get y.streams a.of.place ≡ Some now.talk
    now_stands = now.stands

    was_listed : (place : ℕ) → Contains y.offers (offer_on m k.prefix place) → Contains w.offers (offer_on m k.prefix place)
    was_listed place listed = subst (λ (os : List Offered). Contains os (offer_on m k.prefix place)) goes.offers listed

    never : (place : ℕ) → Contains y.offers (offer_on m k.prefix place) → HasDecided y es now.talk → AnswersNever y now.talk (offer_on m k.prefix place)
    never place listed decided =
        by_case
        (decided_before m x.0 x.1 g it k ask a.of.place a.of.talk now.talk a.of.stands now_stands (ask_talk l s w r m x.0 x.1 k h a.of) (ask_talk l s y q m z at k h now) decided) where
          by_case : HasDecided w ds a.of.talk ⊎ ((place : ℕ) → Contains y.offers (offer_on m k.prefix place) → AnswersNever y now.talk (offer_on m k.prefix place)) → AnswersNever y now.talk (offer_on m k.prefix place)
          by_case (inl had) =
              let old : AnswersNever w a.of.talk (offer_on m k.prefix place) = a.never place (was_listed place listed) had in
              answers_on w y stay a.of.place a.of.talk now.talk a.of.stands now_stands (offer_on m k.prefix place) old
              (quiet_unaccepted l.prefixes s w r y stay (offer_on m k.prefix place) old.unaccepted q goes)
          by_case (inr just) = just place listed

  -- ---- a question that has just been requested

  module _ (b : Ask) (h : Handle) (none : d.act ≡ None) (was : d.ask ≡ Some b) (un : is_unasked (Some b) ≡ true) (told : c.reply ≡ reply.Api (answer.Started h)) where
    abbrev k : Ask
    k = record b { session = Some h }

    request_call : (u : DoubtDuty) → doubter.asking_call (Some b) u ≡ doubter.ask_call b
    request_call u = by_session b.session un where
      by_session : (o : Option Handle) → is_unasked (Some (record b { session = o })) ≡ true → doubter.asking_call (Some (record b { session = o })) u ≡ doubter.ask_call b
      by_session None e = refl
      by_session (Some x) e = absurd (true≢false (sym e))

    call_is : doubter.next_call d ≡ doubter.ask_call b
    unfolding doubter.next_call
    call_is = ap (λ o. doubter.serving_call o d.ask (duty_of d)) none ∙ (ap (λ o. doubter.asking_call o (duty_of d)) was ∙ request_call (duty_of d))

    calls : Calls n 2 (doubter.ask_call b) (reply.Api (answer.Started h)) c.after
    calls = subst (λ x. Calls n 2 x (reply.Api (answer.Started h)) c.after) call_is (subst (λ x. Calls n 2 (doubter.next_call d) x c.after) told call.calls)

    facts : RequestFacts n 2 doubt_name (question_value b.address b.prefix) 1 60000 false b.peer (answer.Started h) c.after
    facts =
        subst (RequestFacts n 2 doubt_name (question_value b.address b.prefix) 1 60000 false b.peer (answer.Started h)) (sym calls.1)
        (l.prefixes.means.requests n 2 doubt_name (question_value b.address b.prefix) 1 60000 false b.peer (answer.Started h) call.sound_begun calls.0)

    abbrev started : SessionState
    started = record {
      number = n.sessions.made + 1;
      owner = 2;
      stream = 2 * n.streams.dialled;
      view = opening Negotiation Near 60000 n.reading (next_session n) (negotiable doubt_name facts.negotiates.flags (question_value b.address b.prefix) 1 false);
    }

    handle_is : facts.handle ≡ h
    handle_is = same_handle facts.told where
      same_handle : {i : Handle} → answer.Started h ≡ answer.Started i → i ≡ h
      same_handle e = cc

    started_at : IsAt c.after.sessions facts.handle.place started
    started_at =
        ap (λ (m : NodeState). slice_index_or m.sessions.places facts.handle.place None) facts.leads ∙ get_or-set_same n.sessions.places facts.handle.place (Some started) None facts.starts.place

    started_number : started.number ≡ h.number
    started_number = sym facts.starts.number ∙ ap (λ (i : Handle). i.number) handle_is

    flags : facts.negotiates.flags ≡ 2
    flags = same_Some facts.negotiates.flags 2 (sym facts.negotiates.own ∙ owned) where
      owned : owned_flags n 2 doubt_name ≡ Some 2
      owned = ap (λ g. owned_flags (record n { registrations = g }) 2 doubt_name) (beginnings_end seat.core call.now).0.registrations ∙ (serves node seat here).serves.flags

    request : request_of started.view ≡ question b.address b.prefix
    request = ap (λ g. negotiable doubt_name g (question_value b.address b.prefix) 1 false) flags

    stream : HasItsStream y node started
    stream = l.prefixes.streams.each s y q node new there started (inl (facts.handle.place, started_at))

    near : stream.talk.near ≡ end_of node started.stream
    near = same_Some stream.talk.near (end_of node started.stream) (ap (λ i. end_at stream.talk i) stream.role ∙ stream.ends)

    abbrev of : IsAskOf y node c.after.sessions k h
    of = record {
      session = started;
      made = inl (facts.handle.place, started_at);
      number = started_number;
      owner = refl;
      role = refl;
      kind = refl;
      request = request;
      place = stream.place;
      talk = stream.talk;
      stands = stream.stands;
      near = near;
    }

    -- no stream that was there stands at its place
    place_new : (t : StreamState) → slice_get w.streams stream.place ≡ Some t → ⊥
    place_new t stands =
        let u : Stays y.streams stream.place t = stay stream.place t stands in
        let dialled : t.near ≡ end_of node started.stream
        = sym (near_stays y.streams stream.place t u) ∙ (ap (λ (v : StreamState). v.near) (same_Some u.after stream.talk (sym u.stands ∙ stream.stands)) ∙ near) in
        let below : t.near.number < 2 * seat.core.streams.dialled =
        every_at (λ (v : StreamState). v.near.node ≡ node → v.near.number < 2 * seat.core.streams.dialled) w.streams (l.prefixes.ready.next s w r node seat here) stream.place t stands
        (ap (λ (v : StreamEnd). v.node) dialled) in
        let number : t.near.number ≡ 2 * n.streams.dialled = ap (λ (v : StreamEnd). v.number) dialled in
        let begun_dialled : n.streams.dialled ≡ seat.core.streams.dialled = (beginnings_end seat.core call.now).0.dialled in
        omega (arith, below, number, begun_dialled)

    -- and so each offer is for one that was dialled before
    later : (place : ℕ) → Contains y.offers (offer_on node k.prefix place) → place < stream.place
    later place listed = by_streams ((l.offers s w r).streams (offer_on node k.prefix place) (subst (λ (os : List Offered). Contains os (offer_on node k.prefix place)) goes.offers listed)) where
      by_place : place < length w.streams → place < stream.place
      by_place within = by_case (slice_get_cases w.streams stream.place).1 where
        by_case : ((t : StreamState) × (stream.place < length w.streams) × (slice_get w.streams stream.place ≡ Some t) × (get_or w.streams stream.place t ≡ t)) ⊎ ((length w.streams ≤ stream.place) × (slice_get w.streams stream.place ≡ None))
            → place < stream.place
        by_case (inl p) = absurd (place_new p.0 p.2)
        by_case (inr p) = let past = p.0 in omega (arith, within, past)

      by_streams : HasStream w (offer_on node k.prefix place) ⊎ (Some place ≡ None) → place < stream.place
      by_streams (inl h) = by_place (slice_get_within w.streams place h.talk (ap (λ m. slice_get w.streams m) (same_Some place h.place h.is) ∙ h.stands))
      by_streams (inr none) = absurd (none-some place (sym none))

    -- no session that was there answers on this stream
    module _ (a : IsAnswering y stream.talk) where
      not_before : (z : Seat) → seat_at w a.node ≡ Some z → (x : SessionState) → WasMade z.core.sessions x → IsLater x a.session → ⊥
      not_before z at x made later = from (l.prefixes.streams.each s w r a.node z at x made) where
        from : HasItsStream w a.node x → ⊥
        from j =
            let side : j.side ≡ Far = sym j.role ∙ (sym later.role ∙ a.role) in
            let u : Stays y.streams j.place j.talk = stay j.place j.talk j.stands in
            let far : end_at stream.talk Far ≡ Some (end_of a.node x.stream) = a.far ∙ ap (λ m. Some (end_of a.node m)) later.stream in
            let same : j.place ≡ stream.place =
            same_place l.prefixes.ready s y q (end_of a.node x.stream) j.place stream.place u.after stream.talk j.side Far u.stands (u.ends j.side (end_of a.node x.stream) j.ends) stream.stands far in
            let talk : u.after ≡ stream.talk = same_Some u.after stream.talk (sym u.stands ∙ (ap (λ m. slice_get y.streams m) same ∙ stream.stands)) in
            let dialled : j.talk.near ≡ end_of node started.stream = sym (near_stays y.streams j.place j.talk u) ∙ (ap (λ (v : StreamState). v.near) talk ∙ near) in
            let below : j.talk.near.number < 2 * seat.core.streams.dialled =
            every_at (λ (v : StreamState). v.near.node ≡ node → v.near.number < 2 * seat.core.streams.dialled) w.streams (l.prefixes.ready.next s w r node seat here) j.place j.talk j.stands
            (ap (λ (v : StreamEnd). v.node) dialled) in
            let number : j.talk.near.number ≡ 2 * n.streams.dialled = ap (λ (v : StreamEnd). v.number) dialled in
            let begun_dialled : n.streams.dialled ≡ seat.core.streams.dialled = (beginnings_end seat.core call.now).0.dialled in
            omega (arith, below, number, begun_dialled)

      none_answers : WasBy a → ⊥
      none_answers (before z at x made later same) = not_before z at x made later
      none_answers (answered same x made later act act_is number or) = not_before seat (ap (λ m. seat_at w m) same ∙ here) x made later
      none_answers (began same i told_now number unsaid) =
          let seat_is : a.seat ≡ new = same_Some a.seat new (sym a.here ∙ (ap (λ m. seat_at y m) same ∙ there)) in
          let one : started ≡ a.session =
          one_number c.after.sessions ((reached_in_order l.prefixes.ties s y q).sound node new there).0.sessions facts.handle.place started a.session started_at
          (subst (λ (z : Seat). WasMade z.core.sessions a.session) seat_is a.made) (started_number ∙ (ap (λ (j : Handle). j.number) (same_handle i (sym told ∙ told_now)) ∙ sym number)) in
          near_far (ap (λ (z : SessionState). z.view.role) one ∙ a.role)
        where
          same_handle : (i : Handle) → reply.Api (answer.Started h) ≡ reply.Api (answer.Started i) → h ≡ i
          same_handle i e = cc
      none_answers (took same i from o told_now unsaid) = differ (sym told ∙ told_now) where
        differ : reply.Api (answer.Started h) ≡ reply.Api (answer.Incoming i from o) → ⊥
        differ e = absurd (cc)

    new_stands : AskStands y es node c.after.sessions k h
    new_stands = record { of = of; later = later; never = λ place listed decided. absurd (none_decided decided) } where
      talks : IsAskTalk k stream.talk
      talks = ask_talk l s y q node new there k h of

      none_decided : HasDecided y es stream.talk → ⊥
      none_decided (accepted e) =
          let a : HasAnswered y stream.talk = answered_by l s y q serves_now stream.place stream.talk stream.stands talks.negotiation (ap (λ (o : Objective). o.name) talks.asks) e in
          none_answers a.by (was_by a.by)
      none_decided (acts a e x at act so_it_is number) = none_answers a (was_by a)

  -- ---- all of them

  pub call_asks : AsksStand w ds → AsksStand y es
  call_asks all m z at e it k h ask session = by_put (numbered_put ds node m f e least it) where
    old : (g : DoubterState) → numbered ds m ≡ Some g → g.ask ≡ Some k → AskStands y es m z.core.sessions k h
    old g at_g was = old_stands all m z at g at_g k h was session

    own : m ≡ node → WasAsk d seat.agent c.reply k → AskStands y es m z.core.sessions k h
    own same (taken.asked was) = old d (ap (λ j. numbered ds j) same ∙ is) was
    own same (taken.began b i none was un told k_is) =
        let i_is : i ≡ h = same_Some i h (sym (ap (λ (j : Ask). j.session) k_is) ∙ session) in
        let seat_is : new ≡ z = same_Some new z (sym there ∙ (ap (λ j. seat_at y j) (sym same) ∙ at)) in
        subst (λ j. AskStands y es m z.core.sessions k j) i_is
        (subst (λ j. AskStands y es m z.core.sessions j i) (sym k_is)
        (subst (λ (v : Seat). AskStands y es m v.core.sessions (record b { session = Some i }) i) seat_is
        (subst (λ j. AskStands y es j c.after.sessions (record b { session = Some i }) i) (sym same) (new_stands b i none was un told))))

    by_put : ((m ≡ node) × (f ≡ e)) ⊎ ((m ≢ node) × (numbered ds m ≡ Some e)) → AskStands y es m z.core.sessions k h
    by_put (inl p) = own p.0 (take_ask d seat.agent c.reply k (ap (λ (g : DoubterState). g.ask) p.1 ∙ ask))
    by_put (inr p) = old e p.1 ask
