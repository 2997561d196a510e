-- What a doubter asks, and what is so of the prefix, and of the node that is asked, once that has decided to accept the question.
use Rattle.std.proofs.Common.{◌≡◌, ◌⊎◌, inl, inr, refl, sym, ap, ◌∙◌, subst, ℕ, ◌<◌, true, List, Contains, Some, slice_get}
use Rattle.std.proofs.lemmas.Option.{same_Some}
use Rattle.grasp_doubter.specs.Questions.{doubt_name}
use Rattle.grasp_doubter.specs.States.{DoubterState}
use Rattle.grasp_doubter.specs.declared.asking.Ask.{Ask}
use Rattle.grasp_doubter.specs.declared.duty.DoubtAct.{DoubtAct}
use Rattle.grasp_doubter.specs.declared.seen.Sent.{Sent}
use Rattle.grasp_session.specs.Conversation.{requested, strip}
use Rattle.grasp_session.specs.Laws.{IsView}
use Rattle.grasp_session.specs.Messages.{Far, Near}
use Rattle.grasp_session.specs.Runs.{WasMade}
use Rattle.grasp_session.specs.Sessions.{SessionState, Sessions}
use Rattle.grasp_session.specs.Transcript.{request_of}
use Rattle.grasp_types.specs.Prefix.{AddressBlock as Prefix}
use Rattle.grasp_types.specs.declared.objective.Objective.{Objective}
use Rattle.grasp_types.specs.declared.session.Handle.{Handle}
use Rattle.grasp_types.specs.declared.session.Kind.TheVariants.{Negotiation}
use Rattle.grasp_model_network.specs.Accepting.{has_accepted}
use Rattle.grasp_model_network.specs.Runs.{IsReached}
use Rattle.grasp_model_network.specs.Setting.{Setting, numbered}
use Rattle.grasp_model_network.specs.Streams.{StreamEnd, StreamState, end_at}
use Rattle.grasp_model_network.specs.World.{Offered, Seat, WorldState, end_of, seat_at}
use Rattle.grasp_model_doubts.specs.Answered.{question}
use Rattle.grasp_laws_negotiation.specs.Negotiations.{IsNegotiation}
use Rattle.grasp_laws_negotiation.specs.Streams.{HasItsStream}
use Rattle.grasp_laws_network.specs.Views.{view_at, view_in}
use Rattle.grasp_laws_prefixes.proofs.Asked.{placed_one}
use Rattle.grasp_laws_prefixes.proofs.Places.{same_place}
use Rattle.grasp_laws_prefixes.proofs.Speaking.{accepts}
use Rattle.grasp_laws_prefixes.proofs.Speech.{same_requested}
use Rattle.grasp_laws_prefixes.proofs.Standing.{AllStay, Stays, StaysUnaccepted}
use Rattle.grasp_laws_prefixes.specs.Apart.{offer_on}
use Rattle.grasp_laws_doubts.proofs.Changing.{IsLater, MadeStay}
use Rattle.grasp_laws_doubts.proofs.Opening.{near_stays}
use Rattle.grasp_laws_doubts.proofs.Spoken.{HasAnswered, IsAnswering, answered_by, was_answered, was_far}
use Rattle.grasp_laws_doubts.specs.Grounds.{Grounds}
use Rattle.grasp_laws_doubts.specs.Standing.{OfEachDoubter, ServeStand}

-- ---- what is so between events

-- the question was requested in a session of agent 2, on a stream that this node dialled
pub record IsAskOf (w : WorldState) (node : ℕ) (z : Sessions) (k : Ask) (h : Handle) : Type 0 where
  pub session : SessionState
  pub made : WasMade z session
  pub number : session.number ≡ h.number
  pub owner : session.owner ≡ 2
  pub role : session.view.role ≡ Near
  pub kind : session.view.kind ≡ Negotiation
  pub request : request_of session.view ≡ question k.address k.prefix
  pub place : ℕ
  pub talk : StreamState
  pub stands : slice_get w.streams place ≡ Some talk
  pub near : talk.near ≡ end_of node session.stream

-- the far end has accepted, or its doubter has decided to
pub data HasDecided (w : WorldState) (ds : List DoubterState) (t : StreamState) : Type 0 where
  accepted : has_accepted Far t.said ≡ true → HasDecided w ds t
  acts : (b : IsAnswering w t) (d : DoubterState) (a : DoubtAct) → numbered ds b.node ≡ Some d → d.act ≡ Some a → a.accepts ≡ true → b.session.number ≡ a.handle.number → HasDecided w ds t

-- the prefix of this offer is accepted never on its stream, and the node at which the stream of the question was opened is the one that dialled it
pub record AnswersNever (w : WorldState) (t : StreamState) (o : Offered) : Type 0 where
  pub unaccepted : StaysUnaccepted w o
  pub far : StreamEnd
  pub opened : t.far ≡ Some far
  pub answerer : far.node ≡ unaccepted.at.talk.near.node

-- the stream of the question was dialled after the one for which this node has the prefix listed; and where the far end has decided so, the
-- prefix is accepted never there, and the far end is whoever dialled that
pub record AskStands (w : WorldState) (ds : List DoubterState) (node : ℕ) (z : Sessions) (k : Ask) (h : Handle) : Type 0 where
  pub of : IsAskOf w node z k h
  pub later : (place : ℕ) → Contains w.offers (offer_on node k.prefix place) → place < of.place
  pub never : (place : ℕ) → Contains w.offers (offer_on node k.prefix place) → HasDecided w ds of.talk → AnswersNever w of.talk (offer_on node k.prefix place)

abbrev pub AsksStand : WorldState → List DoubterState → Type 0
AsksStand w ds = OfEachDoubter (λ node seat d. (k : Ask) (h : Handle) → d.ask ≡ Some k → k.session ≡ Some h → AskStands w ds node seat.core.sessions k h) w ds

-- what is asked for lies in doubt, and the doubter asks the node to which it was offered
pub record AskedFor (seat : Seat) (d : DoubterState) (k : Ask) : Type 0 where
  pub doubtful : Contains seat.agent.pool.doubtful k.prefix
  pub sent : Contains d.offered (record { prefix = k.prefix; address = k.address })

abbrev pub AskedStand : WorldState → List DoubterState → Type 0
AskedStand w ds = OfEachDoubter (λ node seat d. (k : Ask) → d.ask ≡ Some k → AskedFor seat d k) w ds

-- ---- the stream of a question

abbrev pub ask_on : (w y : WorldState) → AllStay w.streams y.streams → (node : ℕ) (z m : Sessions) → MadeStay 2 z m → (k : Ask) (h : Handle) → IsAskOf w node z k h → IsAskOf y node m k h
ask_on w y stay node z m made k h b =
    let f = made b.session b.made b.owner in
    let u : Stays y.streams b.place b.talk = stay b.place b.talk b.stands in
    record {
      session = f.0;
      made = f.1;
      number = f.2.number ∙ b.number;
      owner = f.2.owner ∙ b.owner;
      role = f.2.role ∙ b.role;
      kind = f.2.kind ∙ b.kind;
      request = f.2.request ∙ b.request;
      place = b.place;
      talk = u.after;
      stands = u.stands;
      near = near_stays y.streams b.place b.talk u ∙ (b.near ∙ ap (end_of node) (sym f.2.stream));
    }

-- as long as the prefix is accepted never, this is so
pub answers_on : (w y : WorldState) → AllStay w.streams y.streams → (place : ℕ) (t u : StreamState) → slice_get w.streams place ≡ Some t → slice_get y.streams place ≡ Some u → (o : Offered) → AnswersNever w t o
    → StaysUnaccepted y o → AnswersNever y u o
answers_on w y stay place t u stands now o a n = record {
  unaccepted = n;
  far = a.far;
  opened = ap (λ (x : StreamState). x.far) (same_Some u v.after (sym now ∙ v.stands)) ∙ v.ends Far a.far a.opened;
  answerer = a.answerer ∙ ap (λ (e : StreamEnd). e.node) near;
} where
  v : Stays y.streams place t
  v = stay place t stands

  m : Stays y.streams a.unaccepted.at.place a.unaccepted.at.talk
  m = stay a.unaccepted.at.place a.unaccepted.at.talk a.unaccepted.at.stands

  near : a.unaccepted.at.talk.near ≡ n.at.talk.near
  near =
      sym (near_stays y.streams a.unaccepted.at.place a.unaccepted.at.talk m)
      ∙ ap (λ (x : StreamState). x.near) (sym (placed_one y.streams o n.at a.unaccepted.at.place m.after a.unaccepted.at.is m.stands))

-- the stream is a negotiation, and the question is what was requested on it
pub record IsAskTalk (k : Ask) (t : StreamState) : Type 0 where
  pub negotiation : IsNegotiation t
  pub asks : requested (strip t.said) ≡ question k.address k.prefix

module _ (l : Grounds) (s : Setting) (w : WorldState) (r : IsReached s w) (node : ℕ) (seat : Seat) (here : seat_at w node ≡ Some seat) (k : Ask) (h : Handle) (b : IsAskOf w node seat.core.sessions k h) where
  stream : HasItsStream w node b.session
  stream = l.prefixes.streams.each s w r node seat here b.session b.made

  side : stream.side ≡ Near
  side = sym stream.role ∙ b.role

  talk : stream.talk ≡ b.talk
  talk =
      same_Some stream.talk b.talk
      (sym stream.stands
      ∙ (ap (λ n. slice_get w.streams n)
      (same_place l.prefixes.ready s w r (end_of node b.session.stream) stream.place b.place stream.talk b.talk stream.side Near stream.stands stream.ends b.stands (ap (λ (e : StreamEnd). Some e) b.near))
      ∙ b.stands))

  negotiation : IsNegotiation b.talk
  negotiation = subst IsNegotiation talk (stream.request b.kind)

  view : IsView Near b.talk.said b.session.view
  view =
      (l.prefixes.known s w r b.place b.talk b.stands negotiation).views Near b.session.view
      (ap (λ i. view_at w b.talk i) (sym side) ∙ (ap (λ (t : StreamState). view_at w t stream.side) (sym talk) ∙ ap (λ e. view_in e) stream.found))

  pub ask_talk : IsAskTalk k b.talk
  ask_talk = record { negotiation = negotiation; asks = sym view.same_request ∙ b.request }

-- ---- what goes on

-- each session of agent 2 was made, and has accepted exactly what it had
abbrev pub SessionsWere : WorldState → WorldState → Type 0
SessionsWere w y = (node : ℕ) (new : Seat) → seat_at y node ≡ Some new → (z : SessionState) → WasMade new.core.sessions z → z.owner ≡ 2
    → (seat : Seat) × (seat_at w node ≡ Some seat) × (x : SessionState) × WasMade seat.core.sessions x × IsLater x z × (accepts z.view ≡ accepts x.view)

-- each doubter was there, and has the question and the answer that it had
abbrev pub DoubtersWere : List DoubterState → List DoubterState → Type 0
DoubtersWere ds es = (node : ℕ) (e : DoubterState) → numbered es node ≡ Some e → (d : DoubterState) × (numbered ds node ≡ Some d) × (e.ask ≡ d.ask) × (e.act ≡ d.act)

-- each node was there, and what agent 2 has made there is made still
abbrev pub NodesWere : WorldState → WorldState → Type 0
NodesWere w y = (node : ℕ) (new : Seat) → seat_at y node ≡ Some new → (seat : Seat) × (seat_at w node ≡ Some seat) × MadeStay 2 seat.core.sessions new.core.sessions

module _ (l : Grounds) (s : Setting) (w y : WorldState) (ds es : List DoubterState) (r : IsReached s w) (q : IsReached s y) (stay : AllStay w.streams y.streams) (serves : ServeStand y) (sessions : SessionsWere w y) where
  -- a session that answers has answered before
  answering_was : (place : ℕ) (t u : StreamState) → slice_get w.streams place ≡ Some t → slice_get y.streams place ≡ Some u → (b : IsAnswering y u)
      → (c : IsAnswering w t) × (c.node ≡ b.node) × (c.session.number ≡ b.session.number) × (accepts b.session.view ≡ accepts c.session.view)
  answering_was place t u stands now b =
      let f = sessions b.node b.seat b.here b.session b.made b.owner in
      let x = f.2 in
      let later : IsLater x b.session = f.4 in
      let role = sym later.role ∙ b.role in
      let far = b.far ∙ ap (λ n. Some (end_of b.node n)) later.stream in (
        record {
          node = b.node;
          seat = f.0;
          here = f.1;
          session = x;
          made = f.3;
          owner = sym later.owner ∙ b.owner;
          role = role;
          far = was_far l s w y r q stay place t u stands now b.node f.0 f.1 x f.3 role far;
        },
        refl,
        sym later.number,
        f.5,
      )

  -- and so where it has decided to accept, it had
  pub decided_was : DoubtersWere ds es → (k : Ask) (place : ℕ) (t u : StreamState) → slice_get w.streams place ≡ Some t → slice_get y.streams place ≡ Some u → IsAskTalk k t → IsAskTalk k u
      → HasDecided y es u → HasDecided w ds t
  decided_was were k place t u stands now before after (accepted e) = from (answered_by l s y q serves place u now after.negotiation (ap (λ (o : Objective). o.name) after.asks) e) where
    far_on : (f : StreamEnd) → t.far ≡ Some f → u.far ≡ Some f
    far_on f is =
        let v : Stays y.streams place t = stay place t stands in ap (λ (x : StreamState). x.far) (same_Some u v.after (sym now ∙ v.stands)) ∙ v.ends Far f is

    from : HasAnswered y u → HasDecided w ds t
    from b =
        let c = answering_was place t u stands now b.by in
        accepted
        (was_answered l s w y r q stay place t u stands now before.negotiation c.0.node c.0.seat c.0.here c.0.session c.0.made c.0.role (sym c.3 ∙ b.said)
        (far_on (end_of c.0.node c.0.session.stream) c.0.far))
  decided_was were k place t u stands now before after (acts b e a at act so_it_is number) =
      let c = answering_was place t u stands now b in
      let d = were b.node e at in
      acts c.0 d.0 a (ap (λ n. numbered ds n) c.1 ∙ d.1) (sym d.3 ∙ act) so_it_is (c.2 ∙ number)

  -- what is in doubt and listed then was listed
  abbrev OffersWere : Type 0
  OffersWere = (node : ℕ) (seat : Seat) → seat_at w node ≡ Some seat → (p : Prefix) → Contains seat.agent.pool.doubtful p → (place : ℕ) → Contains y.offers (offer_on node p place) → Contains w.offers (offer_on node p place)

  -- where no doubter calls
  pub asks_kept : AsksStand w ds → AskedStand w ds → DoubtersWere ds es → NodesWere w y → OffersWere → ((o : Offered) → StaysUnaccepted w o → StaysUnaccepted y o) → AsksStand y es
  asks_kept all asked were nodes offers unaccepted node new there e it k h ask session = record { of = now; later = λ place listed. a.later place (was_listed place listed); never = never } where
    d : (d : DoubterState) × (numbered ds node ≡ Some d) × (e.ask ≡ d.ask) × (e.act ≡ d.act)
    d = were node e it

    n : (seat : Seat) × (seat_at w node ≡ Some seat) × MadeStay 2 seat.core.sessions new.core.sessions
    n = nodes node new there

    a : AskStands w ds node n.0.core.sessions k h
    a = all node n.0 n.1 d.0 d.1 k h (sym d.2 ∙ ask) session

    now : IsAskOf y node new.core.sessions k h
    now = ask_on w y stay node n.0.core.sessions new.core.sessions n.2 k h a.of

    was_listed : (place : ℕ) → Contains y.offers (offer_on node k.prefix place) → Contains w.offers (offer_on node k.prefix place)
    was_listed place listed = offers node n.0 n.1 k.prefix (asked node n.0 n.1 d.0 d.1 k (sym d.2 ∙ ask)).doubtful place listed

    never : (place : ℕ) → Contains y.offers (offer_on node k.prefix place) → HasDecided y es now.talk → AnswersNever y now.talk (offer_on node k.prefix place)
    never place listed decided =
        let old : AnswersNever w a.of.talk (offer_on node k.prefix place)
        = a.never place (was_listed place listed)
        (decided_was were k a.of.place a.of.talk now.talk a.of.stands now.stands (ask_talk l s w r node n.0 n.1 k h a.of) (ask_talk l s y q node new there k h now) decided) in
        answers_on w y stay a.of.place a.of.talk now.talk a.of.stands now.stands (offer_on node k.prefix place) old (unaccepted (offer_on node k.prefix place) old.unaccepted)
