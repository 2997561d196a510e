-- What an event notes is what its step tells.
use Rattle.std.proofs.Common.{◌≡◌, refl, sym, ap, ◌∙◌, subst, ℕ, Bool, true, false, cond, List, [], ◌∷◌, ◌++◌, fold, Option, Some, None, append-nil}
use Rattle.std.specs.List.{list_any}
use Rattle.std.specs.Prelude.{Contains}
use Rattle.std.proofs.lemmas.Bool.{true≢false}
use Rattle.std.proofs.lemmas.List.Folds.{Any-from_list_any, list_any_at}
use Rattle.std.proofs.lemmas.Option.{none-some, same_Some}
use Rattle.grasp_agent.specs.Calls.{next_call}
use Rattle.grasp_model_node.specs.Queue.{Queued, datagram, send}
use Rattle.grasp_types.specs.declared.call.Call.{Call}
use Rattle.grasp_types.specs.declared.call.Call.TheVariants as call
use Rattle.grasp_types.specs.declared.flood.FloodRead.{FloodRead}
use Rattle.grasp_types.specs.declared.message.Answer.TheVariants.{Locators}
use Rattle.grasp_types.specs.declared.message.Message.{Message}
use Rattle.grasp_types.specs.declared.message.Message.TheVariants.{Discovery, Response}
use Rattle.grasp_types.specs.declared.reply.ApiAnswer.{ApiAnswer}
use Rattle.grasp_types.specs.declared.reply.ApiAnswer.TheVariants as answer
use Rattle.grasp_types.specs.declared.reply.Reply.{Reply}
use Rattle.grasp_types.specs.declared.reply.Reply.TheVariants as reply
use Rattle.grasp_types.specs.declared.session.Handle.{Handle}
use Rattle.grasp_types.specs.declared.traffic.Input.{Input}
use Rattle.grasp_types.specs.declared.traffic.Input.TheVariants as input
use Rattle.grasp_laws_network.proofs.Telling.{none_one}
use Rattle.grasp_model_network.proofs.Facts.{agent_given}
use Rattle.grasp_model_network.specs.EventSteps.{after_agent, after_agent_call, after_arrival, after_clock, after_cut, after_delivery, after_piece, agent_visit, answered_with, answers_in, answers_to, arrival_visit, clock_seat, cut_at, cut_visit, datagram_at, datagram_visit, is_own_answer, opened_at, opened_stream, piece_at, piece_visit}
use Rattle.grasp_model_network.specs.Events.{after_by, after_event, after_none, after_visit, drained_behind, drains, visit_of}
use Rattle.grasp_model_network.specs.Notes.{floods_in, floods_read_in, handles_in, noted, searches_in}
use Rattle.grasp_model_network.specs.Routes.{Route, route_of}
use Rattle.grasp_model_network.specs.Runs.{first_world}
use Rattle.grasp_model_network.specs.Sending.{drained, drained_at, gained, handed_over, having_closed, having_sent, event_drain, posted, stepped}
use Rattle.grasp_model_network.specs.Setting.{Setting, member_at, numbered}
use Rattle.grasp_model_network.specs.StreamChanges.{Reached, arrived, delivered, reached_side, side_named, told}
use Rattle.grasp_model_network.specs.Streams.{StreamState, is_waiting, stream_numbered}
use Rattle.grasp_model_network.specs.Visits.{Choice, Visit, visit_seat}
use Rattle.grasp_model_network.specs.World.{DiscoveryAnswer, FloodCall, GivenHandle, SearchCall, Seat, SentDatagram, WorldState, present_life, member_of, seat_at}
use Rattle.grasp_model_network.specs.declared.event.Event.{Event}
use Rattle.grasp_model_network.specs.declared.event.Event.TheVariants as event
use Rattle.grasp_laws_network.specs.Noted.{AnswersDiscovery, BeginsFlood, BeginsSearch, GivesHandle, Grows, HasHandle, IsAnsweredCall, Notes, One, ReadsFloods, RepliesAreNoted, grown, kept}

-- ---- what leaves the notes as they are

-- all that a network notes
record Noted : Type 0 where
  calls : List FloodCall
  reads : List FloodRead
  searches : List SearchCall
  answers : List DiscoveryAnswer
  handles : List GivenHandle

abbrev notes : WorldState → Noted
notes w = record { calls = w.flood_calls; reads = w.floods_read; searches = w.searches; answers = w.answers; handles = w.handles }

posted_notes : (w : WorldState) (m : Message) (route : Option Route) → notes (posted w m route) ≡ notes w
posted_notes w m None = refl
posted_notes w m (Some route) = refl

sent_notes : (s : Setting) (node : ℕ) (w : WorldState) (q : Queued) → notes (having_sent s node w q) ≡ notes w
sent_notes s node w (datagram link to m) = posted_notes w m (route_of s (member_of w node) link to)
sent_notes s node w _ = refl

all_sent_notes : (s : Setting) (node : ℕ) (qs : List Queued) (w : WorldState) → notes (fold (having_sent s node) w qs) ≡ notes w
all_sent_notes s node [] w = refl
all_sent_notes s node (q ∷ qs) w = all_sent_notes s node qs (having_sent s node w q) ∙ sent_notes s node w q

all_closed_notes : (node : ℕ) (streams : List ℕ) (w : WorldState) → notes (fold (having_closed node) w streams) ≡ notes w
all_closed_notes node [] w = refl
all_closed_notes node (stream ∷ streams) w = all_closed_notes node streams (having_closed node w stream)

handed_notes : (s : Setting) (w : WorldState) (node : ℕ) (queued : List Queued) (streams : List ℕ) → notes (handed_over s w node queued streams) ≡ notes w
unfolding handed_over
handed_notes s w node queued streams = all_closed_notes node streams (fold (having_sent s node) w queued) ∙ all_sent_notes s node queued w

drained_at_notes : (s : Setting) (w : WorldState) (node max : ℕ) (o : Option Seat) → notes (drained_at s w node max o) ≡ notes w
drained_at_notes s w node max None = refl
drained_at_notes s w node max (Some seat) = handed_notes s _ node _ _

drained_notes : (s : Setting) (w : WorldState) (node max : ℕ) → notes (drained s w node max) ≡ notes w
unfolding drained
drained_notes s w node max = drained_at_notes s w node max (seat_at w node)

behind_notes : (b : Bool) (s : Setting) (w : WorldState) (node : ℕ) → notes (drained_behind b s w node) ≡ notes w
behind_notes true s w node = drained_notes s w node event_drain
behind_notes false s w node = refl

arrived_notes : (w : WorldState) (v : Visit) (number : ℕ) (r : Reply) (o : Option StreamState) → notes (arrived w v number r o) ≡ notes w
arrived_notes w v number r None = refl
arrived_notes w v number r (Some t) = refl

delivered_notes : (w : WorldState) (count : ℕ) (o : Option Reached) → notes (delivered w count o) ≡ notes w
delivered_notes w count None = refl
delivered_notes w count (Some x) = refl

told_notes : (w : WorldState) (o : Option Reached) → notes (told w o) ≡ notes w
told_notes w None = refl
told_notes w (Some x) = refl

-- an event without a step notes nothing
none_notes : (s : Setting) (w : WorldState) (e : Event) → notes (after_none s w e) ≡ notes w
none_notes s w e = none_one s w e (λ x. notes x ≡ notes w) refl (λ x o. ap notes o.after)

-- ---- steps in which no agent makes a call

abbrev IsNoCall : Input → Type 0
IsNoCall (input.Api asa made) = ⊥
IsNoCall _ = Unit {0}

abbrev IsQuiet : Option Visit → Type 0
IsQuiet None = Unit {0}
IsQuiet (Some v) = IsNoCall v.input

quiet_seat : (node : ℕ) (i : Input) (o : Option Seat) → IsNoCall i → IsQuiet (visit_seat node i o)
quiet_seat node i None silent = tt
quiet_seat node i (Some seat) silent = silent

quiet_clock : (node millis : ℕ) (o : Option Seat) → IsQuiet (clock_seat node millis o)
quiet_clock node millis None = tt
quiet_clock node millis (Some seat) = tt

quiet_datagram : (w : WorldState) (o : Option SentDatagram) → IsQuiet (datagram_at w o)
quiet_datagram w None = tt
quiet_datagram w (Some d) = quiet_seat (present_life w d.route.receiver) _ (seat_at w (present_life w d.route.receiver)) tt

quiet_opening : (s : Setting) (w : WorldState) (k : ℕ) (o : Option StreamState) → IsQuiet (opened_stream s w k o)
quiet_opening s w k None = tt
quiet_opening s w k (Some t) = by_waiting (is_waiting t.far_side) (member_at s t.to) (seat_at w t.near.node) where
  by_waiting : (b : Bool) (to : Option ℕ) (near : Option Seat) → IsQuiet (cond b (opened_at s w k to near) None)
  by_waiting false to near = tt
  by_waiting true None near = tt
  by_waiting true (Some node) None = tt
  by_waiting true (Some node) (Some near) = quiet_seat (present_life w node) _ (seat_at w (present_life w node)) tt

quiet_piece : (w : WorldState) (side : _) (count : ℕ) (o : Option Reached) → IsQuiet (piece_at w side count o)
quiet_piece w side count None = tt
quiet_piece w side count (Some x) = quiet_seat x.at.node _ (seat_at w x.at.node) tt

quiet_cut : (w : WorldState) (o : Option Reached) → IsQuiet (cut_at w o)
quiet_cut w None = tt
quiet_cut w (Some x) = quiet_seat x.at.node _ (seat_at w x.at.node) tt

-- an agent's call comes with two kinds of events alone
abbrev pub MakesNoCall : Event → Type 0
MakesNoCall (event.Agent node hold) = ⊥
MakesNoCall (event.Api node asa made hold) = ⊥
MakesNoCall _ = Unit {0}

quiet_event : (s : Setting) (w : WorldState) (e : Event) → MakesNoCall e → IsQuiet (visit_of s w e)
unfolding arrival_visit piece_visit cut_visit datagram_visit
quiet_event s w (event.Agent node hold) silent = absurd silent
quiet_event s w (event.Api node asa made hold) silent = absurd silent
quiet_event s w (event.Clock node millis) silent = quiet_clock (present_life w node) millis (seat_at w (present_life w node))
quiet_event s w (event.Datagram index hold) silent = quiet_datagram w (numbered w.datagrams index)
quiet_event s w (event.Arrive stream hold) silent = quiet_opening s w stream (stream_numbered w.streams stream)
quiet_event s w (event.Bytes stream far count hold) silent = quiet_piece w (side_named far) count (reached_side w stream (side_named far))
quiet_event s w (event.Cut stream far hold) silent = quiet_cut w (reached_side w stream (side_named far))
quiet_event s w (event.Drain node max) silent = quiet_seat (present_life w node) (input.Drain max) (seat_at w (present_life w node)) tt
quiet_event s w _ silent = tt

-- what comes with a visit of a node's seat
call_given : (node : ℕ) (i : Input) (v : Visit) (o : Option Seat) → visit_seat node i o ≡ Some v → i ≡ v.input
call_given node i v None is = absurd (none-some v is)
call_given node i v (Some seat) is = ap (λ (x : Visit). x.input) (same_Some _ v is)

-- ---- one event

-- the call is one to flood, and was done
abbrev IsFlood : Reply → Call → Type 0
IsFlood (reply.Api answer.Done) (call.Flood name value ttl loops) = Unit {0}
IsFlood _ _ = ⊥

abbrev IsRead : Reply → Type 0
IsRead (reply.Api (answer.Floods reads)) = Unit {0}
IsRead _ = ⊥

abbrev IsSearch : Reply → Type 0
IsSearch (reply.Api answer.Searching) = Unit {0}
IsSearch _ = ⊥

abbrev HasHandleIn : Handle → Reply → Type 0
HasHandleIn h (reply.Api a) = HasHandle h a
HasHandleIn h _ = ⊥

abbrev call_in : Input → Call
call_in (input.Api asa made) = made
call_in _ = call.DeregisterAsa

one : {A : Type 0} (Tells : A → Type 0) (before after : List A) (x : A) → Tells x → after ≡ before ++ x ∷ [] → Grows (One Tells) before after
one Tells before after x is h = grown (x ∷ []) (x, is, refl) h

-- nothing is told, and nothing is added
stays : {A : Type 0} (Tells : List A → Type 0) (before after : List A) → ((more : List A) → ¬ Tells more) → after ≡ before ++ [] → Grows Tells before after
stays Tells before after silent h = kept silent (h ∙ append-nil before)

module _ (s : Setting) (w : WorldState) (e : Event) (c : Choice) where
  -- a network with the same notes
  same_notes : (x y : WorldState) → notes y ≡ notes x → Notes s w e c x → Notes s w e c y
  same_notes x y same k = record {
    flood_calls = subst (Grows (One (BeginsFlood s w e c)) w.flood_calls) (ap (λ (n : Noted). n.calls) (sym same)) k.flood_calls;
    floods_read = subst (Grows (ReadsFloods s w e c) w.floods_read) (ap (λ (n : Noted). n.reads) (sym same)) k.floods_read;
    searches = subst (Grows (One (BeginsSearch s w e c)) w.searches) (ap (λ (n : Noted). n.searches) (sym same)) k.searches;
    answers = subst (Grows (One (AnswersDiscovery s w e c)) w.answers) (ap (λ (n : Noted). n.answers) (sym same)) k.answers;
    handles = subst (Grows (One (GivesHandle s w e c)) w.handles) (ap (λ (n : Noted). n.handles) (sym same)) k.handles;
  }

  abbrev NoAnswer : Type 0
  NoAnswer = (a : DiscoveryAnswer) → ¬ AnswersDiscovery s w e c a

  -- ---- no call

  abbrev NoCall : Type 0
  NoCall = (v : Visit) (asa : ℕ) (made : Call) (a : ApiAnswer) → ¬ IsAnsweredCall s w e c v asa made a

  quiet : IsQuiet (visit_of s w e) → NoCall
  quiet q v asa made a is = subst IsNoCall is.calls (subst IsQuiet is.visits q)

  pub no_call : MakesNoCall e → NoCall
  no_call silent = quiet (quiet_event s w e silent)

  -- where no call is answered, only a discovery may be
  only_answers : (answers : List DiscoveryAnswer) → NoCall → Grows (One (AnswersDiscovery s w e c)) w.answers answers → Notes s w e c (record w { answers = answers })
  only_answers answers silent k = record {
    flood_calls = kept (λ more t. silent t.1.visit t.1.asa _ _ t.1.done) refl;
    floods_read = kept (λ more t. silent t.visit t.asa t.made _ t.told) refl;
    searches = kept (λ more t. silent t.1.visit t.1.asa t.1.made _ t.1.begun) refl;
    answers = k;
    handles = kept (λ more t. silent t.1.visit t.1.asa t.1.made t.1.answer t.1.given) refl;
  }

  nothing_noted : (x : WorldState) → notes x ≡ notes w → NoCall → NoAnswer → Notes s w e c x
  nothing_noted x same silent none = same_notes w x same (only_answers w.answers silent (kept (λ more t. none t.0 t.1) refl))

  -- ---- a call

  module _ (v : Visit) (asa : ℕ) (made : Call) (visits : visit_of s w e ≡ Some v) (calls : v.input ≡ input.Api asa made) where
    answered : (a : ApiAnswer) → c.reply ≡ reply.Api a → IsAnsweredCall s w e c v asa made a
    answered a is = record { visits = visits; calls = calls; answers = is }

    same_call : (u : Visit) (n : ℕ) (it : Call) (a : ApiAnswer) → IsAnsweredCall s w e c u n it a → it ≡ made
    same_call u n it a is = ap call_in (sym is.calls ∙ ap (λ (x : Visit). x.input) (same_Some u v (sym is.visits ∙ visits)) ∙ calls)

    flood_is : (r : Reply) (it : Call) → c.reply ≡ r → made ≡ it → (f : FloodCall) → BeginsFlood s w e c f → IsFlood r it
    flood_is r it said m f t = subst (λ z. IsFlood z it) (sym t.done.answers ∙ said) (subst (IsFlood (reply.Api answer.Done)) (same_call t.visit t.asa _ _ t.done ∙ m) tt)

    flood_grows : (after : List FloodCall) (r : Reply) (it : Call) → c.reply ≡ r → made ≡ it → after ≡ w.flood_calls ++ floods_in v asa it r → Grows (One (BeginsFlood s w e c)) w.flood_calls after
    unfolding floods_in
    flood_grows after (reply.Api answer.Done) (call.Flood name value ttl loops) said m h =
        one (BeginsFlood s w e c) w.flood_calls after _ (record {
          visit = v;
          asa = asa;
          ttl = ttl;
          done = subst (λ it. IsAnsweredCall s w e c v asa it answer.Done) m (answered answer.Done said);
          node = refl;
          flags = refl;
        }) h
    flood_grows after r it said m h = stays (One (BeginsFlood s w e c)) w.flood_calls after (λ more t. flood_is r it said m t.0 t.1) h

    reads_grow : (after : List FloodRead) (r : Reply) → c.reply ≡ r → after ≡ w.floods_read ++ floods_read_in r → Grows (ReadsFloods s w e c) w.floods_read after
    unfolding floods_read_in
    reads_grow after (reply.Api (answer.Floods reads)) said h = grown reads (record { visit = v; asa = asa; made = made; told = answered (answer.Floods reads) said }) h
    reads_grow after r said h = stays (ReadsFloods s w e c) w.floods_read after (λ more t. subst IsRead (sym t.told.answers ∙ said) tt) h

    searches_grow : (after : List SearchCall) (r : Reply) → c.reply ≡ r → after ≡ w.searches ++ searches_in v r → Grows (One (BeginsSearch s w e c)) w.searches after
    unfolding searches_in
    searches_grow after (reply.Api answer.Searching) said h =
        one (BeginsSearch s w e c) w.searches after _
        (record { visit = v; asa = asa; made = made; begun = answered answer.Searching said; node = refl; address = refl; session = refl }) h
    searches_grow after r said h = stays (One (BeginsSearch s w e c)) w.searches after (λ more t. subst IsSearch (sym t.1.begun.answers ∙ said) tt) h

    handles_grow : (after : List GivenHandle) (r : Reply) → c.reply ≡ r → after ≡ w.handles ++ handles_in v r → Grows (One (GivesHandle s w e c)) w.handles after
    unfolding handles_in
    handles_grow after (reply.Api (answer.Started h)) said is =
        one (GivesHandle s w e c) w.handles after _
        (record { visit = v; asa = asa; made = made; answer = answer.Started h; given = answered (answer.Started h) said; has = refl; node = refl }) is
    handles_grow after (reply.Api (answer.Incoming h from o)) said is =
        one (GivesHandle s w e c) w.handles after _
        (record { visit = v; asa = asa; made = made; answer = answer.Incoming h from o; given = answered (answer.Incoming h from o) said; has = refl; node = refl }) is
    handles_grow after r said is =
        stays (One (GivesHandle s w e c)) w.handles after (λ more t. subst (HasHandleIn t.0.handle) (sym t.1.given.answers ∙ said) t.1.has) is

    call_noted : (x : WorldState) → notes x ≡ notes w → NoAnswer → Notes s w e c (noted x v asa made c.reply)
    unfolding noted
    call_noted x same none = record {
      flood_calls = flood_grows _ c.reply made refl refl (ap (λ (n : Noted). n.calls ++ floods_in v asa made c.reply) same);
      floods_read = reads_grow _ c.reply refl (ap (λ (n : Noted). n.reads ++ floods_read_in c.reply) same);
      searches = searches_grow _ c.reply refl (ap (λ (n : Noted). n.searches ++ searches_in v c.reply) same);
      answers = kept (λ more t. none t.0 t.1) (ap (λ (n : Noted). n.answers) same);
      handles = handles_grow _ c.reply refl (ap (λ (n : Noted). n.handles ++ handles_in v c.reply) same);
    }

-- ---- a delivery

is_found : {X : Type 0} (p : X → Bool) (xs : List X) (x : X) → Contains xs x → p x ≡ true → list_any p xs ≡ true
is_found p xs x c t = list_any_at p xs c.0 x c.1 (ap p c.2 ∙ t)

-- a message that is a discovery
abbrev IsDiscovery : Message → Type 0
IsDiscovery (Discovery session initiator o) = Unit {0}
IsDiscovery _ = ⊥

module _ (s : Setting) (w : WorldState) (index : ℕ) (hold : Bool) (c : Choice) (v : Visit) (visits : visit_of s w (event.Datagram index hold) ≡ Some v) where
  abbrev Answers : DiscoveryAnswer → Type 0
  Answers = AnswersDiscovery s w (event.Datagram index hold) c

  abbrev queued : List Queued
  queued = gained v.seat.core c.after

  abbrev index_in : Event → ℕ
  index_in (event.Datagram k held) = k
  index_in _ = 0

  -- what is answered is this discovery
  is_it : (a : DiscoveryAnswer) (t : Answers a) → numbered w.datagrams index ≡ Some (record { route = t.route; message = Discovery t.session t.initiator a.objective })
  is_it a t = ap (λ k. numbered w.datagrams k) (ap index_in t.delivers) ∙ t.discovery

  is_discovery : (a : DiscoveryAnswer) → Answers a → (d : SentDatagram) → numbered w.datagrams index ≡ Some d → IsDiscovery d.message
  is_discovery a t d found = subst IsDiscovery (ap (λ (x : SentDatagram). x.message) (same_Some _ d (sym (is_it a t) ∙ found))) tt

  is_own : (a : DiscoveryAnswer) → Answers a → list_any is_own_answer queued ≡ true
  is_own a t =
      is_found is_own_answer queued _ (subst (λ (u : Visit). Contains (gained u.seat.core c.after) (send t.stream (Response t.number t.from t.ttl (Locators t.locators) t.about)))
      (same_Some t.visit v (sym t.visits ∙ visits)) t.response) refl

  by_queued : (d : SentDatagram) → numbered w.datagrams index ≡ Some d → (after : List DiscoveryAnswer) → (q : Queued) → Contains queued q → is_own_answer q ≡ true → (m : Message) → d.message ≡ m
      → after ≡ w.answers ++ answers_to (member_of w v.node) v m → Grows (One Answers) w.answers after
  by_queued d found after (send stream (Response number from ttl (Locators locators) about)) has own (Discovery session initiator o) is h =
      one Answers w.answers after _ (record {
        visit = v;
        visits = visits;
        index = index;
        hold = hold;
        delivers = refl;
        route = d.route;
        session = session;
        initiator = initiator;
        discovery = found ∙ ap (λ m. Some (record { route = d.route; message = m })) is;
        stream = stream;
        number = number;
        from = from;
        ttl = ttl;
        locators = locators;
        about = about;
        response = has;
        node = refl;
        flags = refl;
      }) h
  by_queued d found after (send stream (Response number from ttl (Locators locators) about)) has own m is h =
      stays (One Answers) w.answers after (λ more t. subst IsDiscovery is (is_discovery t.0 t.1 d found)) h
  by_queued d found after q has own m is h = absurd (true≢false (sym own))

  by_own : (d : SentDatagram) → numbered w.datagrams index ≡ Some d → (after : List DiscoveryAnswer) → (b : Bool) → list_any is_own_answer queued ≡ b
      → after ≡ w.answers ++ cond b (answers_to (member_of w v.node) v d.message) [] → Grows (One Answers) w.answers after
  by_own d found after true own h = let q = Any-from_list_any is_own_answer queued own in by_queued d found after q.1 (q.0, q.2, q.3) q.4 d.message refl h
  by_own d found after false own h = stays (One Answers) w.answers after (λ more t. true≢false (sym (is_own t.0 t.1) ∙ own)) h

  answers_grow : (after : List DiscoveryAnswer) (o : Option SentDatagram) → numbered w.datagrams index ≡ o → after ≡ w.answers ++ answered_with (member_of w v.node) v c o → Grows (One Answers) w.answers after
  answers_grow after None found h = stays (One Answers) w.answers after (λ more t. none-some _ (sym found ∙ is_it t.0 t.1)) h
  answers_grow after (Some d) found h = by_own d found after (list_any is_own_answer queued) refl h

  delivery_noted : Notes s w (event.Datagram index hold) c (after_delivery w v index c)
  unfolding after_delivery stepped answers_in
  delivery_noted =
      same_notes s w (event.Datagram index hold) c (record w { answers = w.answers ++ answers_in w v index c }) (after_delivery w v index c) refl
      (only_answers s w (event.Datagram index hold) c _ (no_call s w (event.Datagram index hold) c tt) (answers_grow _ (numbered w.datagrams index) refl refl))

-- ---- each kind of event

abbrev IsNoDelivery : Event → Type 0
IsNoDelivery (event.Datagram index hold) = ⊥
IsNoDelivery _ = Unit {0}

no_answer : (s : Setting) (w : WorldState) (e : Event) (c : Choice) → IsNoDelivery e → NoAnswer s w e c
no_answer s w e c silent a t = subst IsNoDelivery t.delivers silent

nothing : (s : Setting) (w : WorldState) (e : Event) (c : Choice) (x : WorldState) → notes x ≡ notes w → MakesNoCall e → IsNoDelivery e → Notes s w e c x
nothing s w e c x same silent still = nothing_noted s w e c x same (no_call s w e c silent) (no_answer s w e c still)

visit_noted : (s : Setting) (w : WorldState) (e : Event) (c : Choice) (v : Visit) → visit_of s w e ≡ Some v → Notes s w e c (after_visit s w e v c)
unfolding after_clock after_agent after_agent_call after_arrival after_piece after_cut agent_visit noted stepped
visit_noted s w (event.Clock node millis) c v is = nothing s w (event.Clock node millis) c (after_clock w v c) refl tt tt
visit_noted s w (event.Agent node hold) c v is =
    same_notes s w (event.Agent node hold) c _ (after_agent w v c) refl
    (call_noted s w (event.Agent node hold) c v v.seat.agent.asa (next_call v.seat.agent) is (agent_given (present_life w node) v (seat_at w (present_life w node)) is) (stepped w v c.after v.seat.agent) refl
    (no_answer s w (event.Agent node hold) c tt))
visit_noted s w (event.Api node asa made hold) c v is =
    call_noted s w (event.Api node asa made hold) c v asa made is (sym (call_given (present_life w node) (input.Api asa made) v (seat_at w (present_life w node)) is)) (stepped w v c.after v.seat.agent) refl
    (no_answer s w (event.Api node asa made hold) c tt)
visit_noted s w (event.Datagram index hold) c v is = delivery_noted s w index hold c v is
visit_noted s w (event.Arrive stream hold) c v is =
    nothing s w (event.Arrive stream hold) c (after_arrival s w v stream c) (arrived_notes w v (s.arrives_as v.node stream) c.reply (stream_numbered w.streams stream)) tt tt
visit_noted s w (event.Bytes stream far count hold) c v is =
    nothing s w (event.Bytes stream far count hold) c (after_piece w v stream (side_named far) count c) (delivered_notes w count (reached_side w stream (side_named far))) tt tt
visit_noted s w (event.Cut stream far hold) c v is =
    nothing s w (event.Cut stream far hold) c (after_cut w v stream (side_named far) c) (told_notes w (reached_side w stream (side_named far))) tt tt
visit_noted s w (event.Drain node max) c v is = nothing s w (event.Drain node max) c (drained s w v.node max) (drained_notes s w v.node max) tt tt
visit_noted s w e c v is = nothing s w e c w refl tt tt

by_noted : (s : Setting) (w : WorldState) (e : Event) (c : Choice) (o : Option Visit) → visit_of s w e ≡ o → Notes s w e c (after_by s w e c o)
by_noted s w e c None is =
    nothing_noted s w e c (after_none s w e) (none_notes s w e) (quiet s w e c (subst IsQuiet (sym is) tt)) (λ a t. none-some t.visit (sym is ∙ t.visits))
by_noted s w e c (Some v) is = same_notes s w e c (after_visit s w e v c) _ (behind_notes (drains e) s (after_visit s w e v c) v.node) (visit_noted s w e c v is)

pub replies_are_noted : RepliesAreNoted
unfolding after_event first_world
replies_are_noted = record {
  first = λ s. record { flood_calls = refl; floods_read = refl; searches = refl; answers = refl; handles = refl };
  each = λ s w e c. by_noted s w e c (visit_of s w e) refl;
}
