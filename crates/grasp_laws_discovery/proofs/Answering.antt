-- Each answer that is noted was made to a discovery that was sent.
use Rattle.std.proofs.Common.{◌≡◌, refl, sym, ap, ◌∙◌, subst, arith, ℕ, ◌||◌, Bool, true, false, cond, List, [], ◌∷◌, ◌++◌, fold, take, length, Option, None, Some, All}
use Rattle.std.specs.List.{list_any}
use Rattle.std.specs.Prelude.{Contains}
use Rattle.std.proofs.lemmas.Bool.{true≢false}
use Rattle.std.proofs.lemmas.List.Elements.{All-append, All-cons, All-head, All-nil, All-tail, All-weaker}
use Rattle.grasp_asa.specs.Answers.{flags_registered}
use Rattle.grasp_asa.specs.Registrations.{Registrations}
use Rattle.grasp_laws_node.proofs.Remembered.{begun}
use Rattle.grasp_model_node.specs.Begin.{begin}
use Rattle.grasp_model_node.specs.Datagrams.{serves}
use Rattle.grasp_model_node.specs.Draining.{closes, after_drain}
use Rattle.grasp_model_node.specs.Node.{NodeState}
use Rattle.grasp_model_node.specs.Queue.{Queued, datagram, dial, send, encoding}
use Rattle.grasp_model_node.specs.Step.{Coming}
use Rattle.grasp_types.specs.declared.address.Address.{Address}
use Rattle.grasp_types.specs.declared.message.Message.{Message}
use Rattle.grasp_types.specs.declared.message.Message.TheVariants.{Discovery, Response}
use Rattle.grasp_types.specs.declared.objective.Objective.{Objective}
use Rattle.grasp_types.specs.declared.reply.Reply.{Reply}
use Rattle.grasp_types.specs.declared.traffic.Input.{Input}
use Rattle.grasp_types.specs.declared.traffic.Input.TheVariants as input
use Rattle.grasp_laws_network.proofs.Growing.{one_grows, visit_grows, drained_grows}
use Rattle.grasp_laws_network.proofs.Telling.{one_agent}
use Rattle.grasp_laws_network.specs.Telling.{OneAgent}
use Rattle.grasp_laws_network.proofs.Here.{visits_are_here}
use Rattle.grasp_model_network.proofs.Facts.{numbered_all}
use Rattle.grasp_model_network.specs.EventSteps.{after_agent_call, after_agent, after_arrival, after_clock, after_cut, is_own_response, is_own_answer, answers_to, answered_with, after_delivery, after_piece}
use Rattle.grasp_model_network.specs.StreamChanges.{arrived, told, Reached, reached_side, side_named, delivered}
use Rattle.grasp_model_network.specs.Events.{visit_of, after_visit}
use Rattle.grasp_laws_network.specs.Keeping.{TakesNothing, WorldGrows}
use Rattle.grasp_model_network.specs.Notes.{noted}
use Rattle.grasp_model_network.specs.Routes.{Route, route_of}
use Rattle.grasp_model_network.specs.Runs.{IsReached, first_world}
use Rattle.grasp_model_network.specs.Sending as network
use Rattle.grasp_model_network.specs.Sending.{gained, stepped, posted, having_sent, having_closed, handed_over, seat_with, drained_at}
use Rattle.grasp_model_network.specs.Setting.{Setting}
use Rattle.grasp_model_network.specs.Streams.{StreamState, stream_numbered}
use Rattle.grasp_model_network.specs.Visits.{Visit, Choice, MayCome, VisitStep}
use Rattle.grasp_model_network.specs.World.{Seat, SentDatagram, DiscoveryAnswer, WorldState, member_of, seat_at, with_seat}
use Rattle.grasp_model_network.specs.declared.event.Event.{Event}
use Rattle.grasp_model_network.specs.declared.event.Event.TheVariants as event
use Rattle.grasp_laws_delivery.proofs.Holding.{IsStep, PartsKeep, parts_keep}
use Rattle.grasp_laws_floods.proofs.Members.{has_member}
use Rattle.grasp_laws_floods.specs.Laws.{DiscoveriesAreReal}
use Rattle.grasp_laws_floods.specs.Sought.{IsMessageSought, DiscoveriesAreSought}
use Rattle.grasp_laws_delivery.specs.Divided.{DatagramsAreMessages}
use Rattle.grasp_laws_discovery.proofs.Longer.{any_longer, restarting_grows}
use Rattle.grasp_laws_discovery.proofs.Noting.{IsCarriedAs, Brings, brings_it, answer_of, answer_is, delivery_answers, numbered_any}
use Rattle.grasp_laws_discovery.proofs.Sourcing.{responses_have_sources}
use Rattle.grasp_laws_discovery.specs.Locators.{IsDiscoveryWith, IsAnswerReal}
use Rattle.grasp_laws_discovery.specs.Sources.{IsResponseFrom, own, diverted, sent_on, IsMessageFrom, IsQueuedFrom}

-- ---- a response of the node's own

-- the discovery that it answers came in the datagram, and the node serves it
pub record IsServed (n : NodeState) (x : Coming) : Type 0 where
  pub session : ℕ
  pub initiator : Address
  pub objective : Objective
  pub carried : x.carried ≡ Some (Discovery session initiator objective)
  pub serving : serves objective.flags (flags_registered n.registrations objective.name) ≡ true

nothing_there : (m : Message) → Contains [] m → ⊥
nothing_there m c = omega (arith, c.1)

module _ (n : NodeState) (link from : ℕ) (bytes : List ℕ) (x : Coming) where
  response_served : (m : Message) → IsResponseFrom n (input.Datagram link from bytes) x m → is_own_response m ≡ true → IsServed n x
  response_served m (own session initiator o carried serving e) is = record { session = session; initiator = initiator; objective = o; carried = carried; serving = serving }
  response_served m (diverted session initiator o known carried e f) is = absurd (true≢false (sym is ∙ ap is_own_response f))
  response_served m (sent_on c) is = absurd (nothing_there m c)

  message_served : (m : Message) → IsMessageFrom n (input.Datagram link from bytes) x m → is_own_response m ≡ true → IsServed n x
  message_served (Response session initiator ttl told o) k is = response_served (Response session initiator ttl told o) k is
  message_served _ k is = absurd (true≢false (sym is))

  queued_served : (q : Queued) → IsQueuedFrom n (input.Datagram link from bytes) x q → is_own_answer q ≡ true → IsServed n x
  queued_served (send stream m) k is = message_served m k is
  queued_served (dial stream to) k is = absurd (true≢false (sym is))
  queued_served (datagram on to m) k is = absurd (true≢false (sym is))

  all_served : (qs : List Queued) → All (IsQueuedFrom n (input.Datagram link from bytes) x) qs → list_any is_own_answer qs ≡ true → IsServed n x
  all_served [] all is = absurd (true≢false (sym is))
  all_served (q ∷ qs) all is = by_test (is_own_answer q) refl is (all_served qs (All-tail (IsQueuedFrom n (input.Datagram link from bytes) x) q qs all)) where
    by_test : (b : Bool) → is_own_answer q ≡ b → (b || list_any is_own_answer qs) ≡ true → (list_any is_own_answer qs ≡ true → IsServed n x) → IsServed n x
    by_test true e f rest = queued_served q (All-head (IsQueuedFrom n (input.Datagram link from bytes) x) q qs all) e
    by_test false e f rest = rest f

-- ---- what a step notes

-- where a stream is opened or cut, or bytes are delivered on it, the answers to discoveries that are noted stay the same
same_arrived : (w : WorldState) (v : Visit) (number : ℕ) (r : Reply) (o : Option StreamState) → (arrived w v number r o).answers ≡ w.answers
same_arrived w v number r None = refl
same_arrived w v number r (Some t) = refl

same_delivered : (w : WorldState) (count : ℕ) (o : Option Reached) → (delivered w count o).answers ≡ w.answers
same_delivered w count None = refl
same_delivered w count (Some x) = refl

same_told : (w : WorldState) (o : Option Reached) → (told w o).answers ≡ w.answers
same_told w None = refl
same_told w (Some x) = refl

-- a discovery that comes as this one, with this objective
carried_same : (m : Message) (o : Option Message) (session : ℕ) (initiator : Address) (objective : Objective) → IsCarriedAs m o → o ≡ Some (Discovery session initiator objective)
    → m ≡ Discovery session initiator objective
carried_same m o session initiator objective is e = subst (IsCarriedAs m) e is

answer_longer : (s : Setting) (w x : WorldState) → WorldGrows w x → (a : DiscoveryAnswer) → IsAnswerReal s w a → IsAnswerReal s x a
answer_longer s w x g a k = record {
  locator = k.locator;
  is_answer = k.is_answer;
  was_sent = any_longer (λ (d : SentDatagram). IsDiscoveryWith a.objective d.message) w.datagrams x.datagrams g.datagrams k.was_sent;
}

abbrev AllReal : Setting → WorldState → Type 0
AllReal s w = All (IsAnswerReal s w) w.answers

-- with the same answers in a network that has grown
still_real : (s : Setting) (w x : WorldState) → WorldGrows w x → x.answers ≡ w.answers → AllReal s w → AllReal s x
still_real s w x g e all = subst (All (IsAnswerReal s x)) (sym e) (All-weaker (IsAnswerReal s w) (IsAnswerReal s x) (answer_longer s w x g) w.answers all)

module _ (real : DiscoveriesAreReal) (messages : DatagramsAreMessages) (s : Setting) where
  -- the answer to a discovery that was delivered
  served_real : (w : WorldState) → IsReached s w → (index : ℕ) (hold : Bool) (v : Visit) (c : Choice) → visit_of s w (event.Datagram index hold) ≡ Some v → (b : Brings w index v c) (o : IsServed (begin v.seat.core v.now) c.coming)
      → IsAnswerReal s w (answer_of w v o.objective)
  served_real w r index hold v c is b o = record {
    locator = v.seat.core.plan.locator;
    is_answer = answer_is s w v o.objective (has_member s w r v.node v.seat (visits_are_here s w (event.Datagram index hold) v is).stands)
        (subst (IsMessageSought w sought.sought) sent (numbered_all (λ (x : SentDatagram). IsMessageSought w sought.sought x.message) w.datagrams index b.sent sought.sent b.found)).flags
        (subst (λ (q : Registrations). serves o.objective.flags (flags_registered q o.objective.name) ≡ true) (begun v.seat.core v.now).registrations o.serving);
    was_sent = numbered_any (λ (d : SentDatagram). IsDiscoveryWith o.objective d.message) w.datagrams index b.sent b.found (subst (IsDiscoveryWith o.objective) (sym sent) refl);
  } where
    sought : DiscoveriesAreSought w
    sought = real.reached s w r

    sent : b.sent.message ≡ Discovery o.session o.initiator o.objective
    sent = carried_same b.sent.message c.coming.carried o.session o.initiator o.objective b.carried o.carried

  delivery_real : (w : WorldState) → IsReached s w → (index : ℕ) (hold : Bool) (v : Visit) (c : Choice) → visit_of s w (event.Datagram index hold) ≡ Some v → VisitStep v c → AllReal s w
      → All (IsAnswerReal s w) (after_delivery w v index c).answers
  delivery_real w r index hold v c is step all = from (brings_it messages s w r index hold v c is step) where
    from : Brings w index v c → All (IsAnswerReal s w) (after_delivery w v index c).answers
    from b =
        subst (All (IsAnswerReal s w)) (sym (delivery_answers w v index c ∙ ap (λ o. w.answers ++ answered_with (member_of w v.node) v c o) b.found))
        (All-append (IsAnswerReal s w) w.answers (answered_with (member_of w v.node) v c (Some b.sent)) all (by_own (list_any is_own_answer (gained v.seat.core c.after)) refl))
      where
        sources : All (IsQueuedFrom (begin v.seat.core v.now) (input.Datagram b.sent.route.link b.sent.route.from (encoding b.sent.message)) c.coming) (gained v.seat.core c.after)
        sources =
            subst (λ (i : Input). All (IsQueuedFrom (begin v.seat.core v.now) i c.coming) (gained v.seat.core c.after)) b.input_is
            (responses_have_sources v c (subst TakesNothing (sym b.input_is) tt) step)

        by_own : (z : Bool) → list_any is_own_answer (gained v.seat.core c.after) ≡ z → All (IsAnswerReal s w) (cond z (answers_to (member_of w v.node) v b.sent.message) [])
        by_own false e = All-nil (IsAnswerReal s w)
        by_own true e = with_discovery (all_served (begin v.seat.core v.now) b.sent.route.link b.sent.route.from (encoding b.sent.message) c.coming (gained v.seat.core c.after) sources e) where
          with_discovery : IsServed (begin v.seat.core v.now) c.coming → All (IsAnswerReal s w) (answers_to (member_of w v.node) v b.sent.message)
          with_discovery o =
              subst (All (IsAnswerReal s w)) (sym (ap (answers_to (member_of w v.node) v) (carried_same b.sent.message c.coming.carried o.session o.initiator o.objective b.carried o.carried)))
              (All-cons (IsAnswerReal s w) (answer_of w v o.objective) [] (served_real w r index hold v c is b o) (All-nil (IsAnswerReal s w)))

  step_answers : (w : WorldState) (e : Event) (c : Choice) (v : Visit) → IsReached s w → visit_of s w e ≡ Some v → IsStep e → VisitStep v c → AllReal s w → All (IsAnswerReal s w) (after_visit s w e v c).answers
  unfolding after_clock after_agent after_agent_call after_arrival after_piece after_cut noted stepped
  step_answers w (event.Want node length longest peer) c v r is step may all = absurd step
  step_answers w (event.Return node prefix peer) c v r is step may all = absurd step
  step_answers w (event.Datagram index hold) c v r is step may all = delivery_real w r index hold v c is may all
  step_answers w (event.Arrive stream hold) c v r is step may all =
      subst (All (IsAnswerReal s w)) (sym (same_arrived w v (s.arrives_as v.node stream) c.reply (stream_numbered w.streams stream))) all
  step_answers w (event.Bytes stream far count hold) c v r is step may all = subst (All (IsAnswerReal s w)) (sym (same_delivered w count (reached_side w stream (side_named far)))) all
  step_answers w (event.Cut stream far hold) c v r is step may all = subst (All (IsAnswerReal s w)) (sym (same_told w (reached_side w stream (side_named far)))) all
  step_answers w (event.Drain node most) c v r is step may all = absurd step
  step_answers w _ c v r is step may all = all

  -- ---- a drain notes nothing

  same_posted : (w : WorldState) (m : Message) (route : Option Route) → (posted w m route).answers ≡ w.answers
  same_posted w m None = refl
  same_posted w m (Some route) = refl

  same_sent : (node : ℕ) (w : WorldState) (q : Queued) → (having_sent s node w q).answers ≡ w.answers
  same_sent node w (datagram link to m) = same_posted w m (route_of s (member_of w node) link to)
  same_sent node w (dial stream to) = refl
  same_sent node w (send stream m) = refl

  same_handed : (node : ℕ) (qs : List Queued) (w : WorldState) → (fold (having_sent s node) w qs).answers ≡ w.answers
  same_handed node [] w = refl
  same_handed node (q ∷ qs) w = same_handed node qs (having_sent s node w q) ∙ same_sent node w q

  same_closed : (node : ℕ) (streams : List ℕ) (w : WorldState) → (fold (having_closed node) w streams).answers ≡ w.answers
  same_closed node [] w = refl
  same_closed node (stream ∷ streams) w = same_closed node streams (having_closed node w stream)

  same_drained : (w : WorldState) (node most : ℕ) (o : Option Seat) → (drained_at s w node most o).answers ≡ w.answers
  unfolding handed_over
  same_drained w node most None = refl
  same_drained w node most (Some seat) = from (begin seat.core seat.core.reading) where
    from : (m : NodeState) → (network.drained_from s w node seat m most).answers ≡ w.answers
    from m =
        let put = with_seat w node (seat_with (after_drain m most) seat.agent) in
        same_closed node (closes m most) (fold (having_sent s node) put (take most m.queue)) ∙ same_handed node (take most m.queue) put

  -- ---- every turn

  told_real : (w x : WorldState) → OneAgent w x → AllReal s w → AllReal s x
  told_real w x o all = still_real s w x (one_grows w x o) (ap (λ (y : WorldState). y.answers) o.after) all

  parts : PartsKeep s (AllReal s)
  unfolding network.drained
  parts = record {
    steps = λ w e c v r all o is step reached.
        All-weaker (IsAnswerReal s w) (IsAnswerReal s (after_visit s w e v c)) (answer_longer s w (after_visit s w e v c) (visit_grows s w e v c)) (after_visit s w e v c).answers
        (step_answers w e c v r is step (subst (λ (x : Option Visit). MayCome x c) is o.comes) all);
    told = λ w x e r t all. told_real w x (one_agent s w e x t) all;
    drains = λ w node most r all least. still_real s w (network.drained s w node most) (drained_grows s w node most) (same_drained w node most (seat_at w node)) all;
    settles = λ w x node p r t all. told_real w x t.one all;
    restarts = λ w x node image r t all. still_real s w x (restarting_grows s w x node image t) t.answers all;
  }

  nothing_noted : AllReal s (first_world s)
  unfolding first_world
  nothing_noted = All-nil (IsAnswerReal s (first_world s))

  pub noted_real : (w : WorldState) → IsReached s w → AllReal s w
  noted_real w r = parts_keep s (AllReal s) parts nothing_noted w r
