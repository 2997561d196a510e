-- The questions in a network stay as they stand, in each part of an event but the call of a doubter.
use Rattle.std.proofs.Common.{◌≡◌, ◌≢◌, ◌⊎◌, inl, inr, refl, sym, ap, ◌∙◌, subst, ℕ, ◌≤◌, Bool, false, List, Contains, Option, None, Some, Result, Ok, Err}
use Rattle.std.proofs.lemmas.Bool.{cases_eq}
use Rattle.std.proofs.lemmas.Option.{none-some, same_Some}
use Rattle.grasp_agent.specs.Calls.{next_call}
use Rattle.grasp_agent.specs.Replies.{after_reply}
use Rattle.grasp_doubter.specs.Asking.{after_ask, asking_of}
use Rattle.grasp_doubter.specs.Seeing.{after_saw, sent_to}
use Rattle.grasp_doubter.specs.States.{DoubterState}
use Rattle.grasp_doubter.specs.declared.asking.Ask.{Ask}
use Rattle.grasp_doubter.specs.declared.asking.AskFault.{AskFault}
use Rattle.grasp_session.specs.Runs.{WasMade}
use Rattle.grasp_session.specs.Sessions.{SessionState}
use Rattle.grasp_types.specs.Prefix.{AddressBlock as Prefix}
use Rattle.grasp_types.specs.declared.address.Address.{Address}
use Rattle.grasp_types.specs.declared.address.Locator.{Locator}
use Rattle.grasp_types.specs.declared.session.Handle.{Handle}
use Rattle.grasp_model_node.specs.Node.{NodeState}
use Rattle.grasp_model_node.specs.Step.{NodeStep}
use Rattle.grasp_model_network.specs.EventSteps.{after_agent, agent_input}
use Rattle.grasp_model_network.specs.Events.{Occurs, visit_of}
use Rattle.grasp_model_network.specs.Offers.{is_offer_of}
use Rattle.grasp_model_network.specs.Runs.{IsReached}
use Rattle.grasp_model_network.specs.Sending.{seat_with}
use Rattle.grasp_model_network.specs.Setting.{Setting, numbered}
use Rattle.grasp_model_network.specs.Settling.{IsDead, after_settle}
use Rattle.grasp_model_network.specs.Streams.{StreamState}
use Rattle.grasp_model_network.specs.Visits.{Choice}
use Rattle.grasp_model_network.specs.World.{Offered, Seat, WorldState, present_life, seat_at}
use Rattle.grasp_model_network.specs.declared.event.Event.{Event}
use Rattle.grasp_model_network.specs.declared.event.Event.TheVariants as event
use Rattle.grasp_model_doubts.specs.World.{with_doubter}
use Rattle.grasp_laws_network.proofs.Here.{numbered_within}
use Rattle.grasp_laws_network.proofs.Lists.{numbered_put}
use Rattle.grasp_laws_network.proofs.Others.{put_elsewhere}
use Rattle.grasp_laws_network.proofs.Settled.{Settling, settling_is}
use Rattle.grasp_laws_network.proofs.Staying.{put_here}
use Rattle.grasp_laws_network.specs.Telling.{Tells}
use Rattle.grasp_laws_prefixes.proofs.AgentOffers.{IsListedNow, is_kept_now, is_new, just_reserved, listed_now, was_listed}
use Rattle.grasp_laws_prefixes.proofs.AgentSteps.{AgentStep}
use Rattle.grasp_laws_prefixes.proofs.BegunCalls.{IsBegun, is_begun}
use Rattle.grasp_laws_prefixes.proofs.Listing.{put_from}
use Rattle.grasp_laws_prefixes.proofs.Networks.{told_happens}
use Rattle.grasp_laws_prefixes.proofs.NeverAccepted.{agent_unaccepted, quiet_unaccepted, still_unaccepted}
use Rattle.grasp_laws_prefixes.proofs.OwnSteps.{IsCall, own_step}
use Rattle.grasp_laws_prefixes.proofs.Places.{same_stay}
use Rattle.grasp_laws_prefixes.proofs.Returned.{Takes, told_by}
use Rattle.grasp_laws_prefixes.proofs.Safe.{stand}
use Rattle.grasp_laws_prefixes.proofs.SettleKeeps.{settle_happens}
use Rattle.grasp_laws_prefixes.proofs.Standing.{AllStay, StaysUnaccepted, WorldGoesOn}
use Rattle.grasp_laws_prefixes.specs.Apart.{offer_on}
use Rattle.grasp_laws_doubts.proofs.Asking.{AskStands, AskedStand, AsksStand, DoubtersWere, HasDecided, NodesWere, SessionsWere, accepted, acts, asks_kept}
use Rattle.grasp_laws_doubts.proofs.Both.{agent_put}
use Rattle.grasp_laws_doubts.proofs.Calling.{agent_leaves}
use Rattle.grasp_laws_doubts.proofs.Changing.{IsLater, MadeStay, back_on, itself, made_on}
use Rattle.grasp_laws_doubts.proofs.Cores.{SameCores, settled_cores, told_cores}
use Rattle.grasp_laws_doubts.proofs.Parts.{agent_visit_of}
use Rattle.grasp_laws_doubts.proofs.Quiet.{IsQuiet, NodeStays, node_still, quiet_serves}
use Rattle.grasp_laws_doubts.proofs.Resting.{saw_rest}
use Rattle.grasp_laws_doubts.specs.Grounds.{Grounds}
use Rattle.grasp_laws_doubts.specs.Standing.{ServeStand, ServesDoubts}

-- ---- what was there

-- each node was there, and has stayed so for agent 2
abbrev pub NodesStay : WorldState → WorldState → Type 0
NodesStay w y = (node : ℕ) (new : Seat) → seat_at y node ≡ Some new → (seat : Seat) × (seat_at w node ≡ Some seat) × NodeStays seat.core new.core

stay_sessions : (w y : WorldState) → NodesStay w y → SessionsWere w y
stay_sessions w y k node new there z made own =
    let f = k node new there in
    let b = back_on 2 f.0.core.sessions new.core.sessions f.2.go_on z made own in
    (f.0, f.1, b.0, b.1, b.2, b.3)

stay_nodes : (w y : WorldState) → NodesStay w y → NodesWere w y
stay_nodes w y k node new there = let f = k node new there in (f.0, f.1, made_on 2 f.0.core.sessions new.core.sessions f.2.go_on)

pub stay_serves : (w y : WorldState) → NodesStay w y → ServeStand y
stay_serves w y k node new there = (k node new there).2.serves

same_doubters : (ds : List DoubterState) → DoubtersWere ds ds
same_doubters ds node e it = (e, it, refl, refl)

-- the nodes are the same
pub cores_stay : (w y : WorldState) → ServeStand w → SameCores w y → NodesStay w y
cores_stay w y serves k node new there =
    let f = k.back node new there in
    (f.0, f.1, subst (λ (n : NodeState). NodeStays f.0.core n) (sym f.2) (node_still f.0.core (serves node f.0 f.1)))

-- ---- no agent did anything

pub quiet_asks : (l : Grounds) (s : Setting) (w y : WorldState) (ds : List DoubterState) → IsReached s w → IsReached s y → IsQuiet w y → AskedStand w ds → AsksStand w ds → AsksStand y ds
quiet_asks l s w y ds r q k asked all =
    asks_kept l s w y ds ds r q k.goes.streams (stay_serves w y stays) (stay_sessions w y stays) all asked (same_doubters ds) (stay_nodes w y stays)
    (λ node seat here p doubtful place listed. subst (λ (os : List Offered). Contains os (offer_on node p place)) k.goes.offers listed)
    (λ o n. quiet_unaccepted l.prefixes s w r y k.goes.streams o n q k.goes)
  where
    stays : NodesStay w y
    stays node new there = let f = k.seats node new there in (f.0, f.1, f.2.node)

-- ---- an agent of prefixes is told something

pub told_asks : (l : Grounds) (s : Setting) (w x : WorldState) (ds : List DoubterState) (e : Event) → IsReached s w → IsReached s x → Tells s w e x → ServeStand w → AskedStand w ds → AsksStand w ds → AsksStand x ds
told_asks l s w x ds e r q t serves asked all =
    asks_kept l s w x ds ds r q stay (stay_serves w x stays) (stay_sessions w x stays) all asked (same_doubters ds) (stay_nodes w x stays)
    (λ node seat here p doubtful place listed. by_case node p place listed (told_by l.prefixes s w r e x t))
    (λ o n. still_unaccepted l.prefixes s w r x stay o n (told_happens s w x e t))
  where
    stays : NodesStay w x
    stays = cores_stay w x serves (told_cores s w x e t)

    stay : AllStay w.streams x.streams
    stay = same_stay w.streams x.streams (told_cores s w x e t).streams

    by_case : (node : ℕ) (p : Prefix) (place : ℕ) → Contains x.offers (offer_on node p place) → WorldGoesOn w x ⊎ Takes w x → Contains w.offers (offer_on node p place)
    by_case node p place listed (inl g) = subst (λ (os : List Offered). Contains os (offer_on node p place)) g.offers listed
    by_case node p place listed (inr u) = by_put (put_from w.offers u.node u.prefix None (offer_on node p place) (subst (λ (os : List Offered). Contains os (offer_on node p place)) u.offers listed)) where
      by_put : (Contains w.offers (offer_on node p place) × (is_offer_of u.node u.prefix (offer_on node p place) ≡ false)) ⊎ (offer_on node p place ≡ record { node = u.node; prefix = u.prefix; talk = None })
          → Contains w.offers (offer_on node p place)
      by_put (inl f) = f.0
      by_put (inr same) = absurd (none-some place (sym (ap (λ (o : Offered). o.talk) same)))

-- ---- a prefix is settled

pub settle_asks : (l : Grounds) (s : Setting) (w : WorldState) (ds : List DoubterState) (node : ℕ) (p : Prefix) → IsReached s w → IsReached s (after_settle w node p) → IsDead w node p → ServeStand w → AskedStand w ds
    → AsksStand w ds → AsksStand (after_settle w node p) ds
settle_asks l s w ds node p r q dead serves asked all =
    asks_kept l s w y ds ds r q stay (stay_serves w y stays) (stay_sessions w y stays) all asked (same_doubters ds) (stay_nodes w y stays)
    (λ n seat here x doubtful place listed. (t.were (offer_on n x place) listed).0)
    (λ o n. still_unaccepted l.prefixes s w r y stay o n (settle_happens l.prefixes s w y node p r t))
  where
    y : WorldState
    y = after_settle w node p

    t : Settling w node p y
    t = settling_is w node p dead

    stays : NodesStay w y
    stays = cores_stay w y serves (settled_cores w node p dead)

    stay : AllStay w.streams y.streams
    stay = same_stay w.streams y.streams t.streams

-- ---- a call of an agent of prefixes

module _ (l : Grounds) (s : Setting) (w : WorldState) (ds : List DoubterState) (node : ℕ) (hold : Bool) (seat : Seat) (d : DoubterState) (c : Choice) (r : IsReached s w) (o : Occurs s w (event.Agent node hold) c)
    (visit_is : visit_of s w (event.Agent node hold) ≡ Some (agent_visit_of w node seat)) (present : present_life w node ≡ node) (here : seat_at w node ≡ Some seat) (is : numbered ds node ≡ Some d)
    (step : NodeStep seat.core seat.core.reading (agent_input seat.agent) c.coming c.reply c.after) (q : IsReached s (after_agent w (agent_visit_of w node seat) c)) (serves : ServeStand w) where
  abbrev y : WorldState
  y = after_agent w (agent_visit_of w node seat) c

  abbrev f : DoubterState
  f = after_saw d (after_reply seat.agent c.reply).pool (next_call seat.agent) c.reply

  abbrev es : List DoubterState
  es = with_doubter ds node f

  abbrev new : Seat
  new = seat_with c.after (after_reply seat.agent c.reply)

  least : 1 ≤ node
  least = (numbered_within w.seats node seat here).least

  made : (a : AgentStep w y) × IsCall w y a
  made = own_step l.prefixes s w node hold c (agent_visit_of w node seat) r o visit_is

  abbrev a : AgentStep w y
  a = made.0

  begun : IsBegun w y a made.1
  begun = is_begun l.prefixes s w y r a made.1

  stays : NodesStay w y
  stays n z at = by_node (numbered_put w.seats node n new z least (subst (λ xs. numbered xs n ≡ Some z) (agent_put w node seat c present) at)) where
    by_node : ((n ≡ node) × (new ≡ z)) ⊎ ((n ≢ node) × (numbered w.seats n ≡ Some z)) → (x : Seat) × (seat_at w n ≡ Some x) × NodeStays x.core z.core
    by_node (inl k) = (
      seat,
      ap (λ m. seat_at w m) k.0 ∙ here,
      subst (λ (x : Seat). NodeStays seat.core x.core) k.1 (agent_leaves l s w r node seat here c (serves node seat here) step),
    )
    by_node (inr k) = (z, k.1, node_still z.core (serves n z k.1))

  were : DoubtersWere ds es
  were n e it = by_node (numbered_put ds node n f e least it) where
    by_node : ((n ≡ node) × (f ≡ e)) ⊎ ((n ≢ node) × (numbered ds n ≡ Some e)) → (g : DoubterState) × (numbered ds n ≡ Some g) × (e.ask ≡ g.ask) × (e.act ≡ g.act)
    by_node (inl k) =
        let rest = saw_rest d (after_reply seat.agent c.reply).pool (next_call seat.agent) c.reply in (
          d,
          ap (λ m. numbered ds m) k.0 ∙ is,
          ap (λ (g : DoubterState). g.ask) (sym k.1) ∙ rest.ask,
          ap (λ (g : DoubterState). g.act) (sym k.1) ∙ rest.act,
        )
    by_node (inr k) = (e, k.1, refl, refl)

  -- what lies in doubt isn't offered anew
  listed_before : (n : ℕ) (x : Seat) → seat_at w n ≡ Some x → (p : Prefix) → Contains x.agent.pool.doubtful p → (place : ℕ) → Contains y.offers (offer_on n p place) → Contains w.offers (offer_on n p place)
  listed_before n x at p doubtful place listed = by_list (listed_now l.prefixes s w y r q a (stand l.prefixes s w r) (offer_on n p place) listed) where
    by_list : IsListedNow l.prefixes s w y r q a (stand l.prefixes s w r) (offer_on n p place) → Contains w.offers (offer_on n p place)
    by_list (was_listed old still none) = old
    by_list (is_new j just e) =
        let own : n ≡ a.visit.node = ap (λ (z : Offered). z.node) e in
        let seat_is : x ≡ a.visit.seat = same_Some x a.visit.seat (sym at ∙ (ap (λ m. seat_at w m) own ∙ a.here)) in
        absurd
        ((is_kept_now l.prefixes s w y r q a (stand l.prefixes s w r)).pool.once p
        (subst (λ z. Contains a.agent.pool.reserved z) (sym (ap (λ (z : Offered). z.prefix) e)) (just_reserved l.prefixes s w y r q a (stand l.prefixes s w r) j just))
        (a.moves.keeps_doubts p (subst (λ (z : Seat). Contains z.agent.pool.doubtful p) seat_is doubtful)))

  pub agent_asks : AskedStand w ds → AsksStand w ds → AsksStand y es
  agent_asks asked all =
      asks_kept l s w y ds es r q a.streams (stay_serves w y stays) (stay_sessions w y stays) all asked were (stay_nodes w y stays) listed_before
      (λ z n. agent_unaccepted l.prefixes s w r y a.streams z n q a made.1 begun)

  pub agent_serves_on : ServeStand y
  agent_serves_on = stay_serves w y stays

-- ---- a question is to be asked

module _ (w : WorldState) (ds : List DoubterState) (node : ℕ) (d : DoubterState) (p : Prefix) (peer : Locator) (told : Result (Unit {0}) AskFault) (least : 1 ≤ node) (is : numbered ds node ≡ Some d) where
  abbrev asker : DoubterState
  asker = after_ask d p peer told

  abbrev askers : List DoubterState
  askers = with_doubter ds node asker

  -- it has the answer that it had, and no session for another question
  sent_rest : (o : Option Address) → ((asking_of d p peer o).act ≡ d.act) × ((k : Ask) (h : Handle) → (asking_of d p peer o).ask ≡ Some k → k.session ≡ Some h → d.ask ≡ Some k)
  sent_rest None = (refl, λ k h ask session. ask)
  sent_rest (Some a) = (
    refl,
    λ k h ask session. absurd (none-some h (ap (λ (j : Ask). j.session) (same_Some (record { prefix = p; address = a; peer = peer; session = None }) k ask) ∙ session)),
  )

  ask_rest : (z : Result (Unit {0}) AskFault) → ((after_ask d p peer z).act ≡ d.act) × ((k : Ask) (h : Handle) → (after_ask d p peer z).ask ≡ Some k → k.session ≡ Some h → d.ask ≡ Some k)
  ask_rest (Ok done) = sent_rest (sent_to d.offered p)
  ask_rest (Err x) = (refl, λ k h ask session. ask)

  decided_so : (t : StreamState) → HasDecided w askers t → HasDecided w ds t
  decided_so t (accepted e) = accepted e
  decided_so t (acts b e a at act so_it_is number) = by_node (numbered_put ds node b.node asker e least at) where
    by_node : ((b.node ≡ node) × (asker ≡ e)) ⊎ ((b.node ≢ node) × (numbered ds b.node ≡ Some e)) → HasDecided w ds t
    by_node (inl k) = acts b d a (ap (λ m. numbered ds m) k.0 ∙ is) (sym (ask_rest told).0 ∙ (ap (λ (g : DoubterState). g.act) k.1 ∙ act)) so_it_is number
    by_node (inr k) = acts b e a k.1 act so_it_is number

  pub ask_asks : AsksStand w ds → AsksStand w askers
  ask_asks all n seat here e it k h ask session = by_node (numbered_put ds node n asker e least it) where
    old : (g : DoubterState) → numbered ds n ≡ Some g → g.ask ≡ Some k → AskStands w askers n seat.core.sessions k h
    old g at was =
        let a = all n seat here g at k h was session in record { of = a.of; later = a.later; never = λ place listed decided. a.never place listed (decided_so a.of.talk decided) }

    by_node : ((n ≡ node) × (asker ≡ e)) ⊎ ((n ≢ node) × (numbered ds n ≡ Some e)) → AskStands w askers n seat.core.sessions k h
    by_node (inl j) = old d (ap (λ m. numbered ds m) j.0 ∙ is) ((ask_rest told).1 k h (ap (λ (g : DoubterState). g.ask) j.1 ∙ ask) session)
    by_node (inr j) = old e j.1 ask
