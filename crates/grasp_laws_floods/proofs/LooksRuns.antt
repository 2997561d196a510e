-- In every network that turns lead to each discovery was begun by a search.
use Rattle.std.proofs.Common.{◌≡◌, refl, sym, ap, ◌∙◌, subst, ℕ, ◌+◌, ◌-◌, ◌==◌, Bool, true, false, cond, List, [], ◌∷◌, ◌++◌, length, map, All, Some, None, slice_get}
use Rattle.std.specs.Prelude.{AllPairs, Any}
use Rattle.std.proofs.lemmas.List.Elements.{All-cons, All-contains, All-nil, All-weaker}
use Rattle.std.proofs.lemmas.Option.{none-some, same_Some}
use Rattle.grasp_agent.specs.Calls.{next_call}
use Rattle.grasp_model_node.specs.Begin.{begin}
use Rattle.grasp_model_node.specs.Node.{first_node}
use Rattle.grasp_model_node.specs.Queue.{Queued, datagram, dial, send}
use Rattle.grasp_laws_node.specs.Relays.{own_message}
use Rattle.grasp_model_node.specs.Step.{NodeStep}
use Rattle.grasp_model_node.specs.declared.plan.NodePlan.{NodePlan}
use Rattle.grasp_discovery.specs.Topic.{topic_of, kind_of}
use Rattle.grasp_discovery.specs.declared.search.Search.{Search}
use Rattle.grasp_discovery.specs.declared.topic.Topic.{Topic}
use Rattle.grasp_laws_network.proofs.Appended.{numbered_before}
use Rattle.grasp_laws_network.proofs.EachNode.{IsMade, is_made, begun_each}
use Rattle.grasp_laws_network.proofs.Openings.{worlds_begin}
use Rattle.grasp_laws_network.proofs.Reached.{reached_keeps}
use Rattle.grasp_laws_network.proofs.Turning.{settle_one, restart_by}
use Rattle.grasp_laws_network.specs.Lives.{TurnsKeep}
use Rattle.grasp_model_network.specs.EventSteps.{agent_input}
use Rattle.grasp_model_network.specs.Events.{Occurs, after_event}
use Rattle.grasp_model_network.specs.GoodSetting.{IsGoodSetting}
use Rattle.grasp_laws_network.specs.Laws.{OpeningsAreSteps}
use Rattle.grasp_laws_network.specs.Nodes.{OfEachNode}
use Rattle.grasp_model_network.specs.Runs.{Happening, IsRun, first_world, worlds_from}
use Rattle.grasp_model_network.specs.Openings.{first_seat, opened_seat, fresh_seat, answered_seat}
use Rattle.grasp_model_network.specs.Restarting.{restarted}
use Rattle.grasp_model_network.specs.Setting.{Member, Setting}
use Rattle.grasp_model_network.specs.Visits.{Choice, no_choice}
use Rattle.grasp_model_network.specs.World.{Seat, WorldState, present_life, seat_at}
use Rattle.grasp_model_network.specs.declared.event.Event.{Event}
use Rattle.grasp_pool.specs.Functions.{pool_of, pool_of_image}
use Rattle.grasp_pool.specs.Holdings.{Holding}
use Rattle.grasp_pool.specs.declared.image.PoolImage.{PoolImage}
use Rattle.grasp_types.specs.declared.address.Address.{Address}
use Rattle.grasp_types.specs.declared.call.Call.{Call}
use Rattle.grasp_types.specs.declared.call.Call.TheVariants as call
use Rattle.grasp_types.specs.declared.message.Message.{Message}
use Rattle.grasp_types.specs.declared.message.Message.TheVariants.{Discovery}
use Rattle.grasp_types.specs.declared.reply.ApiAnswer.{ApiAnswer}
use Rattle.grasp_types.specs.declared.reply.ApiAnswer.TheVariants as answer
use Rattle.grasp_types.specs.declared.reply.Reply.TheVariants as reply
use Rattle.grasp_laws_floods.proofs.AgentCalls.{IsAgentCall, agent_calls, begins_nothing}
use Rattle.grasp_laws_floods.proofs.Settled.{AreApart, are_settled}
use Rattle.grasp_laws_floods.proofs.Looks.{Looks, MessageLooks, OptionLooks, QueuedLooks, MemoryLooks, SearchLooks}
use Rattle.grasp_laws_floods.proofs.LooksHappened.{IsBegunBy, IsSought, event_sought, one_sought}
use Rattle.grasp_laws_floods.proofs.LooksNodes.{NodeLooks, step_looks}
use Rattle.grasp_laws_floods.proofs.LooksTables.{OwnBegun}
use Rattle.grasp_laws_floods.proofs.LooksWorlds.{SentLooks}
use Rattle.grasp_laws_floods.proofs.Nodes.{NodeMade}
use Rattle.grasp_laws_floods.proofs.Ranges.{good_members}
use Rattle.grasp_laws_floods.proofs.Runs.{first_sound, event_sound, one_sound, begun_sound}
use Rattle.grasp_laws_floods.proofs.Told.{AreSound, Stands, stands}
use Rattle.grasp_laws_floods.specs.Laws.{DiscoveriesAreReal}
use Rattle.grasp_laws_floods.specs.Sought.{Sought, IsBegunIn, IsOfSearch, IsMessageSought, IsQueuedSought, IsMemorySought, IsKeptSearch, DiscoveriesAreSought}

-- ---- a life that begins

fresh_looks : (xs : List Sought) (node : ℕ) (plan : NodePlan) → NodeLooks xs node (first_node plan)
fresh_looks xs node plan = record {
  kept = record { searches = All-nil (SearchLooks xs node); memories = All-nil (MemoryLooks xs) };
  queue = All-nil (QueuedLooks xs);
}

-- an agent's call begins no search
agent_begins_none : (xs : List Sought) (node : ℕ) (seat : Seat) (it : Call) (a : ApiAnswer) → IsAgentCall it → OwnBegun xs node (begin seat.core 0) it a
agent_begins_none xs node seat (call.Discover name kind loops timeout) a k = absurd k
agent_begins_none xs node seat (call.Flood name value ttl loops) a k = absurd k
agent_begins_none xs node seat _ a k = tt

agent_looks_none : (xs : List Sought) (seat : Seat) (it : Call) (a : ApiAnswer) → IsAgentCall it → OptionLooks xs (own_message (begin seat.core 0) seat.agent.asa it a)
agent_looks_none xs seat it a k = subst (OptionLooks xs) (sym (begins_nothing (begin seat.core 0) seat.agent.asa it a k)) tt

answered_looks : (xs : List Sought) (node : ℕ) (seat : Seat) (a : ApiAnswer)
    → NodeStep seat.core 0 (agent_input seat.agent) no_choice.coming (reply.Api a) (answered_seat seat a).core → NodeLooks xs node seat.core → NodeLooks xs node (answered_seat seat a).core
answered_looks xs node seat a step k =
    step_looks xs node seat.core (answered_seat seat a).core 0 (agent_input seat.agent) no_choice.coming (reply.Api a) step
    (agent_looks_none xs seat (next_call seat.agent) a (agent_calls seat.agent)) (agent_begins_none xs node seat (next_call seat.agent) a (agent_calls seat.agent)) k

opened_looks : (xs : List Sought) (node : ℕ) (plan : NodePlan) (h : Holding) → NodeLooks xs node (opened_seat plan h).core
unfolding opened_seat
opened_looks xs node plan h = opened (worlds_begin plan h no_choice.coming) where
  registered : Seat
  registered = answered_seat (fresh_seat plan h) (answer.Asa 1)

  declared : Seat
  declared = answered_seat registered answer.Done

  opened : OpeningsAreSteps plan h no_choice.coming → NodeLooks xs node (answered_seat declared answer.NotYet).core
  opened o =
      answered_looks xs node declared answer.NotYet o.listens
      (answered_looks xs node registered answer.Done o.declares (answered_looks xs node (fresh_seat plan h) (answer.Asa 1) o.registers (fresh_looks xs node plan)))

-- a member that begins anew begins without a search
begun_more : (ms : List Member) (m : Member) (x : Sought) → IsBegunBy ms x → IsBegunBy (ms ++ m ∷ []) x
begun_more ms m x k = record { member = k.member; begun_at = numbered_before ms m x.search.node k.member k.begun_at; address = k.address }

begun_sought : (s : Setting) (ms : List Member) (w : WorldState) (node : ℕ) (image : PoolImage) (seat : Seat) (m : Member) → seat_at w (present_life w node) ≡ Some seat → IsSought ms w
    → IsSought (ms ++ m ∷ []) (restarted s w node (present_life w node) image seat m)
begun_sought s ms w node image seat m here k = record {
  sought = k.sought;
  looks = record {
    nodes = begun_each (NodeLooks k.sought) s w node (present_life w node) image seat m here (opened_looks k.sought (length w.seats + 1) m.plan (pool_of_image image)) k.looks.nodes;
    sent = k.looks.sent;
  };
  begun = All-weaker (IsBegunBy ms) (IsBegunBy (ms ++ m ∷ [])) (begun_more ms m) k.sought k.begun;
  searches = k.searches;
}

-- ---- the first network

first_nodes : (s : Setting) → OfEachNode (NodeLooks []) (first_world s)
unfolding first_world
first_nodes s node seat found = by_zero (node == 0) refl where
  by_member : IsMade first_seat s.members (node - 1) seat → NodeLooks [] node seat.core
  by_member m = subst (λ (x : Seat). NodeLooks [] node x.core) m.made (opened_looks [] node m.of.plan (pool_of m.of.roots))

  by_zero : (b : Bool) → (node == 0) ≡ b → NodeLooks [] node seat.core
  by_zero true is = absurd (none-some seat (subst (λ z. cond z None (slice_get (map first_seat s.members) (node - 1)) ≡ Some seat) is found))
  by_zero false is =
      by_member (is_made first_seat s.members (node - 1) seat (subst (λ z. cond z None (slice_get (map first_seat s.members) (node - 1)) ≡ Some seat) is found))

first_sought : (s : Setting) → IsSought s.members (first_world s)
unfolding first_world
first_sought s = record { sought = []; looks = record { nodes = first_nodes s; sent = All-nil (SentLooks []) }; begun = All-nil (IsBegunBy s.members); searches = refl }

-- ---- what was begun was begun in a life of the network

seat_begun : (s : Setting) (ms : List Member) (w : WorldState) (x : Sought) → AreSound s ms w → IsBegunBy ms x → IsBegunIn w x
seat_begun s ms w x sound k = at_seat (stands w.seats ms x.search.node k.member sound.count k.begun_at) where
  with_node : (st : Stands w.seats x.search.node) → NodeMade ms w.flood_calls x.search.node st.x.core → IsBegunIn w x
  with_node st n = record {
    seat = st.x;
    begun_at = st.is;
    address = k.address ∙ (ap (λ (y : Member). y.plan.address) (same_Some k.member n.member (sym k.begun_at ∙ n.found)) ∙ sym (ap (λ (p : NodePlan). p.address) n.plan));
  }

  at_seat : Stands w.seats x.search.node → IsBegunIn w x
  at_seat st = with_node st (sound.made.nodes x.search.node st.x st.is)

search_found : (w : WorldState) (xs : List Sought) (session : ℕ) (initiator : Address) (topic : Topic) → All (IsBegunIn w) xs → Looks xs session initiator topic
    → Any (IsOfSearch w session initiator topic) xs
search_found w xs session initiator topic begun k = (k.among.0, k.it, k.among.1, k.among.2, of_seat (All-contains (IsBegunIn w) xs k.it begun k.among)) where
  of_seat : IsBegunIn w k.it → IsOfSearch w session initiator topic k.it
  of_seat b = record { seat = b.seat; begun_at = b.begun_at; address = k.told ∙ b.address; told = k.told; session_is = k.session_is; topic_is = k.topic_is }

message_sought : (w : WorldState) (xs : List Sought) (m : Message) → All (IsBegunIn w) xs → MessageLooks xs m → IsMessageSought w xs m
message_sought w xs (Discovery session initiator o) begun k =
    record { search = search_found w xs session initiator (topic_of o.name (kind_of o.flags)) begun k.search; flags = k.flags }
message_sought w xs _ begun k = tt

queued_sought : (w : WorldState) (xs : List Sought) (q : Queued) → All (IsBegunIn w) xs → QueuedLooks xs q → IsQueuedSought w xs q
queued_sought w xs (datagram link to m) begun k = message_sought w xs m begun k
queued_sought w xs (dial stream to) begun k = tt
queued_sought w xs (send stream m) begun k = tt

kept_search : (xs : List Sought) (node : ℕ) (search : Search) → SearchLooks xs node search → Any (IsKeptSearch node search) xs
kept_search xs node search k = (k.among.0, k.it, k.among.1, k.among.2, k.is)

all_sought : (s : Setting) (ms : List Member) (w : WorldState) → AreSound s ms w → IsSought ms w → DiscoveriesAreSought w
all_sought s ms w sound k = so (All-weaker (IsBegunBy ms) (IsBegunIn w) (λ x. seat_begun s ms w x sound) k.sought k.begun) where
  so : All (IsBegunIn w) k.sought → DiscoveriesAreSought w
  so begun = record {
    sought = k.sought;
    searches = k.searches;
    begun = begun;
    sent = All-weaker (SentLooks k.sought) (λ d. IsMessageSought w k.sought d.message) (λ d. message_sought w k.sought d.message begun) w.datagrams k.looks.sent;
    queued = λ node seat found.
        All-weaker (QueuedLooks k.sought) (IsQueuedSought w k.sought) (λ q. queued_sought w k.sought q begun) seat.core.queue (k.looks.nodes node seat found).queue;
    remembered = λ node seat found.
        All-weaker (MemoryLooks k.sought) (IsMemorySought w k.sought) (λ memory. search_found w k.sought memory.0.session memory.0.initiator memory.1.topic begun)
        seat.core.discoveries.memories (k.looks.nodes node seat found).kept.memories;
    kept = λ node seat found.
        All-weaker (SearchLooks k.sought node) (λ search. Any (IsKeptSearch node search) k.sought) (kept_search k.sought node) seat.core.discoveries.searches
        (k.looks.nodes node seat found).kept.searches;
    settled = λ differ. are_settled k.sought (subst (AllPairs AreApart) (sym k.searches) differ);
  }

-- ---- every network

-- its lives are these members', all floods in it were made, and all discoveries begun
pub record AreWhole (s : Setting) (ms : List Member) (w : WorldState) : Type 0 where
  pub sound : AreSound s ms w
  pub sought : IsSought ms w

first_whole : (s : Setting) → AreWhole s s.members (first_world s)
first_whole s = record { sound = first_sound s; sought = first_sought s }

event_whole : (s : Setting) (ms : List Member) (w : WorldState) (e : Event) (c : Choice) → IsGoodSetting s → Occurs s w e c → AreWhole s ms w → AreWhole s ms (after_event s w e c)
event_whole s ms w e c good occurs k = record {
  sound = event_sound s ms w e c good occurs k.sound;
  sought = event_sought s ms w e c (good_members s ms good k.sound.are) occurs k.sound.made k.sought;
}

whole_sought : (s : Setting) (ms : List Member) (w : WorldState) → AreWhole s ms w → DiscoveriesAreSought w
whole_sought s ms w k = all_sought s ms w k.sound k.sought

pub record IsWhole (s : Setting) (w : WorldState) : Type 0 where
  pub lives : List Member
  pub whole : AreWhole s lives w

turns_whole : (s : Setting) → IsGoodSetting s → TurnsKeep s (IsWhole s)
turns_whole s good = record {
  events = λ w e c o k. record { lives = k.lives; whole = event_whole s k.lives w e c good o k.whole };
  settles = λ w node p dead k. settle_one w node p (IsWhole s) k
      (λ x o. record { lives = k.lives; whole = record { sound = one_sound s k.lives w x o k.whole.sound; sought = one_sought k.lives w x o k.whole.sought } });
  restarts = λ w node image may k. restart_by s w node image (IsWhole s) k
      (λ seat m here found. record {
        lives = k.lives ++ m ∷ [];
        whole = record { sound = begun_sound s k.lives w node image seat m here found k.whole.sound; sought = begun_sought s k.lives w node image seat m here k.whole.sought };
      });
}

reached_sought : (s : Setting) (w : WorldState) → IsWhole s w → DiscoveriesAreSought w
reached_sought s w k = whole_sought s k.lives w k.whole

each_sought : (s : Setting) (ms : List Member) → IsGoodSetting s → (hs : List Happening) (w : WorldState) → IsRun s w hs → AreWhole s ms w → All DiscoveriesAreSought (worlds_from s w hs)
unfolding IsRun worlds_from
each_sought s ms good [] w run k = All-cons DiscoveriesAreSought w [] (whole_sought s ms w k) (All-nil DiscoveriesAreSought)
each_sought s ms good (h ∷ hs) w run k =
    All-cons DiscoveriesAreSought w (worlds_from s (after_event s w h.event h.choice) hs) (whole_sought s ms w k)
    (each_sought s ms good hs (after_event s w h.event h.choice) run.1 (event_whole s ms w h.event h.choice good run.0 k))

pub discoveries_are_real : DiscoveriesAreReal
discoveries_are_real = record {
  reached = λ s w r. reached_sought s w (reached_keeps s (IsWhole s) (record { lives = s.members; whole = first_whole s }) (turns_whole s r.good) w r);
  worlds = λ s hs good run. each_sought s s.members good hs (first_world s) run (first_whole s);
}
