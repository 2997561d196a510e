-- Each event leaves it so: each discovery that is kept, queued and sent was begun by a search.
use Rattle.std.proofs.Common.{◌≡◌, refl, sym, ap, ◌∙◌, subst, ℕ, ◌<◌, ◌≤◌, ◌^◌, List, [], ◌∷◌, ◌++◌, map, All, Option, Some, None, Bool, true, false, cond}
use Rattle.std.proofs.lemmas.List.Elements.{All-append, All-cons, All-nil, Contains-push}
use Rattle.grasp_agent.specs.Calls.{next_call}
use Rattle.grasp_agent.specs.Replies.{answer_in, after_reply}
use Rattle.grasp_agent.specs.States.{AgentState}
use Rattle.grasp_laws_node.proofs.Remembered.{begun}
use Rattle.grasp_model_node.specs.Begin.{begin}
use Rattle.grasp_model_node.specs.Datagrams.{Carries}
use Rattle.grasp_model_node.specs.Draws.{next_session}
use Rattle.grasp_model_node.specs.Node.{NodeState}
use Rattle.grasp_model_node.specs.Queue.{encoding}
use Rattle.grasp_model_node.specs.Step.{Coming, IsComing}
use Rattle.grasp_model_node.specs.declared.plan.NodePlan.{NodePlan}
use Rattle.grasp_discovery.specs.Topic.{topic_of}
use Rattle.grasp_discovery.specs.declared.topic.Topic.{Topic}
use Rattle.grasp_laws_network.proofs.EachNode.{stepped_each, one_each}
use Rattle.grasp_laws_network.proofs.Here.{visits_are_here}
use Rattle.grasp_laws_network.proofs.Telling.{none_one}
use Rattle.grasp_laws_network.specs.Telling.{OneAgent}
use Rattle.grasp_model_network.proofs.Facts.{numbered_all}
use Rattle.grasp_model_network.specs.EventSteps.{after_agent_call, after_agent, after_arrival, after_clock, after_cut, after_delivery, after_piece}
use Rattle.grasp_model_network.specs.StreamChanges.{arrived, told, Reached, reached_side, side_named, delivered}
use Rattle.grasp_model_network.specs.Events.{visit_of, after_visit, after_by, after_event, drains, drained_behind, Occurs}
use Rattle.grasp_laws_network.specs.Keeping.{IsHere}
use Rattle.grasp_laws_network.specs.Nodes.{OfEachNode}
use Rattle.grasp_model_network.specs.Notes.{noted, is_searching, searches_in}
use Rattle.grasp_model_network.specs.Sending.{stepped}
use Rattle.grasp_model_network.specs.Setting.{Member, Setting, numbered}
use Rattle.grasp_model_network.specs.Streams.{StreamState, stream_numbered}
use Rattle.grasp_model_network.specs.Visits.{Visit, Choice, MayCome, VisitStep}
use Rattle.grasp_model_network.specs.World.{FloodCall, SearchCall, WorldState}
use Rattle.grasp_model_network.specs.declared.event.Event.{Event}
use Rattle.grasp_model_network.specs.declared.event.Event.TheVariants as event
use Rattle.grasp_types.specs.Message.{IsMessage}
use Rattle.grasp_types.specs.declared.call.Call.{Call}
use Rattle.grasp_types.specs.declared.call.Call.TheVariants as call
use Rattle.grasp_types.specs.declared.message.Message.{Message}
use Rattle.grasp_types.specs.declared.reply.ApiAnswer.{ApiAnswer}
use Rattle.grasp_types.specs.declared.reply.ApiAnswer.TheVariants as answer
use Rattle.grasp_types.specs.declared.reply.Reply.{Reply}
use Rattle.grasp_types.specs.declared.reply.Reply.TheVariants as reply
use Rattle.grasp_types.specs.declared.session.Kind.{Kind}
use Rattle.grasp_types.specs.declared.session.Kind.TheVariants.{Negotiation}
use Rattle.grasp_types.specs.declared.traffic.Input.{Input}
use Rattle.grasp_types.specs.declared.traffic.Input.TheVariants as input
use Rattle.grasp_laws_floods.proofs.Decoded.{decoded}
use Rattle.grasp_laws_floods.proofs.Happened.{IsMade}
use Rattle.grasp_laws_floods.proofs.Inputs.{node_limit}
use Rattle.grasp_laws_floods.proofs.Looks.{MessageLooks, OptionLooks}
use Rattle.grasp_laws_floods.proofs.LooksNodes.{NodeLooks, InputBegun, node_looks_more, begun_input, step_looks}
use Rattle.grasp_laws_floods.proofs.LooksQueued.{InputLooks}
use Rattle.grasp_laws_floods.proofs.LooksTables.{IsBegun, OwnBegun}
use Rattle.grasp_laws_floods.proofs.LooksWorlds.{SentLooks, WorldLooks, DrainedLooks, world_looks_more, drained_looks, behind_looks}
use Rattle.grasp_laws_floods.proofs.Nodes.{NodeMade, begin_made}
use Rattle.grasp_laws_floods.proofs.Ranges.{AreGood}
use Rattle.grasp_laws_floods.proofs.Visited.{IsQuiet, IsSent, GivenBy, given_by}
use Rattle.grasp_laws_floods.proofs.Worlds.{SentMade}
use Rattle.grasp_laws_floods.specs.Sought.{Sought}

-- the search was begun in a life of a member, at whose address it was told
pub record IsBegunBy (ms : List Member) (x : Sought) : Type 0 where
  pub member : Member
  pub begun_at : numbered ms x.search.node ≡ Some member
  pub address : x.search.address ≡ member.plan.address

-- a network whose searches began all discoveries in it; of each life it is known whose it is
pub record IsSought (ms : List Member) (w : WorldState) : Type 0 where
  pub sought : List Sought
  pub looks : WorldLooks sought w
  pub begun : All (IsBegunBy ms) sought
  pub searches : map (λ x. x.search) sought ≡ w.searches

-- ---- the searches of a step

-- what a call looks for
abbrev pub topic_for : Call → Topic
topic_for (call.Discover name kind loops timeout) = topic_of name kind
topic_for _ = topic_of [] Negotiation

abbrev pub sought_as : Topic → SearchCall → Sought
sought_as t x = record { search = x; topic = t }

-- the search that a call begins, with what it looks for
abbrev pub sought_in : Visit → Call → Reply → List Sought
sought_in v it r = map (sought_as (topic_for it)) (searches_in v r)

all_searches : (t : Topic) (cs : List SearchCall) → map (λ (x : Sought). x.search) (map (sought_as t) cs) ≡ cs
all_searches t [] = refl
all_searches t (c ∷ cs) = ap (λ q. c ∷ q) (all_searches t cs)

more_searches : (xs ys : List Sought) → map (λ (x : Sought). x.search) (xs ++ ys) ≡ map (λ (x : Sought). x.search) xs ++ map (λ (x : Sought). x.search) ys
more_searches [] ys = refl
more_searches (x ∷ xs) ys = ap (λ q. x.search ∷ q) (more_searches xs ys)

searching_noted : (v : Visit) (before : List Sought) (name : List ℕ) (kind : Kind) (loops timeout : ℕ)
    → IsBegun (before ++ sought_in v (call.Discover name kind loops timeout) (reply.Api answer.Searching)) v.node (begin v.seat.core v.now) (topic_of name kind)
unfolding searches_in
searching_noted v before name kind loops timeout = record {
  it = _;
  among = Contains-push before _;
  node_is = refl;
  address_is = ap (λ (p : NodePlan). p.address) (begun v.seat.core v.now).plan;
  session_is = refl;
  topic_is = refl;
}

call_begun : (v : Visit) (before : List Sought) (it : Call) (a : ApiAnswer) → OwnBegun (before ++ sought_in v it (reply.Api a)) v.node (begin v.seat.core v.now) it a
call_begun v before (call.Discover name kind loops timeout) a = λ e.
    subst (λ b. IsBegun (before ++ sought_in v (call.Discover name kind loops timeout) (reply.Api b)) v.node (begin v.seat.core v.now) (topic_of name kind)) (sym e)
    (searching_noted v before name kind loops timeout)
call_begun v before it a = tt

input_begun : (v : Visit) (before : List Sought) (asa : ℕ) (it : Call) (r : Reply) → InputBegun (before ++ sought_in v it r) v.node (begin v.seat.core v.now) (input.Api asa it) r
input_begun v before asa it (reply.Api a) = call_begun v before it a
input_begun v before asa it _ = tt

-- ---- other inputs

quiet_looks : (xs : List Sought) (n : NodeState) (i : Input) (x : Coming) (r : Reply) → IsQuiet i → InputLooks xs n i x r
quiet_looks xs n (input.Api asa it) x r q = absurd q
quiet_looks xs n (input.Datagram link from bytes) x r q = absurd q
quiet_looks xs n _ x r q = tt

quiet_begun : (xs : List Sought) (node : ℕ) (n : NodeState) (i : Input) (r : Reply) → IsQuiet i → InputBegun xs node n i r
quiet_begun xs node n (input.Api asa it) r q = absurd q
quiet_begun xs node n (input.Datagram link from bytes) r q = absurd q
quiet_begun xs node n _ r q = tt

carried_looks : (xs : List Sought) (limit : ℕ) (d : Message) (o : Option Message) → limit < 2 ^ 64 → IsMessage d → MessageLooks xs d
    → Carries limit (encoding d) o → OptionLooks xs o
carried_looks xs limit d None small is k c = tt
carried_looks xs limit d (Some other) small is k c = subst (MessageLooks xs) (decoded limit d other small is c) k

datagram_looks : (ms : List Member) (xs : List Sought) (w : WorldState) (node index : ℕ) (n : NodeState) (i : Input) (x : Coming) (r : Reply) → AreGood ms → NodeMade ms w.flood_calls node n
    → All (SentMade ms w.flood_calls) w.datagrams → All (SentLooks xs) w.datagrams → IsSent w index i → IsComing n i x → InputLooks xs n i x r
datagram_looks ms xs w node index n i x r good k made sent is comes =
    subst (λ j. InputLooks xs n j x r) (sym is.is)
    (carried_looks xs n.plan.limit is.sent.message x.carried (node_limit ms w.flood_calls node n good k)
    (numbered_all (SentMade ms w.flood_calls) w.datagrams index is.sent made is.found).is_message
    (numbered_all (SentLooks xs) w.datagrams index is.sent sent is.found) (subst (λ j. IsComing n j x) is.is comes))

sent_begun : (xs : List Sought) (w : WorldState) (node index : ℕ) (n : NodeState) (i : Input) (r : Reply) → IsSent w index i → InputBegun xs node n i r
sent_begun xs w node index n i r is = subst (λ j. InputBegun xs node n j r) (sym is.is) tt

-- ---- steps

steps_on : (xs : List Sought) (v : Visit) (c : Choice) → VisitStep v c → InputLooks xs (begin v.seat.core v.now) v.input c.coming c.reply
    → InputBegun xs v.node (begin v.seat.core v.now) v.input c.reply → NodeLooks xs v.node v.seat.core → NodeLooks xs v.node c.after
steps_on xs v c step given own k = step_looks xs v.node v.seat.core c.after v.now v.input c.coming c.reply step.steps given own k

quiet_on : (xs : List Sought) (v : Visit) (c : Choice) → VisitStep v c → IsQuiet v.input → NodeLooks xs v.node v.seat.core → NodeLooks xs v.node c.after
quiet_on xs v c step q k =
    steps_on xs v c step (quiet_looks xs (begin v.seat.core v.now) v.input c.coming c.reply q) (quiet_begun xs v.node (begin v.seat.core v.now) v.input c.reply q) k

datagram_on : (ms : List Member) (xs : List Sought) (w : WorldState) (v : Visit) (c : Choice) (index : ℕ) → AreGood ms → VisitStep v c → IsSent w index v.input → IsMade ms w
    → NodeMade ms w.flood_calls v.node v.seat.core → WorldLooks xs w → NodeLooks xs v.node v.seat.core → NodeLooks xs v.node c.after
datagram_on ms xs w v c index good step is made n k looks =
    steps_on xs v c step
    (datagram_looks ms xs w v.node index (begin v.seat.core v.now) v.input c.coming c.reply good (begin_made ms w.flood_calls v.node v.seat.core v.now n) made.sent k.sent is step.steps.is_coming)
    (sent_begun xs w v.node index (begin v.seat.core v.now) v.input c.reply is) looks

call_on : (xs : List Sought) (v : Visit) (c : Choice) (asa : ℕ) (it : Call) → VisitStep v c → v.input ≡ input.Api asa it → NodeLooks xs v.node v.seat.core
    → NodeLooks (xs ++ sought_in v it c.reply) v.node c.after
call_on xs v c asa it step is looks = so (input_begun v xs asa it c.reply) where
  ys : List Sought
  ys = xs ++ sought_in v it c.reply

  so : InputBegun ys v.node (begin v.seat.core v.now) (input.Api asa it) c.reply → NodeLooks ys v.node c.after
  so b =
      steps_on ys v c step
      (subst (λ i. InputLooks ys (begin v.seat.core v.now) i c.coming c.reply) (sym is) (begun_input ys v.node (begin v.seat.core v.now) asa it c.coming c.reply b))
      (subst (λ i. InputBegun ys v.node (begin v.seat.core v.now) i c.reply) (sym is) b) (node_looks_more xs (sought_in v it c.reply) v.node v.seat.core looks)

-- ---- the network after a step

-- two networks with the same nodes, datagrams and searches
pub record SameSearches (w x : WorldState) : Type 0 where
  pub seats : x.seats ≡ w.seats
  pub datagrams : x.datagrams ≡ w.datagrams
  pub searches : x.searches ≡ w.searches

same_searches : (w : WorldState) → SameSearches w w
same_searches w = record { seats = refl; datagrams = refl; searches = refl }

arrived_same : (w : WorldState) (v : Visit) (number : ℕ) (r : Reply) (o : Option StreamState) → SameSearches w (arrived w v number r o)
arrived_same w v number r None = same_searches w
arrived_same w v number r (Some t) = record { seats = refl; datagrams = refl; searches = refl }

delivered_same : (w : WorldState) (count : ℕ) (o : Option Reached) → SameSearches w (delivered w count o)
delivered_same w count None = same_searches w
delivered_same w count (Some x) = record { seats = refl; datagrams = refl; searches = refl }

told_same : (w : WorldState) (o : Option Reached) → SameSearches w (told w o)
told_same w None = same_searches w
told_same w (Some x) = record { seats = refl; datagrams = refl; searches = refl }

still : (ms : List Member) (w x y : WorldState) (v : Visit) (c : Choice) (agent : AgentState) → 1 ≤ v.node → SameSearches w x → SameSearches (stepped x v c.after agent) y → (k : IsSought ms w)
    → NodeLooks k.sought v.node c.after → IsSought ms y
unfolding stepped
still ms w x y v c agent least a b k node = record {
  sought = k.sought;
  looks = record {
    nodes = stepped_each (NodeLooks k.sought) w x y v c.after agent least a.seats b.seats node k.looks.nodes;
    sent = subst (All (SentLooks k.sought)) (sym (b.datagrams ∙ a.datagrams)) k.looks.sent;
  };
  begun = k.begun;
  searches = k.searches ∙ sym (b.searches ∙ a.searches);
}

pub record NotedSearches (w y : WorldState) (v : Visit) (c : Choice) (agent : AgentState) : Type 0 where
  pub seats : y.seats ≡ (stepped w v c.after agent).seats
  pub datagrams : y.datagrams ≡ w.datagrams
  pub searches : y.searches ≡ w.searches ++ searches_in v c.reply

-- a search is begun in the life of its step
new_begun : (ms : List Member) (calls : List FloodCall) (v : Visit) (it : Call) (r : Reply) → NodeMade ms calls v.node v.seat.core → All (IsBegunBy ms) (sought_in v it r)
unfolding searches_in
new_begun ms calls v it r n = by_test (is_searching (answer_in r)) where
  x : SearchCall
  x = record { node = v.node; address = v.seat.core.plan.address; session = next_session (begin v.seat.core v.now) }

  by_test : (b : Bool) → All (IsBegunBy ms) (map (sought_as (topic_for it)) (cond b (x ∷ []) []))
  by_test true =
      All-cons (IsBegunBy ms) (sought_as (topic_for it) x) [] (record { member = n.member; begun_at = n.found; address = ap (λ (p : NodePlan). p.address) n.plan }) (All-nil (IsBegunBy ms))
  by_test false = All-nil (IsBegunBy ms)

called : (ms : List Member) (w y : WorldState) (v : Visit) (it : Call) (c : Choice) (agent : AgentState) → 1 ≤ v.node → NotedSearches w y v c agent
    → NodeMade ms w.flood_calls v.node v.seat.core → (k : IsSought ms w) → NodeLooks (k.sought ++ sought_in v it c.reply) v.node c.after → IsSought ms y
called ms w y v it c agent least e n k node = so (world_looks_more k.sought (sought_in v it c.reply) w k.looks) where
  ys : List Sought
  ys = k.sought ++ sought_in v it c.reply

  so : WorldLooks ys w → IsSought ms y
  so m = record {
    sought = ys;
    looks = record {
      nodes = stepped_each (NodeLooks ys) w w y v c.after agent least refl e.seats node m.nodes;
      sent = subst (All (SentLooks ys)) (sym e.datagrams) m.sent;
    };
    begun = All-append (IsBegunBy ms) k.sought (sought_in v it c.reply) k.begun (new_begun ms w.flood_calls v it c.reply n);
    searches = more_searches k.sought (sought_in v it c.reply)
        ∙ (ap (λ q. q ++ map (λ (x : Sought). x.search) (sought_in v it c.reply)) k.searches
        ∙ (ap (λ q. w.searches ++ q) (all_searches (topic_for it) (searches_in v c.reply)) ∙ sym e.searches));
  }

drain_sought : (ms : List Member) (w x : WorldState) → (k : IsSought ms w) → DrainedLooks k.sought w x → IsSought ms x
drain_sought ms w x k d = record { sought = k.sought; looks = d.looks; begun = k.begun; searches = k.searches ∙ sym d.searches }

visit_sought : (s : Setting) (ms : List Member) (w : WorldState) (e : Event) (v : Visit) (c : Choice) → AreGood ms → 1 ≤ v.node → VisitStep v c → GivenBy w e v → IsMade ms w
    → NodeMade ms w.flood_calls v.node v.seat.core → (k : IsSought ms w) → NodeLooks k.sought v.node v.seat.core → IsSought ms (after_visit s w e v c)
unfolding after_clock after_agent after_agent_call after_delivery after_arrival after_piece after_cut noted stepped
visit_sought s ms w (event.Clock node millis) v c good least step given made n k looks =
    still ms w w (after_clock w v c) v c v.seat.agent least (same_searches w) (same_searches (stepped w v c.after v.seat.agent)) k (quiet_on k.sought v c step given looks)
visit_sought s ms w (event.Want node wanted longest peer) v c good least step given made n k looks = k
visit_sought s ms w (event.Return node prefix peer) v c good least step given made n k looks = k
visit_sought s ms w (event.Agent node hold) v c good least step given made n k looks =
    called ms w (after_agent w v c) v (next_call v.seat.agent) c (after_reply v.seat.agent c.reply) least (record { seats = refl; datagrams = refl; searches = refl }) n k
    (call_on k.sought v c v.seat.agent.asa (next_call v.seat.agent) step given looks)
visit_sought s ms w (event.Api node asa it hold) v c good least step given made n k looks =
    called ms w (after_agent_call w v asa it c) v it c v.seat.agent least (record { seats = refl; datagrams = refl; searches = refl }) n k (call_on k.sought v c asa it step given looks)
visit_sought s ms w (event.Datagram index hold) v c good least step given made n k looks =
    still ms w w (after_delivery w v index c) v c v.seat.agent least (same_searches w) (record { seats = refl; datagrams = refl; searches = refl }) k
    (datagram_on ms k.sought w v c index good step given made n k.looks looks)
visit_sought s ms w (event.Arrive stream hold) v c good least step given made n k looks =
    still ms w (arrived w v (s.arrives_as v.node stream) c.reply (stream_numbered w.streams stream)) (after_arrival s w v stream c) v c v.seat.agent least
    (arrived_same w v (s.arrives_as v.node stream) c.reply (stream_numbered w.streams stream)) (same_searches (after_arrival s w v stream c)) k (quiet_on k.sought v c step given looks)
visit_sought s ms w (event.Bytes stream far count hold) v c good least step given made n k looks =
    still ms w (delivered w count (reached_side w stream (side_named far))) (after_piece w v stream (side_named far) count c) v c v.seat.agent least
    (delivered_same w count (reached_side w stream (side_named far))) (same_searches (after_piece w v stream (side_named far) count c)) k (quiet_on k.sought v c step given looks)
visit_sought s ms w (event.Cut stream far hold) v c good least step given made n k looks =
    still ms w (told w (reached_side w stream (side_named far))) (after_cut w v stream (side_named far) c) v c v.seat.agent least
    (told_same w (reached_side w stream (side_named far))) (same_searches (after_cut w v stream (side_named far) c)) k (quiet_on k.sought v c step given looks)
visit_sought s ms w (event.Drain node max) v c good least step given made n k looks =
    drain_sought ms w (after_visit s w (event.Drain node max) v c) k (drained_looks s k.sought w v.node max least k.looks)

-- ---- another agent

pub one_sought : (ms : List Member) (w x : WorldState) → OneAgent w x → IsSought ms w → IsSought ms x
one_sought ms w x o k =
    subst (λ (y : WorldState). OfEachNode (NodeLooks k.sought) y → IsSought ms y) (sym o.after)
    (λ each. record { sought = k.sought; looks = record { nodes = each; sent = k.looks.sent }; begun = k.begun; searches = k.searches }) (one_each (NodeLooks k.sought) w x o k.looks.nodes)

-- ---- an event

by_sought : (s : Setting) (ms : List Member) (w : WorldState) (e : Event) (c : Choice) (o : Option Visit) → AreGood ms → visit_of s w e ≡ o → MayCome o c → IsMade ms w → IsSought ms w
    → IsSought ms (after_by s w e c o)
by_sought s ms w e c None good is comes made k = none_one s w e (λ x. IsSought ms x) k (λ x o. one_sought ms w x o k)
by_sought s ms w e c (Some v) good is comes made k = here (visits_are_here s w e v is) where
  here : IsHere w v → IsSought ms (after_by s w e c (Some v))
  here h = behind (visit_sought s ms w e v c good h.member.least comes (given_by s w e v is) made (made.nodes v.node v.seat h.stands) k (k.looks.nodes v.node v.seat h.stands)) where
    behind : IsSought ms (after_visit s w e v c) → IsSought ms (after_by s w e c (Some v))
    behind g =
        drain_sought ms (after_visit s w e v c) (drained_behind (drains e) s (after_visit s w e v c) v.node) g
        (behind_looks (drains e) s g.sought (after_visit s w e v c) v.node h.member.least g.looks)

pub event_sought : (s : Setting) (ms : List Member) (w : WorldState) (e : Event) (c : Choice) → AreGood ms → Occurs s w e c → IsMade ms w → IsSought ms w → IsSought ms (after_event s w e c)
unfolding after_event
event_sought s ms w e c good occurs made k = by_sought s ms w e c (visit_of s w e) good refl occurs.comes made k
