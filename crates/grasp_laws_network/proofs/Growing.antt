-- No event and no other turn takes back what was sent.
use Rattle.std.proofs.Common.{◌≡◌, refl, sym, ap, ◌∙◌, subst, arith, ℕ, ◌+◌, ◌*◌, ◌≤◌, ◌==◌, ◌||◌, Bool, true, false, List, [], ◌∷◌, ◌++◌, length, map, fold, take, Option, Some, None, append_assoc, append-nil}
use Rattle.grasp_agent.specs.Calls.{next_call}
use Rattle.grasp_agent.specs.Replies.{after_reply}
use Rattle.grasp_agent.specs.States.{AgentState}
use Rattle.grasp_cbor.proofs.Facts.Numbers.{itself, up}
use Rattle.grasp_model_node.specs.Begin.{begin}
use Rattle.grasp_model_node.specs.Draining.{closes, after_drain}
use Rattle.grasp_model_node.specs.Node.{NodeState}
use Rattle.grasp_model_node.specs.Queue.{Queued, datagram, dial, send, encoding}
use Rattle.grasp_session.specs.Messages.{Side, Near, Far, other}
use Rattle.grasp_pool.specs.declared.image.PoolImage.{PoolImage}
use Rattle.grasp_types.specs.Prefix.{AddressBlock as Prefix}
use Rattle.grasp_types.specs.declared.call.Call.{Call}
use Rattle.grasp_types.specs.declared.message.Message.{Message}
use Rattle.grasp_types.specs.declared.reply.Reply.{Reply}
use Rattle.grasp_model_network.specs.EventSteps.{after_agent_call, after_agent, after_arrival, after_clock, after_cut, after_delivery, answers_in, after_piece}
use Rattle.grasp_model_network.specs.StreamChanges.{arrived, arrival_by, told, Reached, reached_side, side_named, delivered}
use Rattle.grasp_model_network.specs.Events.{visit_of, after_visit, after_none, after_by, after_event, drains, drained_behind}
use Rattle.grasp_laws_network.proofs.Telling.{none_one}
use Rattle.grasp_laws_network.proofs.Turning.{settle_one, restart_by}
use Rattle.grasp_laws_network.specs.Telling.{OneAgent}
use Rattle.grasp_laws_network.specs.Keeping.{IsLonger, DirectionGrows, StreamGrows, StreamsGrow, WorldGrows, WhatWasSentStays, WhatWasSentStaysOverTurns}
use Rattle.grasp_model_network.specs.Notes.{noted, handles_in, floods_in, floods_read_in, searches_in}
use Rattle.grasp_model_network.specs.Restarting.{is_of_life, waits_for, told_if, told_at, restarted, after_restart}
use Rattle.grasp_model_network.specs.Routes.{Route, route_of}
use Rattle.grasp_model_network.specs.Sending.{gained, having_made, streams_made, seat_with, stepped, posted, dialled, sent_at, having_sent, having_closed, handed_over, drained, drained_at, drained_from, event_drain}
use Rattle.grasp_model_network.specs.Setting.{Member, Setting}
use Rattle.grasp_model_network.specs.Settling.{after_settle}
use Rattle.grasp_model_network.specs.Streams.{StreamEnd, Arrival, Direction, StreamState, told_closed, fresh_stream, side_of_end, sent_by, next_bytes, with_direction, with_side, with_said, with_sent, with_ended, with_delivered, with_number, with_far, changed_by, change_at_end, count_at_end, stream_numbered}
use Rattle.grasp_model_network.specs.Visits.{Visit, Choice}
use Rattle.grasp_model_network.specs.World.{Seat, DiscoveryAnswer, Offered, WorldState, present_life, member_of, seat_at, with_seat, end_of}
use Rattle.grasp_model_network.specs.declared.event.Event.{Event}
use Rattle.grasp_model_network.specs.declared.event.Event.TheVariants as event
use Rattle.grasp_model_network.specs.declared.turn.Turn.TheVariants as turn

-- ---- lists

pub as_long : {A : Type 0} (xs : List A) → IsLonger xs xs
as_long xs = ([], sym (append-nil xs))

pub longer_then : {A : Type 0} (xs ys zs : List A) → IsLonger xs ys → IsLonger ys zs → IsLonger xs zs
longer_then xs ys zs a b = (a.0 ++ b.0, b.1 ∙ (ap (λ q. q ++ b.0) a.1 ∙ append_assoc xs a.0 b.0))

pub longer_by : {A : Type 0} (xs more : List A) → IsLonger xs (xs ++ more)
longer_by xs more = (more, refl)

pub at_least : (a b : ℕ) → a ≤ a + b
at_least a b = omega arith

-- ---- one stream

pub same_direction : (d : Direction) → DirectionGrows d d
same_direction d = record { sent = as_long d.sent; delivered = itself d.delivered }

pub direction_then : (d e f : Direction) → DirectionGrows d e → DirectionGrows e f → DirectionGrows d f
direction_then d e f a b = record { sent = longer_then d.sent e.sent f.sent a.sent b.sent; delivered = up d.delivered e.delivered f.delivered a.delivered b.delivered }

pub same_talk : (t : StreamState) → StreamGrows t t
same_talk t = record { near = refl; to = refl; said = ([], refl); from_near = same_direction t.from_near; from_far = same_direction t.from_far }

pub talk_then : (t u x : StreamState) → StreamGrows t u → StreamGrows u x → StreamGrows t x
talk_then t u x a b = record {
  near = b.near ∙ a.near;
  to = b.to ∙ a.to;
  said = (b.said.0 ++ a.said.0, b.said.1 ∙ (ap (λ q. b.said.0 ++ q) a.said.1 ∙ sym (append_assoc b.said.0 a.said.0 t.said)));
  from_near = direction_then t.from_near u.from_near x.from_near a.from_near b.from_near;
  from_far = direction_then t.from_far u.from_far x.from_far a.from_far b.from_far;
}

-- a change by either side after which there is no less
abbrev Adds : (StreamState → Side → StreamState) → Type 0
Adds f = (t : StreamState) (side : Side) → StreamGrows t (f t side)

pub direction_grows : (t : StreamState) (side : Side) (d : Direction) → DirectionGrows (sent_by t side) d → StreamGrows t (with_direction t side d)
direction_grows t Near d g = record { near = refl; to = refl; said = ([], refl); from_near = g; from_far = same_direction t.from_far }
direction_grows t Far d g = record { near = refl; to = refl; said = ([], refl); from_near = same_direction t.from_near; from_far = g }

pub said_adds : (m : Message) → Adds (with_said m)
said_adds m t side = record {
  near = refl;
  to = refl;
  said = (record { side = side; message = m } ∷ [], refl);
  from_near = same_direction t.from_near;
  from_far = same_direction t.from_far;
}

pub sent_adds : (m : Message) → Adds (with_sent m)
sent_adds m t side =
    direction_grows t side (record (sent_by t side) { sent = (sent_by t side).sent ++ m ∷ [] })
    (record { sent = longer_by (sent_by t side).sent (m ∷ []); delivered = itself (sent_by t side).delivered })

pub ended_adds : Adds with_ended
ended_adds t side =
    direction_grows t side (record (sent_by t side) { ended = true }) (record { sent = as_long (sent_by t side).sent; delivered = itself (sent_by t side).delivered })

pub delivered_adds : (count : ℕ) → Adds (with_delivered count)
delivered_adds count t side =
    direction_grows t (other side) (record (sent_by t (other side)) { delivered = (sent_by t (other side)).delivered + length (next_bytes t (other side) count) })
    (record { sent = as_long (sent_by t (other side)).sent; delivered = at_least (sent_by t (other side)).delivered (length (next_bytes t (other side) count)) })

pub number_adds : (k : ℕ) → Adds (with_number k)
number_adds k t side = record { near = refl; to = refl; said = ([], refl); from_near = same_direction t.from_near; from_far = same_direction t.from_far }

pub far_adds : (far : StreamEnd) (a : Arrival) → Adds (with_far far a)
far_adds far a t side = record { near = refl; to = refl; said = ([], refl); from_near = same_direction t.from_near; from_far = same_direction t.from_far }

pub side_adds : (a : Arrival) → Adds (with_side a)
side_adds a t Near = record { near = refl; to = refl; said = ([], refl); from_near = same_direction t.from_near; from_far = same_direction t.from_far }
side_adds a t Far = record { near = refl; to = refl; said = ([], refl); from_near = same_direction t.from_near; from_far = same_direction t.from_far }

-- ---- all streams

pub same_talks : (ts : List StreamState) → StreamsGrow ts ts
same_talks [] = tt
same_talks (t ∷ ts) = (same_talk t, same_talks ts)

pub talks_then : (ts us xs : List StreamState) → StreamsGrow ts us → StreamsGrow us xs → StreamsGrow ts xs
talks_then [] us xs a b = tt
talks_then (t ∷ ts) [] xs a b = absurd a
talks_then (t ∷ ts) (u ∷ us) [] a b = absurd b
talks_then (t ∷ ts) (u ∷ us) (x ∷ xs) a b = (talk_then t u x a.0 b.0, talks_then ts us xs a.1 b.1)

pub changed_grows : (f : StreamState → Side → StreamState) (t : StreamState) (side : Option Side) → Adds f → StreamGrows t (changed_by f t side)
changed_grows f t None a = same_talk t
changed_grows f t (Some side) a = a t side

pub changes_grow : (ts : List StreamState) (e : StreamEnd) (f : StreamState → Side → StreamState) → Adds f → StreamsGrow ts (change_at_end ts e f)
changes_grow [] e f a = tt
changes_grow (t ∷ ts) e f a = (changed_grows f t (side_of_end e t) a, changes_grow ts e f a)

pub more_talks : (ts more : List StreamState) → StreamsGrow ts (ts ++ more)
more_talks [] more = tt
more_talks (t ∷ ts) more = (same_talk t, more_talks ts more)

pub made_grows : (node : ℕ) (ts : List StreamState) (q : Queued) → StreamsGrow ts (having_made node ts q)
made_grows node ts (datagram link to m) = same_talks ts
made_grows node ts (dial stream to) = more_talks ts (fresh_stream (end_of node stream) to ∷ [])
made_grows node ts (send stream m) = changes_grow ts (end_of node stream) (with_said m) (said_adds m)

pub all_made_grow : (node : ℕ) (qs : List Queued) (ts : List StreamState) → StreamsGrow ts (streams_made node ts qs)
unfolding streams_made
all_made_grow node [] ts = same_talks ts
all_made_grow node (q ∷ qs) ts =
    talks_then ts (having_made node ts q) (streams_made node (having_made node ts q) qs) (made_grows node ts q)
    (all_made_grow node qs (having_made node ts q))

-- ---- a network

pub same_world : (w : WorldState) → WorldGrows w w
same_world w = record {
  datagrams = as_long w.datagrams;
  streams = same_talks w.streams;
  dials = itself w.dials;
  byte_count = itself w.byte_count;
  flood_calls = as_long w.flood_calls;
  floods_read = as_long w.floods_read;
  searches = as_long w.searches;
  answers = as_long w.answers;
  handles = as_long w.handles;
}

pub world_then : (w x y : WorldState) → WorldGrows w x → WorldGrows x y → WorldGrows w y
world_then w x y a b = record {
  datagrams = longer_then w.datagrams x.datagrams y.datagrams a.datagrams b.datagrams;
  streams = talks_then w.streams x.streams y.streams a.streams b.streams;
  dials = up w.dials x.dials y.dials a.dials b.dials;
  byte_count = up w.byte_count x.byte_count y.byte_count a.byte_count b.byte_count;
  flood_calls = longer_then w.flood_calls x.flood_calls y.flood_calls a.flood_calls b.flood_calls;
  floods_read = longer_then w.floods_read x.floods_read y.floods_read a.floods_read b.floods_read;
  searches = longer_then w.searches x.searches y.searches a.searches b.searches;
  answers = longer_then w.answers x.answers y.answers a.answers b.answers;
  handles = longer_then w.handles x.handles y.handles a.handles b.handles;
}

-- with other nodes and offers
pub seats_grow : (w : WorldState) (seats : List Seat) (offers settled : List Offered) → WorldGrows w (record w { seats = seats; offers = offers; settled = settled })
seats_grow w seats offers settled = record {
  datagrams = as_long w.datagrams;
  streams = same_talks w.streams;
  dials = itself w.dials;
  byte_count = itself w.byte_count;
  flood_calls = as_long w.flood_calls;
  floods_read = as_long w.floods_read;
  searches = as_long w.searches;
  answers = as_long w.answers;
  handles = as_long w.handles;
}

-- with streams of which there are no fewer
pub talks_grow : (w : WorldState) (ts : List StreamState) → StreamsGrow w.streams ts → WorldGrows w (record w { streams = ts })
talks_grow w ts g = record {
  datagrams = as_long w.datagrams;
  streams = g;
  dials = itself w.dials;
  byte_count = itself w.byte_count;
  flood_calls = as_long w.flood_calls;
  floods_read = as_long w.floods_read;
  searches = as_long w.searches;
  answers = as_long w.answers;
  handles = as_long w.handles;
}

-- ---- what is sent

pub posted_grows : (w : WorldState) (m : Message) (route : Option Route) → WorldGrows w (posted w m route)
posted_grows w m None = same_world w
posted_grows w m (Some route) = record {
  datagrams = longer_by w.datagrams (record { route = route; message = m } ∷ []);
  streams = same_talks w.streams;
  dials = itself w.dials;
  byte_count = at_least w.byte_count (length (encoding m));
  flood_calls = as_long w.flood_calls;
  floods_read = as_long w.floods_read;
  searches = as_long w.searches;
  answers = as_long w.answers;
  handles = as_long w.handles;
}

pub dialled_grows : (w : WorldState) (e : StreamEnd) → WorldGrows w (dialled w e)
dialled_grows w e = record {
  datagrams = as_long w.datagrams;
  streams = changes_grow w.streams e (with_number (w.dials + 1)) (number_adds (w.dials + 1));
  dials = at_least w.dials 1;
  byte_count = itself w.byte_count;
  flood_calls = as_long w.flood_calls;
  floods_read = as_long w.floods_read;
  searches = as_long w.searches;
  answers = as_long w.answers;
  handles = as_long w.handles;
}

pub sent_at_grows : (w : WorldState) (e : StreamEnd) (m : Message) → WorldGrows w (sent_at w e m)
sent_at_grows w e m = record {
  datagrams = as_long w.datagrams;
  streams = changes_grow w.streams e (with_sent m) (sent_adds m);
  dials = itself w.dials;
  byte_count = at_least w.byte_count (count_at_end w.streams e * length (encoding m));
  flood_calls = as_long w.flood_calls;
  floods_read = as_long w.floods_read;
  searches = as_long w.searches;
  answers = as_long w.answers;
  handles = as_long w.handles;
}

pub sent_grows : (s : Setting) (node : ℕ) (w : WorldState) (q : Queued) → WorldGrows w (having_sent s node w q)
sent_grows s node w (datagram link to m) = posted_grows w m (route_of s (member_of w node) link to)
sent_grows s node w (dial stream to) = dialled_grows w (end_of node stream)
sent_grows s node w (send stream m) = sent_at_grows w (end_of node stream) m

pub all_sent_grow : (s : Setting) (node : ℕ) (qs : List Queued) (w : WorldState) → WorldGrows w (fold (having_sent s node) w qs)
all_sent_grow s node [] w = same_world w
all_sent_grow s node (q ∷ qs) w =
    world_then w (having_sent s node w q) (fold (having_sent s node) (having_sent s node w q) qs) (sent_grows s node w q)
    (all_sent_grow s node qs (having_sent s node w q))

pub closed_grows : (node : ℕ) (w : WorldState) (stream : ℕ) → WorldGrows w (having_closed node w stream)
closed_grows node w stream = talks_grow w (change_at_end w.streams (end_of node stream) with_ended) (changes_grow w.streams (end_of node stream) with_ended ended_adds)

pub all_closed_grow : (node : ℕ) (streams : List ℕ) (w : WorldState) → WorldGrows w (fold (having_closed node) w streams)
all_closed_grow node [] w = same_world w
all_closed_grow node (stream ∷ streams) w =
    world_then w (having_closed node w stream) (fold (having_closed node) (having_closed node w stream) streams) (closed_grows node w stream)
    (all_closed_grow node streams (having_closed node w stream))

pub handed_grows : (s : Setting) (w : WorldState) (node : ℕ) (qs : List Queued) (streams : List ℕ) → WorldGrows w (handed_over s w node qs streams)
unfolding handed_over
handed_grows s w node qs streams =
    world_then w (fold (having_sent s node) w qs) (fold (having_closed node) (fold (having_sent s node) w qs) streams)
    (all_sent_grow s node qs w) (all_closed_grow node streams (fold (having_sent s node) w qs))

pub drained_by_grows : (s : Setting) (w : WorldState) (node max : ℕ) (o : Option Seat) → WorldGrows w (drained_at s w node max o)
drained_by_grows s w node max None = same_world w
drained_by_grows s w node max (Some seat) = from (begin seat.core seat.core.reading) where
  put : NodeState → WorldState
  put m = with_seat w node (seat_with (after_drain m max) seat.agent)

  from : (m : NodeState) → WorldGrows w (drained_from s w node seat m max)
  from m =
      world_then w (put m) (drained_from s w node seat m max) (seats_grow w (put m).seats w.offers w.settled)
      (handed_grows s (put m) node (take max m.queue) (closes m max))

pub drained_grows : (s : Setting) (w : WorldState) (node max : ℕ) → WorldGrows w (drained s w node max)
unfolding drained
drained_grows s w node max = drained_by_grows s w node max (seat_at w node)

-- ---- a step

pub stepped_grows : (w : WorldState) (v : Visit) (core : NodeState) (agent : AgentState) → WorldGrows w (stepped w v core agent)
unfolding stepped
stepped_grows w v core agent = record {
  datagrams = as_long w.datagrams;
  streams = all_made_grow v.node (gained v.seat.core core) w.streams;
  dials = itself w.dials;
  byte_count = itself w.byte_count;
  flood_calls = as_long w.flood_calls;
  floods_read = as_long w.floods_read;
  searches = as_long w.searches;
  answers = as_long w.answers;
  handles = as_long w.handles;
}

pub noted_grows : (w : WorldState) (v : Visit) (asa : ℕ) (call : Call) (r : Reply) → WorldGrows w (noted w v asa call r)
unfolding noted
noted_grows w v asa call r = record {
  datagrams = as_long w.datagrams;
  streams = same_talks w.streams;
  dials = itself w.dials;
  byte_count = itself w.byte_count;
  flood_calls = longer_by w.flood_calls (floods_in v asa call r);
  floods_read = longer_by w.floods_read (floods_read_in r);
  searches = longer_by w.searches (searches_in v r);
  answers = as_long w.answers;
  handles = longer_by w.handles (handles_in v r);
}

pub answers_grow : (w : WorldState) (answers : List DiscoveryAnswer) → WorldGrows w (record w { answers = w.answers ++ answers })
answers_grow w answers = record {
  datagrams = as_long w.datagrams;
  streams = same_talks w.streams;
  dials = itself w.dials;
  byte_count = itself w.byte_count;
  flood_calls = as_long w.flood_calls;
  floods_read = as_long w.floods_read;
  searches = as_long w.searches;
  answers = longer_by w.answers answers;
  handles = as_long w.handles;
}

pub arrived_grows : (w : WorldState) (v : Visit) (number : ℕ) (r : Reply) (o : Option StreamState) → WorldGrows w (arrived w v number r o)
arrived_grows w v number r None = same_world w
arrived_grows w v number r (Some t) =
    talks_grow w (change_at_end w.streams t.near (with_far (end_of v.node number) (arrival_by r)))
    (changes_grow w.streams t.near (with_far (end_of v.node number) (arrival_by r)) (far_adds (end_of v.node number) (arrival_by r)))

pub delivered_grows : (w : WorldState) (count : ℕ) (o : Option Reached) → WorldGrows w (delivered w count o)
delivered_grows w count None = same_world w
delivered_grows w count (Some x) = talks_grow w (change_at_end w.streams x.at (with_delivered count)) (changes_grow w.streams x.at (with_delivered count) (delivered_adds count))

pub told_grows : (w : WorldState) (o : Option Reached) → WorldGrows w (told w o)
told_grows w None = same_world w
told_grows w (Some x) = talks_grow w (change_at_end w.streams x.at (with_side told_closed)) (changes_grow w.streams x.at (with_side told_closed) (side_adds told_closed))

-- a step in a network with the same lists of answers
pub answered_grows : (w x : WorldState) (answers : List DiscoveryAnswer) → w.answers ≡ x.answers → WorldGrows x (record x { answers = w.answers ++ answers })
answered_grows w x answers same = subst (λ xs. WorldGrows x (record x { answers = xs ++ answers })) (sym same) (answers_grow x answers)

pub step_answers : (w : WorldState) (v : Visit) (c : Choice) → w.answers ≡ (stepped w v c.after v.seat.agent).answers
unfolding stepped
step_answers w v c = refl

pub step_behind : (w x : WorldState) (v : Visit) (c : Choice) → WorldGrows w x → WorldGrows w (stepped x v c.after v.seat.agent)
step_behind w x v c g = world_then w x (stepped x v c.after v.seat.agent) g (stepped_grows x v c.after v.seat.agent)

-- ---- each kind of event

pub visit_grows : (s : Setting) (w : WorldState) (e : Event) (v : Visit) (c : Choice) → WorldGrows w (after_visit s w e v c)
unfolding after_clock after_agent after_agent_call after_delivery after_arrival after_piece after_cut
visit_grows s w (event.Clock node millis) v c = stepped_grows w v c.after v.seat.agent
visit_grows s w (event.Want node length longest peer) v c = same_world w
visit_grows s w (event.Return node prefix peer) v c = same_world w
visit_grows s w (event.Agent node hold) v c =
    world_then w (noted (put) v v.seat.agent.asa (next_call v.seat.agent) c.reply) (after_agent w v c)
    (world_then w put (noted put v v.seat.agent.asa (next_call v.seat.agent) c.reply) (stepped_grows w v c.after (after_reply v.seat.agent c.reply)) (noted_grows put v v.seat.agent.asa (next_call v.seat.agent) c.reply))
    (seats_grow (noted put v v.seat.agent.asa (next_call v.seat.agent) c.reply) (after_agent w v c).seats (after_agent w v c).offers (after_agent w v c).settled)
  where
    put : WorldState
    put = stepped w v c.after (after_reply v.seat.agent c.reply)
visit_grows s w (event.Api node asa call hold) v c =
    world_then w (stepped w v c.after v.seat.agent) (after_agent_call w v asa call c) (stepped_grows w v c.after v.seat.agent)
    (noted_grows (stepped w v c.after v.seat.agent) v asa call c.reply)
visit_grows s w (event.Datagram index hold) v c =
    world_then w (stepped w v c.after v.seat.agent) (after_delivery w v index c) (stepped_grows w v c.after v.seat.agent)
    (answered_grows w (stepped w v c.after v.seat.agent) (answers_in w v index c) (step_answers w v c))
visit_grows s w (event.Arrive stream hold) v c = step_behind w (arrived w v (s.arrives_as v.node stream) c.reply (stream_numbered w.streams stream)) v c (arrived_grows w v (s.arrives_as v.node stream) c.reply (stream_numbered w.streams stream))
visit_grows s w (event.Bytes stream far count hold) v c =
    step_behind w (delivered w count (reached_side w stream (side_named far))) v c (delivered_grows w count (reached_side w stream (side_named far)))
visit_grows s w (event.Cut stream far hold) v c = step_behind w (told w (reached_side w stream (side_named far))) v c (told_grows w (reached_side w stream (side_named far)))
visit_grows s w (event.Drain node max) v c = drained_grows s w v.node max

pub behind_grows : (b : Bool) (s : Setting) (w : WorldState) (node : ℕ) → WorldGrows w (drained_behind b s w node)
behind_grows true s w node = drained_grows s w node event_drain
behind_grows false s w node = same_world w

-- another agent sends nothing
pub one_grows : (w x : WorldState) → OneAgent w x → WorldGrows w x
one_grows w x o =
    subst (λ (y : WorldState). WorldGrows w y) (sym o.after) (seats_grow w (with_seat w o.node (seat_with o.seat.core o.agent)).seats o.offers o.settled)

pub none_grows : (s : Setting) (w : WorldState) (e : Event) → WorldGrows w (after_none s w e)
none_grows s w e = none_one s w e (λ x. WorldGrows w x) (same_world w) (one_grows w)

pub by_grows : (s : Setting) (w : WorldState) (e : Event) (c : Choice) (o : Option Visit) → WorldGrows w (after_by s w e c o)
by_grows s w e c None = none_grows s w e
by_grows s w e c (Some v) =
    world_then w (after_visit s w e v c) (drained_behind (drains e) s (after_visit s w e v c) v.node) (visit_grows s w e v c)
    (behind_grows (drains e) s (after_visit s w e v c) v.node)

pub what_was_sent_stays : WhatWasSentStays
unfolding after_event
what_was_sent_stays s w e c = by_grows s w e c (visit_of s w e)

-- ---- the other turns

settle_grows : (w : WorldState) (node : ℕ) (p : Prefix) → WorldGrows w (after_settle w node p)
settle_grows w node p = settle_one w node p (λ x. WorldGrows w x) (same_world w) (one_grows w)

told_if_grows : (b : Bool) (side : Side) (t : StreamState) → StreamGrows t (told_if b side t)
told_if_grows true side t = side_adds told_closed t side
told_if_grows false side t = same_talk t

told_at_grows : (s : Setting) (node life : ℕ) (t : StreamState) → StreamGrows t (told_at s node life t)
told_at_grows s node life t =
    talk_then t (told_if (t.near.node == life) Near t) (told_at s node life t) (told_if_grows (t.near.node == life) Near t)
    (told_if_grows (is_of_life life t.far || waits_for s node t) Far (told_if (t.near.node == life) Near t))

all_told_grow : (s : Setting) (node life : ℕ) (ts : List StreamState) → StreamsGrow ts (map (told_at s node life) ts)
all_told_grow s node life [] = tt
all_told_grow s node life (t ∷ ts) = (told_at_grows s node life t, all_told_grow s node life ts)

-- another life, and other offers
begun_grows : (s : Setting) (w : WorldState) (node life : ℕ) (image : PoolImage) (seat : Seat) (m : Member) → WorldGrows w (restarted s w node life image seat m)
begun_grows s w node life image seat m = record {
  datagrams = as_long w.datagrams;
  streams = all_told_grow s node life w.streams;
  dials = itself w.dials;
  byte_count = itself w.byte_count;
  flood_calls = as_long w.flood_calls;
  floods_read = as_long w.floods_read;
  searches = as_long w.searches;
  answers = as_long w.answers;
  handles = as_long w.handles;
}

restart_grows : (s : Setting) (w : WorldState) (node : ℕ) (image : PoolImage) → WorldGrows w (after_restart s w node image)
restart_grows s w node image =
    restart_by s w node image (λ x. WorldGrows w x) (same_world w) (λ seat m here found. begun_grows s w node (present_life w node) image seat m)

pub what_was_sent_stays_over_turns : WhatWasSentStaysOverTurns
what_was_sent_stays_over_turns s w (turn.Event e) c = what_was_sent_stays s w e c
what_was_sent_stays_over_turns s w (turn.Settle node p) c = settle_grows w node p
what_was_sent_stays_over_turns s w (turn.Restart node image) c = restart_grows s w node image
