-- The count of bytes is that of all datagrams and streams that were sent.
use Rattle.std.proofs.Common.{◌≡◌, refl, sym, ap, ◌∙◌, subst, arith, ℕ, ◌+◌, ◌*◌, ◌==◌, ◌||◌, Bool, true, false, cond, List, [], ◌∷◌, ◌++◌, length, map, fold, take, sum_by, is_some, Option, Some, None}
use Rattle.std.proofs.Math.Nat.{add-mul}
use Rattle.std.proofs.lemmas.List.{length-append}
use Rattle.std.proofs.lemmas.List.Sums.{sum_by-append, sum_by-cons}
use Rattle.grasp_agent.specs.Replies.{after_reply}
use Rattle.grasp_agent.specs.States.{AgentState}
use Rattle.grasp_model_node.specs.Begin.{begin}
use Rattle.grasp_model_node.specs.Draining.{closes, after_drain}
use Rattle.grasp_model_node.specs.Node.{NodeState}
use Rattle.grasp_model_node.specs.Queue.{Queued, datagram, dial, send, encoding}
use Rattle.grasp_session.specs.Messages.{Side, Near, Far}
use Rattle.grasp_pool.specs.declared.image.PoolImage.{PoolImage}
use Rattle.grasp_types.specs.Prefix.{AddressBlock as Prefix}
use Rattle.grasp_types.specs.declared.message.Message.{Message}
use Rattle.grasp_types.specs.declared.reply.Reply.{Reply}
use Rattle.grasp_wire.specs.Laws.{encoded}
use Rattle.grasp_laws_network.proofs.Reached.{reached_keeps}
use Rattle.grasp_laws_network.proofs.Telling.{none_one}
use Rattle.grasp_laws_network.proofs.Turning.{settle_one, restart_by}
use Rattle.grasp_model_network.specs.EventSteps.{after_agent_call, after_agent, after_arrival, after_clock, after_cut, after_delivery, after_piece}
use Rattle.grasp_model_network.specs.StreamChanges.{arrived, arrival_by, told, Reached, reached_side, side_named, delivered}
use Rattle.grasp_model_network.specs.Events.{visit_of, after_visit, after_none, after_by, after_event, drains, drained_behind}
use Rattle.grasp_laws_network.specs.Keeping.{IsCounted, BytesAreCounted}
use Rattle.grasp_laws_network.specs.Telling.{OneAgent}
use Rattle.grasp_model_network.specs.Notes.{noted}
use Rattle.grasp_model_network.specs.Restarting.{is_of_life, waits_for, told_if, told_at, restarted, after_restart}
use Rattle.grasp_model_network.specs.Routes.{Route, route_of}
use Rattle.grasp_model_network.specs.Runs.{first_world}
use Rattle.grasp_model_network.specs.Sending.{gained, having_made, streams_made, seat_with, stepped, posted, dialled, sent_at, having_sent, having_closed, handed_over, drained, drained_at, drained_from, event_drain}
use Rattle.grasp_model_network.specs.Setting.{Setting}
use Rattle.grasp_model_network.specs.Settling.{after_settle}
use Rattle.grasp_model_network.specs.Streams.{StreamEnd, Arrival, StreamState, told_closed, fresh_stream, side_of_end, has_end, with_side, with_said, with_sent, with_ended, with_delivered, with_number, with_far, changed_by, at_end, change_at_end, count_at_end, stream_numbered}
use Rattle.grasp_model_network.specs.Visits.{Visit, Choice}
use Rattle.grasp_model_network.specs.World.{Seat, WorldState, present_life, member_of, seat_at, with_seat, end_of, datagram_bytes, stream_bytes, bytes_sent}
use Rattle.grasp_model_network.specs.declared.event.Event.{Event}
use Rattle.grasp_model_network.specs.declared.event.Event.TheVariants as event

abbrev streams_bytes : List StreamState → ℕ
streams_bytes ts = sum_by stream_bytes ts

-- ---- a message more

pub encoded_more : (ms : List Message) (m : Message) → length (encoded (ms ++ m ∷ [])) ≡ length (encoded ms) + length (encoding m)
encoded_more [] m = last (encoding m) where
  last : (bytes : List ℕ) → length (bytes ++ []) ≡ 0 + length bytes
  last bytes = let h : length (bytes ++ []) ≡ length bytes + 0 = length-append bytes [] in omega arith
encoded_more (n ∷ ms) m =
    let a : length (encoding n ++ encoded (ms ++ m ∷ [])) ≡ length (encoding n) + length (encoded (ms ++ m ∷ [])) = length-append (encoding n) (encoded (ms ++ m ∷ [])) in
    let b : length (encoding n ++ encoded ms) ≡ length (encoding n) + length (encoded ms) = length-append (encoding n) (encoded ms) in
    let c : length (encoded (ms ++ m ∷ [])) ≡ length (encoded ms) + length (encoding m) = encoded_more ms m in
    omega arith

pub sent_more : (m : Message) (t : StreamState) (side : Side) → stream_bytes (with_sent m t side) ≡ stream_bytes t + length (encoding m)
sent_more m t Near =
    let a : length (encoded (t.from_near.sent ++ m ∷ [])) ≡ length (encoded t.from_near.sent) + length (encoding m) = encoded_more t.from_near.sent m in omega arith
sent_more m t Far =
    let a : length (encoded (t.from_far.sent ++ m ∷ [])) ≡ length (encoded t.from_far.sent) + length (encoding m) = encoded_more t.from_far.sent m in omega arith

-- ---- changes

-- each side's change adds so many bytes
abbrev AddsBytes : ℕ → (StreamState → Side → StreamState) → Type 0
AddsBytes k f = (t : StreamState) (side : Side) → stream_bytes (f t side) ≡ stream_bytes t + k

pub changed_bytes : (k : ℕ) (f : StreamState → Side → StreamState) (t : StreamState) (o : Option Side) → AddsBytes k f → stream_bytes (changed_by f t o) ≡ stream_bytes t + (cond (is_some o) 1 0) * k
changed_bytes k f t None a = omega arith
changed_bytes k f t (Some side) a = let h : stream_bytes (f t side) ≡ stream_bytes t + k = a t side in omega arith

pub changes_bytes : (k : ℕ) (f : StreamState → Side → StreamState) (e : StreamEnd) (ts : List StreamState) → AddsBytes k f → streams_bytes (change_at_end ts e f) ≡ streams_bytes ts + count_at_end ts e * k
changes_bytes k f e [] a = omega arith
changes_bytes k f e (t ∷ ts) a =
    let first : stream_bytes (at_end e f t) ≡ stream_bytes t + (cond (has_end e t) 1 0) * k = changed_bytes k f t (side_of_end e t) a in
    let rest : streams_bytes (change_at_end ts e f) ≡ streams_bytes ts + count_at_end ts e * k = changes_bytes k f e ts a in
    let now : streams_bytes (at_end e f t ∷ change_at_end ts e f) ≡ stream_bytes (at_end e f t) + streams_bytes (change_at_end ts e f) = sum_by-cons stream_bytes (at_end e f t) (change_at_end ts e f) in
    let old : streams_bytes (t ∷ ts) ≡ stream_bytes t + streams_bytes ts = sum_by-cons stream_bytes t ts in
    let counts : count_at_end (t ∷ ts) e ≡ (cond (has_end e t) 1 0) + count_at_end ts e = sum_by-cons (λ x. cond (has_end e x) 1 0) t ts in
    let both : ((cond (has_end e t) 1 0) + count_at_end ts e) * k ≡ (cond (has_end e t) 1 0) * k + count_at_end ts e * k = add-mul (cond (has_end e t) 1 0) (count_at_end ts e) k in
    now ∙ (rw counts (omega arith))

pub said_bytes : (m : Message) → AddsBytes 0 (with_said m)
said_bytes m t side = omega arith

pub ended_bytes : AddsBytes 0 with_ended
ended_bytes t Near = omega arith
ended_bytes t Far = omega arith

pub delivered_bytes : (count : ℕ) → AddsBytes 0 (with_delivered count)
delivered_bytes count t Near = omega arith
delivered_bytes count t Far = omega arith

pub number_bytes : (k : ℕ) → AddsBytes 0 (with_number k)
number_bytes k t side = omega arith

pub far_bytes : (far : StreamEnd) (a : Arrival) → AddsBytes 0 (with_far far a)
far_bytes far a t side = omega arith

pub side_bytes : (a : Arrival) → AddsBytes 0 (with_side a)
side_bytes a t Near = omega arith
side_bytes a t Far = omega arith

-- a change that adds none
pub changes_none : (f : StreamState → Side → StreamState) (e : StreamEnd) (ts : List StreamState) → AddsBytes 0 f → streams_bytes (change_at_end ts e f) ≡ streams_bytes ts
changes_none f e ts a = let h : streams_bytes (change_at_end ts e f) ≡ streams_bytes ts + count_at_end ts e * 0 = changes_bytes 0 f e ts a in omega arith

-- ---- what a step makes

pub made_none : (node : ℕ) (ts : List StreamState) (q : Queued) → streams_bytes (having_made node ts q) ≡ streams_bytes ts
made_none node ts (datagram link to m) = refl
made_none node ts (dial stream to) =
    let h : streams_bytes (ts ++ fresh_stream (end_of node stream) to ∷ []) ≡ streams_bytes ts + streams_bytes (fresh_stream (end_of node stream) to ∷ []) =
    sum_by-append stream_bytes ts (fresh_stream (end_of node stream) to ∷ []) in
    omega arith
made_none node ts (send stream m) = changes_none (with_said m) (end_of node stream) ts (said_bytes m)

pub all_made_none : (node : ℕ) (qs : List Queued) (ts : List StreamState) → streams_bytes (streams_made node ts qs) ≡ streams_bytes ts
unfolding streams_made
all_made_none node [] ts = refl
all_made_none node (q ∷ qs) ts = all_made_none node qs (having_made node ts q) ∙ made_none node ts q

-- ---- a network

-- two networks have the same count of sent bytes, the same datagrams, and as many bytes sent on their streams
pub record CountsAs (w x : WorldState) : Type 0 where
  pub count : x.byte_count ≡ w.byte_count
  pub datagrams : x.datagrams ≡ w.datagrams
  pub streams : streams_bytes x.streams ≡ streams_bytes w.streams

pub counts_on : (w x : WorldState) → CountsAs w x → IsCounted w → IsCounted x
unfolding bytes_sent
counts_on w x a h =
    a.count ∙ (h ∙ sym (ap (λ ds. sum_by datagram_bytes ds + streams_bytes x.streams) a.datagrams ∙ ap (λ n. sum_by datagram_bytes w.datagrams + n) a.streams))

pub posted_counts : (w : WorldState) (m : Message) (route : Option Route) → IsCounted w → IsCounted (posted w m route)
unfolding bytes_sent
posted_counts w m None h = h
posted_counts w m (Some route) h =
    let sum : sum_by datagram_bytes (w.datagrams ++ record { route = route; message = m } ∷ []) ≡ sum_by datagram_bytes w.datagrams + (0 + length (encoding m)) =
    sum_by-append datagram_bytes w.datagrams (record { route = route; message = m } ∷ []) in
    let before : w.byte_count ≡ sum_by datagram_bytes w.datagrams + streams_bytes w.streams = h in
    omega arith

pub dialled_counts : (w : WorldState) (e : StreamEnd) → IsCounted w → IsCounted (dialled w e)
dialled_counts w e h = counts_on w (dialled w e) (record { count = refl; datagrams = refl; streams = changes_none (with_number (w.dials + 1)) e w.streams (number_bytes (w.dials + 1)) }) h

pub sent_counts : (w : WorldState) (e : StreamEnd) (m : Message) → IsCounted w → IsCounted (sent_at w e m)
unfolding bytes_sent
sent_counts w e m h =
    let more : streams_bytes (change_at_end w.streams e (with_sent m)) ≡ streams_bytes w.streams + count_at_end w.streams e * length (encoding m) =
    changes_bytes (length (encoding m)) (with_sent m) e w.streams (sent_more m) in
    let before : w.byte_count ≡ sum_by datagram_bytes w.datagrams + streams_bytes w.streams = h in
    omega arith

pub queued_counts : (s : Setting) (node : ℕ) (w : WorldState) (q : Queued) → IsCounted w → IsCounted (having_sent s node w q)
queued_counts s node w (datagram link to m) h = posted_counts w m (route_of s (member_of w node) link to) h
queued_counts s node w (dial stream to) h = dialled_counts w (end_of node stream) h
queued_counts s node w (send stream m) h = sent_counts w (end_of node stream) m h

pub all_queued_count : (s : Setting) (node : ℕ) (qs : List Queued) (w : WorldState) → IsCounted w → IsCounted (fold (having_sent s node) w qs)
all_queued_count s node [] w h = h
all_queued_count s node (q ∷ qs) w h = all_queued_count s node qs (having_sent s node w q) (queued_counts s node w q h)

pub closed_counts : (node : ℕ) (w : WorldState) (stream : ℕ) → IsCounted w → IsCounted (having_closed node w stream)
closed_counts node w stream h =
    counts_on w (having_closed node w stream) (record { count = refl; datagrams = refl; streams = changes_none with_ended (end_of node stream) w.streams ended_bytes }) h

pub all_closed_count : (node : ℕ) (streams : List ℕ) (w : WorldState) → IsCounted w → IsCounted (fold (having_closed node) w streams)
all_closed_count node [] w h = h
all_closed_count node (stream ∷ streams) w h = all_closed_count node streams (having_closed node w stream) (closed_counts node w stream h)

-- other nodes send no bytes
pub seats_count : (w : WorldState) (seats : List Seat) → IsCounted w → IsCounted (record w { seats = seats })
seats_count w seats h = counts_on w (record w { seats = seats }) (record { count = refl; datagrams = refl; streams = refl }) h

pub drained_by_counts : (s : Setting) (w : WorldState) (node max : ℕ) (o : Option Seat) → IsCounted w → IsCounted (drained_at s w node max o)
unfolding handed_over
drained_by_counts s w node max None h = h
drained_by_counts s w node max (Some seat) h = from (begin seat.core seat.core.reading) where
  put : NodeState → WorldState
  put m = with_seat w node (seat_with (after_drain m max) seat.agent)

  from : (m : NodeState) → IsCounted (drained_from s w node seat m max)
  from m =
      all_closed_count node (closes m max) (fold (having_sent s node) (put m) (take max m.queue))
      (all_queued_count s node (take max m.queue) (put m) (seats_count w (put m).seats h))

pub drained_counts : (s : Setting) (w : WorldState) (node max : ℕ) → IsCounted w → IsCounted (drained s w node max)
unfolding drained
drained_counts s w node max h = drained_by_counts s w node max (seat_at w node) h

-- ---- a step

pub stepped_counts : (w : WorldState) (v : Visit) (core : NodeState) (agent : AgentState) → IsCounted w → IsCounted (stepped w v core agent)
unfolding stepped
stepped_counts w v core agent h =
    counts_on w (stepped w v core agent) (record { count = refl; datagrams = refl; streams = all_made_none v.node (gained v.seat.core core) w.streams }) h

-- a network with other streams that have as many bytes
pub talks_count : (w : WorldState) (ts : List StreamState) → streams_bytes ts ≡ streams_bytes w.streams → IsCounted w → IsCounted (record w { streams = ts })
talks_count w ts same h = counts_on w (record w { streams = ts }) (record { count = refl; datagrams = refl; streams = same }) h

pub arrived_counts : (w : WorldState) (v : Visit) (number : ℕ) (r : Reply) (o : Option StreamState) → IsCounted w → IsCounted (arrived w v number r o)
arrived_counts w v number r None h = h
arrived_counts w v number r (Some t) h =
    talks_count w (change_at_end w.streams t.near (with_far (end_of v.node number) (arrival_by r)))
    (changes_none (with_far (end_of v.node number) (arrival_by r)) t.near w.streams (far_bytes (end_of v.node number) (arrival_by r))) h

pub delivered_counts : (w : WorldState) (count : ℕ) (o : Option Reached) → IsCounted w → IsCounted (delivered w count o)
delivered_counts w count None h = h
delivered_counts w count (Some x) h = talks_count w (change_at_end w.streams x.at (with_delivered count)) (changes_none (with_delivered count) x.at w.streams (delivered_bytes count)) h

pub told_counts : (w : WorldState) (o : Option Reached) → IsCounted w → IsCounted (told w o)
told_counts w None h = h
told_counts w (Some x) h = talks_count w (change_at_end w.streams x.at (with_side told_closed)) (changes_none (with_side told_closed) x.at w.streams (side_bytes told_closed)) h

-- a network with the same bytes
pub also_counts : (w x : WorldState) → CountsAs w x → IsCounted w → IsCounted x
also_counts w x a h = counts_on w x a h

-- ---- each kind of event

pub visit_counts : (s : Setting) (w : WorldState) (e : Event) (v : Visit) (c : Choice) → IsCounted w → IsCounted (after_visit s w e v c)
unfolding after_clock after_agent after_agent_call after_delivery after_arrival after_piece after_cut noted
visit_counts s w (event.Clock node millis) v c h = stepped_counts w v c.after v.seat.agent h
visit_counts s w (event.Want node length longest peer) v c h = h
visit_counts s w (event.Return node prefix peer) v c h = h
visit_counts s w (event.Agent node hold) v c h =
    also_counts (stepped w v c.after (after_reply v.seat.agent c.reply)) (after_agent w v c) (record { count = refl; datagrams = refl; streams = refl })
    (stepped_counts w v c.after (after_reply v.seat.agent c.reply) h)
visit_counts s w (event.Api node asa call hold) v c h =
    also_counts (stepped w v c.after v.seat.agent) (after_agent_call w v asa call c) (record { count = refl; datagrams = refl; streams = refl })
    (stepped_counts w v c.after v.seat.agent h)
visit_counts s w (event.Datagram index hold) v c h =
    also_counts (stepped w v c.after v.seat.agent) (after_delivery w v index c) (record { count = refl; datagrams = refl; streams = refl })
    (stepped_counts w v c.after v.seat.agent h)
visit_counts s w (event.Arrive stream hold) v c h =
    stepped_counts (arrived w v (s.arrives_as v.node stream) c.reply (stream_numbered w.streams stream)) v c.after v.seat.agent
    (arrived_counts w v (s.arrives_as v.node stream) c.reply (stream_numbered w.streams stream) h)
visit_counts s w (event.Bytes stream far count hold) v c h =
    stepped_counts (delivered w count (reached_side w stream (side_named far))) v c.after v.seat.agent (delivered_counts w count (reached_side w stream (side_named far)) h)
visit_counts s w (event.Cut stream far hold) v c h =
    stepped_counts (told w (reached_side w stream (side_named far))) v c.after v.seat.agent (told_counts w (reached_side w stream (side_named far)) h)
visit_counts s w (event.Drain node max) v c h = drained_counts s w v.node max h

pub behind_counts : (b : Bool) (s : Setting) (w : WorldState) (node : ℕ) → IsCounted w → IsCounted (drained_behind b s w node)
behind_counts true s w node h = drained_counts s w node event_drain h
behind_counts false s w node h = h

-- another agent sends nothing
one_counts : (w x : WorldState) → IsCounted w → OneAgent w x → IsCounted x
one_counts w x h o = also_counts w x (subst (λ (y : WorldState). CountsAs w y) (sym o.after) (record { count = refl; datagrams = refl; streams = refl })) h

pub none_counts : (s : Setting) (w : WorldState) (e : Event) → IsCounted w → IsCounted (after_none s w e)
none_counts s w e h = none_one s w e IsCounted h (λ x o. one_counts w x h o)

pub by_counts : (s : Setting) (w : WorldState) (e : Event) (c : Choice) (o : Option Visit) → IsCounted w → IsCounted (after_by s w e c o)
by_counts s w e c None h = none_counts s w e h
by_counts s w e c (Some v) h = behind_counts (drains e) s (after_visit s w e v c) v.node (visit_counts s w e v c h)

pub event_counts : (s : Setting) (w : WorldState) (e : Event) (c : Choice) → IsCounted w → IsCounted (after_event s w e c)
unfolding after_event
event_counts s w e c h = by_counts s w e c (visit_of s w e) h

-- ---- the other turns

settle_counts : (w : WorldState) (node : ℕ) (p : Prefix) → IsCounted w → IsCounted (after_settle w node p)
settle_counts w node p h = settle_one w node p IsCounted h (λ x o. one_counts w x h o)

-- who is told that a stream is closed sends nothing on it
told_if_bytes : (b : Bool) (side : Side) (t : StreamState) → stream_bytes (told_if b side t) ≡ stream_bytes t
told_if_bytes true Near t = refl
told_if_bytes true Far t = refl
told_if_bytes false side t = refl

told_at_bytes : (s : Setting) (node life : ℕ) (t : StreamState) → stream_bytes (told_at s node life t) ≡ stream_bytes t
told_at_bytes s node life t = told_if_bytes (is_of_life life t.far || waits_for s node t) Far (told_if (t.near.node == life) Near t) ∙ told_if_bytes (t.near.node == life) Near t

all_told_bytes : (s : Setting) (node life : ℕ) (ts : List StreamState) → streams_bytes (map (told_at s node life) ts) ≡ streams_bytes ts
all_told_bytes s node life [] = refl
all_told_bytes s node life (t ∷ ts) =
    let first : stream_bytes (told_at s node life t) ≡ stream_bytes t = told_at_bytes s node life t in
    let rest : streams_bytes (map (told_at s node life) ts) ≡ streams_bytes ts = all_told_bytes s node life ts in
    let now : streams_bytes (map (told_at s node life) (t ∷ ts)) ≡ stream_bytes (told_at s node life t) + streams_bytes (map (told_at s node life) ts) =
    sum_by-cons stream_bytes (told_at s node life t) (map (told_at s node life) ts) in
    let old : streams_bytes (t ∷ ts) ≡ stream_bytes t + streams_bytes ts = sum_by-cons stream_bytes t ts in
    omega arith

restart_counts : (s : Setting) (w : WorldState) (node : ℕ) (image : PoolImage) → IsCounted w → IsCounted (after_restart s w node image)
restart_counts s w node image h =
    restart_by s w node image IsCounted h
    (λ seat m here found. also_counts w (restarted s w node (present_life w node) image seat m) (record { count = refl; datagrams = refl; streams = all_told_bytes s node (present_life w node) w.streams }) h)

-- ---- the first network

pub first_counts : (s : Setting) → IsCounted (first_world s)
unfolding first_world bytes_sent
first_counts s = refl

pub bytes_are_counted : BytesAreCounted
bytes_are_counted = record {
  each = event_counts;
  all = λ s w r. reached_keeps s IsCounted (first_counts s) (record {
    events = λ x e c o h. event_counts s x e c h;
    settles = λ x node p dead h. settle_counts x node p h;
    restarts = λ x node image may h. restart_counts s x node image h;
  }) w r;
}
