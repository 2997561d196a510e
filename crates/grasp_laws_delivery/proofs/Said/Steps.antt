-- What each step and each drain leaves of this: what a side said is what it sent, and then what is queued at its node.
use Rattle.std.proofs.Common.{◌≡◌, ◌≢◌, refl, sym, ap, ◌∙◌, subst, ℕ, ◌+◌, true, length, List, [], ◌∷◌, ◌++◌, append_assoc, append-nil, fold, map, reverse, Option, None, Some}
use Rattle.grasp_model_node.specs.Queue.{Queued, datagram, dial, send}
use Rattle.grasp_session.specs.Conversation.{Said, spoken}
use Rattle.grasp_session.specs.Messages.{Side, Near, Far, other}
use Rattle.grasp_model_network.specs.StreamChanges.{Reached, delivered, told}
use Rattle.grasp_model_network.specs.Restarting.{told_at}
use Rattle.grasp_model_network.specs.Routes.{route_of}
use Rattle.grasp_model_network.specs.Sending.{having_made, having_sent, having_closed}
use Rattle.grasp_model_network.specs.Setting.{Setting}
use Rattle.grasp_model_network.specs.Streams.{StreamEnd, StreamState, Direction, told_closed, fresh_stream, end_at, sent_by, next_bytes, with_said, with_sent, with_ended, with_number, with_delivered, with_side, at_end}
use Rattle.grasp_model_network.specs.World.{WorldState, end_of, member_of}
use Rattle.grasp_laws_delivery.proofs.AfterSteps.{posted_each}
use Rattle.grasp_laws_delivery.proofs.Fresh.{IsFresh, DialsAreFresh}
use Rattle.grasp_laws_delivery.proofs.Said.Talks.{Speaks, nothing_more, message_said, dialled_speaks, dialled_elsewhere, said_elsewhere, message_sent, sent_elsewhere, direction_speaks, speaks_same}
use Rattle.grasp_laws_delivery.proofs.Sides.{at_end_has, each_mapped, each_changed, each_push, closed_ends, closed_sends, closed_says, closed_near}
use Rattle.grasp_laws_delivery.proofs.Turned.{told_by}
use Rattle.grasp_laws_delivery.specs.Saying.{OfEachStream, queued_for, said_by}

-- ---- what a step makes, at its own node

one_made : (node : ℕ) (before : List Queued) (q : Queued) (ts : List StreamState) → IsFresh before q → OfEachStream (Speaks node before) ts
    → OfEachStream (Speaks node (before ++ q ∷ [])) (having_made node ts q)
one_made node before (datagram link to m) ts fresh each = λ place t found. nothing_more node before (datagram link to m) t (λ stream. refl) (each place t found)
one_made node before (dial stream to) ts fresh each =
    each_push (Speaks node (before ++ dial stream to ∷ [])) ts (fresh_stream (end_of node stream) to) (dialled_speaks node before stream to fresh)
    (λ place t found. nothing_more node before (dial stream to) t (λ other. refl) (each place t found))
one_made node before (send stream m) ts fresh each =
    each_changed (Speaks node before) (Speaks node (before ++ send stream m ∷ [])) ts (end_of node stream) (with_said m) (λ t k. message_said node before stream m t k) each

pub all_made : (node : ℕ) (qs before : List Queued) (ts : List StreamState) → DialsAreFresh before qs → OfEachStream (Speaks node before) ts
    → OfEachStream (Speaks node (before ++ qs)) (fold (having_made node) ts qs)
all_made node [] before ts fresh each = subst (λ (queue : List Queued). OfEachStream (Speaks node queue) ts) (sym (append-nil before)) each
all_made node (q ∷ qs) before ts fresh each =
    subst (λ (queue : List Queued). OfEachStream (Speaks node queue) (fold (having_made node) (having_made node ts q) qs)) (append_assoc before (q ∷ []) qs)
    (all_made node qs (before ++ q ∷ []) (having_made node ts q) fresh.1 (one_made node before q ts fresh.0 each))

-- ---- and at another node

one_elsewhere : (node by : ℕ) (queue : List Queued) (q : Queued) (ts : List StreamState) → node ≢ by → OfEachStream (Speaks node queue) ts
    → OfEachStream (Speaks node queue) (having_made by ts q)
one_elsewhere node by queue (datagram link to m) ts n each = each
one_elsewhere node by queue (dial stream to) ts n each =
    each_push (Speaks node queue) ts (fresh_stream (end_of by stream) to) (dialled_elsewhere node by queue stream to n) each
one_elsewhere node by queue (send stream m) ts n each =
    each_changed (Speaks node queue) (Speaks node queue) ts (end_of by stream) (with_said m) (λ t k. said_elsewhere node by queue stream m t n k) each

pub all_elsewhere : (node by : ℕ) (queue : List Queued) (qs : List Queued) (ts : List StreamState) → node ≢ by → OfEachStream (Speaks node queue) ts
    → OfEachStream (Speaks node queue) (fold (having_made by) ts qs)
all_elsewhere node by queue [] ts n each = each
all_elsewhere node by queue (q ∷ qs) ts n each =
    all_elsewhere node by queue qs (having_made by ts q) n (one_elsewhere node by queue q ts n each)

-- ---- what is sent, at its own node

numbered_speaks : (node : ℕ) (queue : List Queued) (e : StreamEnd) (n : ℕ) (t : StreamState) → Speaks node queue t → Speaks node queue (at_end e (with_number n) t)
numbered_speaks node queue e n t k = at_end_has (Speaks node queue) e (with_number n) t (λ none. k) (λ side at. speaks_same node queue t (with_number n t side) refl ends says sends k) where
  ends : (x : Side) → end_at (record t { number = Some n }) x ≡ end_at t x
  ends Near = refl
  ends Far = refl

  says : (x : Side) → said_by (record t { number = Some n }) x ≡ said_by t x
  says x = refl

  sends : (x : Side) → (sent_by (record t { number = Some n }) x).sent ≡ (sent_by t x).sent
  sends Near = refl
  sends Far = refl

-- what stands first in the queue is for no stream
not_queued : (node : ℕ) (q : Queued) (queue : List Queued) (t : StreamState) → ((stream : ℕ) → queued_for stream (q ∷ queue) ≡ queued_for stream queue) → Speaks node (q ∷ queue) t
    → Speaks node queue t
not_queued node q queue t none k =
    record { distinct = k.distinct; said = λ side stream at. k.said side stream at ∙ ap (λ ms. (sent_by t side).sent ++ ms) (none stream) }

pub all_sent : (s : Setting) (node : ℕ) (qs rest : List Queued) (w : WorldState) → OfEachStream (Speaks node (qs ++ rest)) w.streams
    → OfEachStream (Speaks node rest) (fold (having_sent s node) w qs).streams
all_sent s node [] rest w each = each
all_sent s node (datagram link to m ∷ qs) rest w each =
    all_sent s node qs rest (having_sent s node w (datagram link to m))
    (posted_each (Speaks node (qs ++ rest)) w m (route_of s (member_of w node) link to) (λ place t found. not_queued node (datagram link to m) (qs ++ rest) t (λ stream. refl) (each place t found)))
all_sent s node (dial stream to ∷ qs) rest w each =
    all_sent s node qs rest (having_sent s node w (dial stream to))
    (each_changed (Speaks node (dial stream to ∷ (qs ++ rest))) (Speaks node (qs ++ rest)) w.streams (end_of node stream) (with_number (w.dials + 1))
    (λ t k. numbered_speaks node (qs ++ rest) (end_of node stream) (w.dials + 1) t (not_queued node (dial stream to) (qs ++ rest) t (λ other. refl) k)) each)
all_sent s node (send stream m ∷ qs) rest w each =
    all_sent s node qs rest (having_sent s node w (send stream m))
    (each_changed (Speaks node (send stream m ∷ (qs ++ rest))) (Speaks node (qs ++ rest)) w.streams (end_of node stream) (with_sent m)
    (λ t k. message_sent node (qs ++ rest) stream m t k) each)

-- ---- and at another node

one_sent_elsewhere : (s : Setting) (node by : ℕ) (queue : List Queued) (q : Queued) (w : WorldState) → node ≢ by → OfEachStream (Speaks node queue) w.streams
    → OfEachStream (Speaks node queue) (having_sent s by w q).streams
one_sent_elsewhere s node by queue (datagram link to m) w n each = posted_each (Speaks node queue) w m (route_of s (member_of w by) link to) each
one_sent_elsewhere s node by queue (dial stream to) w n each =
    each_changed (Speaks node queue) (Speaks node queue) w.streams (end_of by stream) (with_number (w.dials + 1))
    (λ t k. numbered_speaks node queue (end_of by stream) (w.dials + 1) t k) each
one_sent_elsewhere s node by queue (send stream m) w n each =
    each_changed (Speaks node queue) (Speaks node queue) w.streams (end_of by stream) (with_sent m) (λ t k. sent_elsewhere node by queue stream m t n k) each

pub all_sent_elsewhere : (s : Setting) (node by : ℕ) (queue : List Queued) (qs : List Queued) (w : WorldState) → node ≢ by → OfEachStream (Speaks node queue) w.streams
    → OfEachStream (Speaks node queue) (fold (having_sent s by) w qs).streams
all_sent_elsewhere s node by queue [] w n each = each
all_sent_elsewhere s node by queue (q ∷ qs) w n each =
    all_sent_elsewhere s node by queue qs (having_sent s by w q) n (one_sent_elsewhere s node by queue q w n each)

-- ---- closings, deliveries and cuts, at any node

ended_speaks : (node : ℕ) (queue : List Queued) (e : StreamEnd) (t : StreamState) → Speaks node queue t → Speaks node queue (at_end e with_ended t)
ended_speaks node queue e t k =
    at_end_has (Speaks node queue) e with_ended t (λ none. k) (λ side at. direction_speaks node queue t side (record (sent_by t side) { ended = true }) refl k)

pub all_closed : (node by : ℕ) (queue : List Queued) (streams : List ℕ) (w : WorldState) → OfEachStream (Speaks node queue) w.streams
    → OfEachStream (Speaks node queue) (fold (having_closed by) w streams).streams
all_closed node by queue [] w each = each
all_closed node by queue (stream ∷ streams) w each =
    all_closed node by queue streams (having_closed by w stream)
    (each_changed (Speaks node queue) (Speaks node queue) w.streams (end_of by stream) with_ended (ended_speaks node queue (end_of by stream)) each)

delivered_speaks : (node : ℕ) (queue : List Queued) (e : StreamEnd) (count : ℕ) (t : StreamState) → Speaks node queue t → Speaks node queue (at_end e (with_delivered count) t)
delivered_speaks node queue e count t k = at_end_has (Speaks node queue) e (with_delivered count) t (λ none. k)
    (λ side at.
    direction_speaks node queue t (other side) (record (sent_by t (other side)) { delivered = (sent_by t (other side)).delivered + length (next_bytes t (other side) count) }) refl k)

closed_speaks : (node : ℕ) (queue : List Queued) (t : StreamState) (by : Side) → Speaks node queue t → Speaks node queue (with_side told_closed t by)
closed_speaks node queue t by k =
    speaks_same node queue t (with_side told_closed t by) (closed_near t by) (closed_ends t by) (λ side. ap (λ (said : List Said). reverse (spoken side said)) (closed_says t by))
    (λ side. ap (λ (d : Direction). d.sent) (closed_sends t by side)) k

told_speaks : (node : ℕ) (queue : List Queued) (e : StreamEnd) (t : StreamState) → Speaks node queue t → Speaks node queue (at_end e (with_side told_closed) t)
told_speaks node queue e t k = at_end_has (Speaks node queue) e (with_side told_closed) t (λ none. k) (λ side at. closed_speaks node queue t side k)

pub delivered_all : (node : ℕ) (queue : List Queued) (w : WorldState) (count : ℕ) (o : Option Reached) → OfEachStream (Speaks node queue) w.streams
    → OfEachStream (Speaks node queue) (delivered w count o).streams
delivered_all node queue w count None each = each
delivered_all node queue w count (Some x) each =
    each_changed (Speaks node queue) (Speaks node queue) w.streams x.at (with_delivered count) (delivered_speaks node queue x.at count) each

pub told_all : (node : ℕ) (queue : List Queued) (w : WorldState) (o : Option Reached) → OfEachStream (Speaks node queue) w.streams → OfEachStream (Speaks node queue) (told w o).streams
told_all node queue w None each = each
told_all node queue w (Some x) each = each_changed (Speaks node queue) (Speaks node queue) w.streams x.at (with_side told_closed) (told_speaks node queue x.at) each

-- ---- a restart

pub restarted_all : (s : Setting) (member life node : ℕ) (queue : List Queued) (ts : List StreamState) → OfEachStream (Speaks node queue) ts
    → OfEachStream (Speaks node queue) (map (told_at s member life) ts)
restarted_all s member life node queue ts each =
    each_mapped (Speaks node queue) (Speaks node queue) (told_at s member life) ts (told_by (Speaks node queue) (closed_speaks node queue) s member life) each
