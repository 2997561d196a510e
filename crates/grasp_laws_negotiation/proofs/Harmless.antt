-- Changes of streams that leave their ends and what was said: deliveries, closings, and what is sent.
use Rattle.std.proofs.Common.{◌≡◌, ℕ, ◌+◌, List, [], ◌∷◌, Option, Some, None, slice_get, fold, refl, ap, ◌∙◌, subst}
use Rattle.grasp_model_node.specs.Queue.{Queued, datagram, dial, send}
use Rattle.grasp_types.specs.declared.message.Message.{Message}
use Rattle.grasp_session.specs.Messages.{Side, Near, Far}
use Rattle.grasp_laws_network.proofs.EachNode.{is_made}
use Rattle.grasp_model_network.specs.StreamChanges.{told, Reached, delivered}
use Rattle.grasp_model_network.specs.Routes.{Route, route_of}
use Rattle.grasp_model_network.specs.Sending.{posted, having_sent, having_closed, handed_over}
use Rattle.grasp_model_network.specs.Setting.{Setting}
use Rattle.grasp_model_network.specs.Streams.{StreamEnd, StreamState, Arrival, told_closed, end_at, with_side, with_sent, with_ended, with_delivered, with_number, side_of_end, changed_by, at_end, change_at_end}
use Rattle.grasp_model_network.specs.World.{WorldState, end_of, member_of}
use Rattle.grasp_laws_delivery.proofs.Sides.{place_changed}

-- a stream has the same ends, and the same was said on it
pub record IsLike (t u : StreamState) : Type 0 where
  pub near : u.near ≡ t.near
  pub far : u.far ≡ t.far
  pub said : u.said ≡ t.said

pub like_itself : (t : StreamState) → IsLike t t
like_itself t = record { near = refl; far = refl; said = refl }

like_then : (t u x : StreamState) → IsLike t u → IsLike u x → IsLike t x
like_then t u x a b = record { near = b.near ∙ a.near; far = b.far ∙ a.far; said = b.said ∙ a.said }

pub like_end : (t u : StreamState) → IsLike t u → (side : Side) → end_at u side ≡ end_at t side
like_end t u like Near = ap (λ e. Some e) like.near
like_end t u like Far = like.far

pub record Was (ts : List StreamState) (place : ℕ) (u : StreamState) : Type 0 where
  pub before : StreamState
  pub stands : slice_get ts place ≡ Some before
  pub like : IsLike before u

pub record Will (us : List StreamState) (place : ℕ) (t : StreamState) : Type 0 where
  pub after : StreamState
  pub stands : slice_get us place ≡ Some after
  pub like : IsLike t after

-- each stream is at its place, like it was
pub record Harmless (ts us : List StreamState) : Type 0 where
  pub back : (place : ℕ) (u : StreamState) → slice_get us place ≡ Some u → Was ts place u
  pub forth : (place : ℕ) (t : StreamState) → slice_get ts place ≡ Some t → Will us place t

pub same_talks : (ts : List StreamState) → Harmless ts ts
same_talks ts = record {
  back = λ place u is. record { before = u; stands = is; like = like_itself u };
  forth = λ place t is. record { after = t; stands = is; like = like_itself t };
}

pub harmless_then : (ts us xs : List StreamState) → Harmless ts us → Harmless us xs → Harmless ts xs
harmless_then ts us xs a b = record {
  back = λ place x is.
      let m = b.back place x is in
      let n = a.back place m.before m.stands in
      record { before = n.before; stands = n.stands; like = like_then n.before m.before x n.like m.like };
  forth = λ place t is.
      let m = a.forth place t is in
      let n = b.forth place m.after m.stands in
      record { after = n.after; stands = n.stands; like = like_then t m.after n.after m.like n.like };
}

abbrev pub KeepsLike : (StreamState → Side → StreamState) → Type 0
KeepsLike f = (t : StreamState) (side : Side) → IsLike t (f t side)

at_end_like : (f : StreamState → Side → StreamState) → KeepsLike f → (t : StreamState) (o : Option Side) → IsLike t (changed_by f t o)
at_end_like f keeps t None = like_itself t
at_end_like f keeps t (Some side) = keeps t side

pub change_harmless : (f : StreamState → Side → StreamState) → KeepsLike f → (e : StreamEnd) (ts : List StreamState) → Harmless ts (change_at_end ts e f)
change_harmless f keeps e ts = record {
  back = λ place u is.
      let m = is_made (at_end e f) ts place u is in
      record { before = m.of; stands = m.stands; like = subst (λ x. IsLike m.of x) m.made (at_end_like f keeps m.of (side_of_end e m.of)) };
  forth = λ place t is. record { after = at_end e f t; stands = place_changed ts e f place t is; like = at_end_like f keeps t (side_of_end e t) };
}

-- ---- the changes

delivered_like : (count : ℕ) → KeepsLike (with_delivered count)
delivered_like count t Near = record { near = refl; far = refl; said = refl }
delivered_like count t Far = record { near = refl; far = refl; said = refl }

side_like : (a : Arrival) → KeepsLike (with_side a)
side_like a t Near = record { near = refl; far = refl; said = refl }
side_like a t Far = record { near = refl; far = refl; said = refl }

sent_like : (m : Message) → KeepsLike (with_sent m)
sent_like m t Near = record { near = refl; far = refl; said = refl }
sent_like m t Far = record { near = refl; far = refl; said = refl }

ended_like : KeepsLike with_ended
ended_like t Near = record { near = refl; far = refl; said = refl }
ended_like t Far = record { near = refl; far = refl; said = refl }

number_like : (k : ℕ) → KeepsLike (with_number k)
number_like k t side = record { near = refl; far = refl; said = refl }

pub delivered_harmless : (w : WorldState) (count : ℕ) (o : Option Reached) → Harmless w.streams (delivered w count o).streams
delivered_harmless w count None = same_talks w.streams
delivered_harmless w count (Some x) = change_harmless (with_delivered count) (delivered_like count) x.at w.streams

pub told_harmless : (w : WorldState) (o : Option Reached) → Harmless w.streams (told w o).streams
told_harmless w None = same_talks w.streams
told_harmless w (Some x) = change_harmless (with_side told_closed) (side_like told_closed) x.at w.streams

posted_harmless : (w : WorldState) (m : Message) (route : Option Route) → Harmless w.streams (posted w m route).streams
posted_harmless w m None = same_talks w.streams
posted_harmless w m (Some route) = same_talks w.streams

sent_harmless : (s : Setting) (node : ℕ) (w : WorldState) (q : Queued) → Harmless w.streams (having_sent s node w q).streams
sent_harmless s node w (datagram link to m) = posted_harmless w m (route_of s (member_of w node) link to)
sent_harmless s node w (dial stream to) = change_harmless (with_number (w.dials + 1)) (number_like (w.dials + 1)) (end_of node stream) w.streams
sent_harmless s node w (send stream m) = change_harmless (with_sent m) (sent_like m) (end_of node stream) w.streams

all_sent_harmless : (s : Setting) (node : ℕ) (qs : List Queued) (w : WorldState) → Harmless w.streams (fold (having_sent s node) w qs).streams
all_sent_harmless s node [] w = same_talks w.streams
all_sent_harmless s node (q ∷ qs) w =
    harmless_then w.streams (having_sent s node w q).streams (fold (having_sent s node) (having_sent s node w q) qs).streams (sent_harmless s node w q) (all_sent_harmless s node qs (having_sent s node w q))

all_closed_harmless : (node : ℕ) (streams : List ℕ) (w : WorldState) → Harmless w.streams (fold (having_closed node) w streams).streams
all_closed_harmless node [] w = same_talks w.streams
all_closed_harmless node (stream ∷ streams) w =
    harmless_then w.streams (having_closed node w stream).streams (fold (having_closed node) (having_closed node w stream) streams).streams
    (change_harmless with_ended ended_like (end_of node stream) w.streams) (all_closed_harmless node streams (having_closed node w stream))

pub handed_harmless : (s : Setting) (w : WorldState) (node : ℕ) (qs : List Queued) (streams : List ℕ) → Harmless w.streams (handed_over s w node qs streams).streams
unfolding handed_over
handed_harmless s w node qs streams =
    let x = fold (having_sent s node) w qs in
    harmless_then w.streams x.streams (fold (having_closed node) x streams).streams (all_sent_harmless s node qs w) (all_closed_harmless node streams x)
