-- An event makes its step in a life that is there.
use Rattle.std.proofs.Common.{◌≡◌, refl, ap, ◌∙◌, subst, arith, ℕ, ◌+◌, ◌-◌, ◌≤◌, ◌<◌, ◌==◌, Bool, true, false, cond, List, [], ◌∷◌, length, slice_get, Option, Some, None}
use Rattle.std.proofs.lemmas.Option.{none-some, slice_get_within, same_Some}
use Rattle.grasp_model_node.specs.Queue.{encoding}
use Rattle.grasp_session.specs.Messages.{Side, other}
use Rattle.grasp_types.specs.declared.traffic.Input.{Input}
use Rattle.grasp_types.specs.declared.traffic.Input.TheVariants.{Api, Datagram, Opened, Bytes, Closed, Drain}
use Rattle.grasp_laws_network.proofs.Links.{less_and_more}
use Rattle.grasp_model_network.specs.EventSteps.{agent_visit, agent_seat, agent_input, arrival_visit, opened_stream, opened_at, clock_seat, cut_visit, cut_at, datagram_visit, datagram_at, piece_visit, piece_at}
use Rattle.grasp_laws_network.specs.Keeping.{IsHere, VisitsAreHere}
use Rattle.grasp_model_network.specs.StreamChanges.{Reached, reached_side, side_named}
use Rattle.grasp_model_network.specs.Plans.{IsNode}
use Rattle.grasp_model_network.specs.Setting.{Setting, numbered, member_at}
use Rattle.grasp_model_network.specs.Streams.{StreamState, is_waiting, next_bytes, stream_numbered}
use Rattle.grasp_model_network.specs.Visits.{Visit, visit, visit_seat}
use Rattle.grasp_model_network.specs.World.{Seat, SentDatagram, WorldState, last_life, present_life, seat_at}
use Rattle.grasp_model_network.specs.declared.event.Event.TheVariants as event

-- what has a number in a list is within it
pub numbered_within : {A : Type 0} (xs : List A) (n : ℕ) (x : A) → numbered xs n ≡ Some x → IsNode (length xs) n
numbered_within {A} xs n x e = by_zero (n == 0) refl where
  by_zero : (b : Bool) → (n == 0) ≡ b → IsNode (length xs) n
  by_zero true is = absurd (none-some x (subst (λ z. cond z None (slice_get xs (n - 1)) ≡ Some x) is e))
  by_zero false is =
      let within : n - 1 < length xs = slice_get_within xs (n - 1) x (subst (λ z. cond z None (slice_get xs (n - 1)) ≡ Some x) is e) in
      let more : (n - 1) + 1 ≡ n = less_and_more n is in
      record { least = omega arith; most = omega arith }

-- ---- a member's present life

last_least : (n : ℕ) (ks : List ℕ) (node found : ℕ) → 1 ≤ n → 1 ≤ found → 1 ≤ last_life n ks node found
unfolding last_life
last_least n [] node found a b = b
last_least n (k ∷ ks) node found a b = last_least (n + 1) ks node (cond (k == node) n found) (omega arith) (by_test (k == node)) where
  by_test : (t : Bool) → 1 ≤ cond t n found
  by_test true = a
  by_test false = b

-- its number is one, also where there is no such member
pub present_least : (w : WorldState) (node : ℕ) → 1 ≤ present_life w node
present_least w node = last_least 1 w.lives node 1 (omega arith) (omega arith)

-- ---- a visit that is made of a node's seat

abbrev node_in : Visit → ℕ
node_in v = v.node

abbrev seat_in : Visit → Seat
seat_in v = v.seat

pub here_of : (w : WorldState) (v : Visit) (node : ℕ) (seat : Seat) → seat_at w node ≡ Some seat → node ≡ v.node → seat ≡ v.seat → IsHere w v
here_of w v node seat e n s = made (subst (λ k. seat_at w k ≡ Some v.seat) n (e ∙ ap (λ x. Some x) s)) where
  made : seat_at w v.node ≡ Some v.seat → IsHere w v
  made h = record { member = numbered_within w.seats v.node v.seat h; stands = h }

pub seated_here : (w : WorldState) (node : ℕ) (i : Input) (v : Visit) (o : Option Seat) → seat_at w node ≡ o → visit_seat node i o ≡ Some v → IsHere w v
seated_here w node i v None e is = absurd (none-some v is)
seated_here w node i v (Some seat) e is = at_seat (same_Some (record { node = node; seat = seat; now = seat.core.reading; input = i }) v is) where
  at_seat : record { node = node; seat = seat; now = seat.core.reading; input = i } ≡ v → IsHere w v
  at_seat same = here_of w v node seat e (ap node_in same) (ap seat_in same)

pub visit_here : (w : WorldState) (node : ℕ) (i : Input) (v : Visit) → visit w node i ≡ Some v → IsHere w v
visit_here w node i v is = seated_here w node i v (seat_at w node) refl is

pub clock_here : (w : WorldState) (node millis : ℕ) (v : Visit) (o : Option Seat) → seat_at w node ≡ o → clock_seat node millis o ≡ Some v → IsHere w v
clock_here w node millis v None e is = absurd (none-some v is)
clock_here w node millis v (Some seat) e is = at_seat (same_Some (record { node = node; seat = seat; now = millis; input = Drain 0 }) v is) where
  at_seat : record { node = node; seat = seat; now = millis; input = Drain 0 } ≡ v → IsHere w v
  at_seat same = here_of w v node seat e (ap node_in same) (ap seat_in same)

-- ---- the visits of each kind of event

pub agent_here : (w : WorldState) (node : ℕ) (v : Visit) (o : Option Seat) → seat_at w node ≡ o → agent_seat node o ≡ Some v → IsHere w v
agent_here w node v None e is = absurd (none-some v is)
agent_here w node v (Some seat) e is = seated_here w node (agent_input seat.agent) v (Some seat) e is

pub datagram_here : (w : WorldState) (v : Visit) (o : Option SentDatagram) → datagram_at w o ≡ Some v → IsHere w v
datagram_here w v None is = absurd (none-some v is)
datagram_here w v (Some d) is = visit_here w (present_life w d.route.receiver) (Datagram d.route.link d.route.from (encoding d.message)) v is

pub opened_here : (s : Setting) (w : WorldState) (k : ℕ) (v : Visit) (to : Option ℕ) (near : Option Seat) → opened_at s w k to near ≡ Some v → IsHere w v
opened_here s w k v None near is = absurd (none-some v is)
opened_here s w k v (Some node) None is = absurd (none-some v is)
opened_here s w k v (Some node) (Some near) is =
    visit_here w (present_life w node) (Opened (s.arrives_as (present_life w node) k) (s.arrives_from k near.core.plan.address)) v is

pub waiting_here : (s : Setting) (w : WorldState) (k : ℕ) (v : Visit) (t : StreamState) (b : Bool)
    → cond b (opened_at s w k (member_at s t.to) (seat_at w t.near.node)) None ≡ Some v → IsHere w v
waiting_here s w k v t true is = opened_here s w k v (member_at s t.to) (seat_at w t.near.node) is
waiting_here s w k v t false is = absurd (none-some v is)

pub arrival_here : (s : Setting) (w : WorldState) (k : ℕ) (v : Visit) (o : Option StreamState) → opened_stream s w k o ≡ Some v → IsHere w v
arrival_here s w k v None is = absurd (none-some v is)
arrival_here s w k v (Some t) is = waiting_here s w k v t (is_waiting t.far_side) is

pub piece_here : (w : WorldState) (side : Side) (count : ℕ) (v : Visit) (o : Option Reached) → piece_at w side count o ≡ Some v → IsHere w v
piece_here w side count v None is = absurd (none-some v is)
piece_here w side count v (Some x) is = visit_here w x.at.node (Bytes x.at.number (next_bytes x.talk (other side) count)) v is

pub cut_here : (w : WorldState) (v : Visit) (o : Option Reached) → cut_at w o ≡ Some v → IsHere w v
cut_here w v None is = absurd (none-some v is)
cut_here w v (Some x) is = visit_here w x.at.node (Closed x.at.number) v is

pub visits_are_here : VisitsAreHere
unfolding agent_visit datagram_visit arrival_visit piece_visit cut_visit
visits_are_here s w (event.Clock node millis) v is = clock_here w (present_life w node) millis v (seat_at w (present_life w node)) refl is
visits_are_here s w (event.Want node length longest peer) v is = absurd (none-some v is)
visits_are_here s w (event.Return node prefix peer) v is = absurd (none-some v is)
visits_are_here s w (event.Agent node hold) v is = agent_here w (present_life w node) v (seat_at w (present_life w node)) refl is
visits_are_here s w (event.Api node asa call hold) v is = visit_here w (present_life w node) (Api asa call) v is
visits_are_here s w (event.Datagram index hold) v is = datagram_here w v (numbered w.datagrams index) is
visits_are_here s w (event.Arrive stream hold) v is = arrival_here s w stream v (stream_numbered w.streams stream) is
visits_are_here s w (event.Bytes stream far count hold) v is = piece_here w (side_named far) count v (reached_side w stream (side_named far)) is
visits_are_here s w (event.Cut stream far hold) v is = cut_here w v (reached_side w stream (side_named far)) is
visits_are_here s w (event.Drain node max) v is = visit_here w (present_life w node) (Drain max) v is
