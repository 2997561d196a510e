-- No two streams share an end, and what is queued can be sent in order.
use Rattle.std.proofs.Common.{◌≡◌, ◌≤◌, ◌<◌, ◌+◌, ◌*◌, inl, inr, sym, ◌∙◌, subst, arith, ℕ, List, [], ◌∷◌, length, Option, Some, None, All}
use Rattle.std.proofs.lemmas.List.Elements.{All-weaker}
use Rattle.grasp_model_node.specs.Queue.{Queued, datagram, dial, send}
use Rattle.grasp_model_node.specs.Streams.{StreamRecord}
use Rattle.grasp_laws_node.specs.Consistent.{TiesAreKept}
use Rattle.grasp_types.specs.declared.address.Locator.{Locator}
use Rattle.grasp_laws_node.specs.Sends.{IsKnown, Follows}
use Rattle.grasp_laws_node.proofs.Addressed.Streams.{follows_rise}
use Rattle.grasp_model_network.specs.GoodSetting.{IsGoodSetting}
use Rattle.grasp_model_network.specs.Setting.{Setting}
use Rattle.grasp_model_network.specs.Streams.{StreamEnd, StreamState, count_at_end}
use Rattle.grasp_model_network.specs.World.{Seat, WorldState, seat_at, end_of}
use Rattle.grasp_laws_delivery.specs.Heads.{Head, head_of, heads}
use Rattle.grasp_laws_delivery.specs.Kept.{IsArrived, IsQueuedDial, WaitsBehind, HeadWaits, NodeKept, GoodHead, StreamsKept}
use Rattle.grasp_laws_delivery.specs.Ready.{Every, AreReady, StreamsAreReady}
use Rattle.grasp_laws_delivery.proofs.Counts.{every_weaker, every_of}
use Rattle.grasp_laws_delivery.proofs.EndMaps.{count_heads, count_numbers}
use Rattle.grasp_laws_delivery.proofs.HeadApart.{kept_apart, kept_known}
use Rattle.grasp_laws_delivery.proofs.HeadCounts.{EndsApart, good_apart}
use Rattle.grasp_laws_delivery.proofs.Present.{sides_present}
use Rattle.grasp_laws_delivery.proofs.Readying.{queue_ready}
use Rattle.grasp_laws_delivery.proofs.Worlds.{reached_in_order}

-- a dial that is queued is below the next one
queued_below : (P : ℕ → Type 0) (qs : List Queued) (d e stream : ℕ) (to : Locator) → Follows P d qs e → IsQueuedDial stream to qs → stream < 2 * e
queued_below P [] d e stream to f q = absurd q
queued_below P (datagram link on m ∷ qs) d e stream to f q = queued_below P qs d e stream to f q
queued_below P (dial next peer ∷ qs) d e stream to f (inl same) = let r : d + 1 ≤ e = follows_rise P qs (d + 1) e f.1 in omega (arith, r, f.0, same.0)
queued_below P (dial next peer ∷ qs) d e stream to f (inr q) = queued_below P qs (d + 1) e stream to f.1 q
queued_below P (send on m ∷ qs) d e stream to f q = queued_below P qs d e stream to f.1 q

module _ (s : Setting) (w : WorldState) (good : IsGoodSetting s) (k : StreamsKept s w) where
  apart_ends : Every EndsApart (heads w.streams)
  apart_ends = every_weaker (GoodHead s (length w.seats) w.dials) EndsApart (good_apart s good (length w.seats) w.dials) (heads w.streams) k.kept.ends

  pub no_two : (e : StreamEnd) → count_at_end w.streams e ≤ 1
  no_two e = subst (λ n. n ≤ 1) (sym (count_heads e w.streams)) (kept_apart s good w.seats (heads w.streams) w.dials k.kept e)

  module _ (node : ℕ) (seat : Seat) (here : seat_at w node ≡ Some seat) where
    its : NodeKept (heads w.streams) node seat
    its = k.kept.nodes node seat here

    pub node_ready : AreReady node seat.core.queue w.streams
    node_ready =
        queue_ready node seat.core.streams.dialled seat.core.queue w.streams apart_ends
        (λ number known. kept_known s good w.seats (heads w.streams) w.dials k.kept node seat number its known) its.queue

    pub records_once : All (λ (x : StreamRecord). count_at_end w.streams (end_of node x.number) ≡ 1) seat.core.streams.records
    records_once =
        All-weaker (λ (x : StreamRecord). IsKnown (λ n. IsArrived (heads w.streams) node n) seat.core.streams.dialled x.number) (λ (x : StreamRecord). count_at_end w.streams (end_of node x.number) ≡ 1)
        (λ x known.
        count_heads (end_of node x.number) w.streams ∙ kept_known s good w.seats (heads w.streams) w.dials k.kept node seat x.number its known)
        seat.core.streams.records its.records

    pub near_once : (d : ℕ) → d < seat.core.streams.dialled → count_at_end w.streams (end_of node (2 * d)) ≡ 1
    near_once d low =
        count_heads (end_of node (2 * d)) w.streams ∙ kept_known s good w.seats (heads w.streams) w.dials k.kept node seat (2 * d) its (inr (omega arith, omega (arith, low)))

    below_next : (h : Head) → HeadWaits node its.queue.sent seat.core.queue h → h.near.node ≡ node → h.near.number < 2 * seat.core.streams.dialled
    below_next h waits at = by_number h.number (waits at) where
      by_number : (o : Option ℕ) → WaitsBehind its.queue.sent seat.core.queue h.near.number h.to o → h.near.number < 2 * seat.core.streams.dialled
      by_number None x = queued_below (λ n. IsArrived (heads w.streams) node n) seat.core.queue its.queue.sent seat.core.streams.dialled h.near.number h.to its.queue.follows x.1
      by_number (Some j) x =
          let r : its.queue.sent ≤ seat.core.streams.dialled = follows_rise (λ n. IsArrived (heads w.streams) node n) seat.core.queue its.queue.sent seat.core.streams.dialled its.queue.follows in
          omega (arith, r, x)

    pub all_below : Every (λ (t : StreamState). t.near.node ≡ node → t.near.number < 2 * seat.core.streams.dialled) w.streams
    all_below =
        every_of (λ (h : Head). h.near.node ≡ node → h.near.number < 2 * seat.core.streams.dialled) head_of w.streams
        (every_weaker (HeadWaits node its.queue.sent seat.core.queue) (λ (h : Head). h.near.node ≡ node → h.near.number < 2 * seat.core.streams.dialled) below_next (heads w.streams) its.queue.waits)

pub streams_ready : TiesAreKept → StreamsAreReady
streams_ready ties = record {
  apart = λ s w r e. no_two s w r.good (reached_in_order ties s w r).streams e;
  ready = λ s w r node seat here. node_ready s w r.good (reached_in_order ties s w r).streams node seat here;
  ends = λ s w r. every_of (GoodHead s (length w.seats) w.dials) head_of w.streams (reached_in_order ties s w r).streams.kept.ends;
  once = λ s w r k least most. count_numbers k w.streams ∙ (reached_in_order ties s w r).streams.kept.once k least most;
  records = λ s w r node seat here. records_once s w r.good (reached_in_order ties s w r).streams node seat here;
  next = λ s w r node seat here. all_below s w r.good (reached_in_order ties s w r).streams node seat here;
  nears = λ s w r node seat here. near_once s w r.good (reached_in_order ties s w r).streams node seat here;
  present = λ s w r. sides_present ties s w r;
  waits = λ s w r. (reached_in_order ties s w r).streams.waits;
}
