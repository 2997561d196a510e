-- A network stays in order where a node is drained.
use Rattle.std.proofs.Common.{◌≡◌, ◌+◌, ◌-◌, refl, sym, ap, ◌∙◌, subst, ℕ, zero, suc, List, [], ◌∷◌, ◌++◌, take, drop, length, Option, Some, None, slice_set}
use Rattle.std.specs.List.{fold}
use Rattle.std.proofs.lemmas.List.{length-set}
use Rattle.grasp_laws_node.proofs.Beginning.{beginnings_end}
use Rattle.grasp_model_node.specs.Begin.{begin}
use Rattle.grasp_model_node.specs.Draining.{closes, drained, after_drain}
use Rattle.grasp_model_node.specs.Node.{NodeState}
use Rattle.grasp_model_node.specs.Queue.{Queued, datagram, dial, send}
use Rattle.grasp_model_node.specs.BoundedNodes.{IsBoundedNode}
use Rattle.grasp_laws_node.specs.Consistent.{IsConsistent, TiesAreKept}
use Rattle.grasp_types.specs.declared.address.Locator.{Locator}
use Rattle.grasp_types.specs.declared.message.Message.{Message}
use Rattle.grasp_types.specs.declared.reply.Reply.TheVariants as reply
use Rattle.grasp_types.specs.declared.traffic.Input.TheVariants as input
use Rattle.grasp_laws_node.specs.Dials.{evens_from}
use Rattle.grasp_laws_node.specs.Sends.{RecordsKnown}
use Rattle.grasp_laws_node.proofs.Drains.{drains_dial_nothing}
use Rattle.grasp_laws_node.proofs.Addressed.Nodes.{sends_follow}
use Rattle.grasp_laws_network.proofs.EachNode.{drain_steps}
use Rattle.grasp_laws_network.proofs.Here.{numbered_within}
use Rattle.grasp_laws_network.proofs.Sent.{sending_keeps_nodes}
use Rattle.grasp_model_network.specs.GoodSetting.{IsGoodSetting}
use Rattle.grasp_laws_network.specs.Nodes.{OfEachNode}
use Rattle.grasp_model_network.specs.Routes.{Route, route_of}
use Rattle.grasp_model_network.specs.Sending as network
use Rattle.grasp_model_network.specs.Sending.{seat_with, posted, dialled, sent_at, having_sent, having_closed, handed_over, drained_from, drained_at}
use Rattle.grasp_model_network.specs.Setting.{Setting, numbered}
use Rattle.grasp_model_network.specs.Streams.{StreamEnd, with_number, with_sent, with_ended}
use Rattle.grasp_model_network.specs.Visits.{no_choice}
use Rattle.grasp_model_network.specs.World.{Seat, WorldState, end_of, member_of, seat_at, with_seat}
use Rattle.grasp_laws_delivery.specs.Heads.{heads}
use Rattle.grasp_laws_delivery.specs.Kept.{IsArrived, QueueKept, NodeKept, GoodHead, StreamsKept}
use Rattle.grasp_laws_delivery.specs.Ready.{Every, FarWaits}
use Rattle.grasp_laws_delivery.proofs.Appending.{put_nodes}
use Rattle.grasp_laws_delivery.proofs.EndMaps.{sent_keeps, ended_keeps, change_keeps, change_numbers}
use Rattle.grasp_laws_delivery.proofs.FarSides.{sent_waits, ended_waits, number_waits, change_waits}
use Rattle.grasp_laws_delivery.proofs.Sending.{AreSending, sends_datagram, sends_message, sends_dial}

take_drop : {A : Type 0} (n : ℕ) (xs : List A) → take n xs ++ drop n xs ≡ xs
take_drop zero xs = refl
take_drop (suc n) [] = refl
take_drop (suc n) (x ∷ xs) = ap (λ ys. x ∷ ys) (take_drop n xs)

-- the streams and the count of dials of a network while a node's outputs are sent
pub record Goes (s : Setting) (seats : List Seat) (nodes node : ℕ) (core : NodeState) (qs : List Queued) (w : WorldState) : Type 0 where
  pub sending : AreSending s seats nodes node core (heads w.streams) w.dials qs
  pub waits : Every FarWaits w.streams

module _ (s : Setting) (good : IsGoodSetting s) (seats : List Seat) (nodes node : ℕ) (core : NodeState) where
  goes_datagram : (link to : ℕ) (m : Message) (qs : List Queued) (w : WorldState) (r : Option Route) → Goes s seats nodes node core (datagram link to m ∷ qs) w → Goes s seats nodes node core qs (posted w m r)
  goes_datagram link to m qs w None g = record { sending = sends_datagram s good seats nodes node core (heads w.streams) w.dials link to m qs g.sending; waits = g.waits }
  goes_datagram link to m qs w (Some route) g = record { sending = sends_datagram s good seats nodes node core (heads w.streams) w.dials link to m qs g.sending; waits = g.waits }

  goes_message : (e : StreamEnd) (stream : ℕ) (m : Message) (qs : List Queued) (w : WorldState) → Goes s seats nodes node core (send stream m ∷ qs) w → Goes s seats nodes node core qs (sent_at w e m)
  goes_message e stream m qs w g = record {
    sending = subst (λ hs. AreSending s seats nodes node core hs w.dials qs) (sym (change_keeps (with_sent m) (sent_keeps m) e w.streams))
        (sends_message s good seats nodes node core (heads w.streams) w.dials stream m qs g.sending);
    waits = change_waits (with_sent m) (sent_waits m) e w.streams g.waits;
  }

  goes_dial : (stream : ℕ) (to : Locator) (qs : List Queued) (w : WorldState) → Goes s seats nodes node core (dial stream to ∷ qs) w → Goes s seats nodes node core qs (dialled w (end_of node stream))
  goes_dial stream to qs w g = record {
    sending = subst (λ hs. AreSending s seats nodes node core hs (w.dials + 1) qs) (sym (change_numbers (end_of node stream) (w.dials + 1) w.streams))
        (sends_dial s good seats nodes node core (heads w.streams) w.dials stream to qs g.sending);
    waits = change_waits (with_number (w.dials + 1)) (number_waits (w.dials + 1)) (end_of node stream) w.streams g.waits;
  }

  goes_one : (q : Queued) (qs : List Queued) (w : WorldState) → Goes s seats nodes node core (q ∷ qs) w → Goes s seats nodes node core qs (having_sent s node w q)
  goes_one (datagram link to m) qs w g = goes_datagram link to m qs w (route_of s (member_of w node) link to) g
  goes_one (dial stream to) qs w g = goes_dial stream to qs w g
  goes_one (send stream m) qs w g = goes_message (end_of node stream) stream m qs w g

  pub goes_all : (qs rest : List Queued) (w : WorldState) → Goes s seats nodes node core (qs ++ rest) w → Goes s seats nodes node core rest (fold (having_sent s node) w qs)
  goes_all [] rest w g = g
  goes_all (q ∷ qs) rest w g = goes_all qs rest (having_sent s node w q) (goes_one q (qs ++ rest) w g)

  pub goes_closed : (qs : List Queued) (streams : List ℕ) (w : WorldState) → Goes s seats nodes node core qs w → Goes s seats nodes node core qs (fold (having_closed node) w streams)
  goes_closed qs [] w g = g
  goes_closed qs (stream ∷ streams) w g =
      goes_closed qs streams (having_closed node w stream) (record {
        sending = subst (λ hs. AreSending s seats nodes node core hs w.dials qs) (sym (change_keeps with_ended ended_keeps (end_of node stream) w.streams)) g.sending;
        waits = change_waits with_ended ended_waits (end_of node stream) w.streams g.waits;
      })

  pub goes_over : (qs rest : List Queued) (streams : List ℕ) (w : WorldState) → Goes s seats nodes node core (qs ++ rest) w → Goes s seats nodes node core rest (handed_over s w node qs streams)
  unfolding handed_over
  goes_over qs rest streams w g = goes_closed rest streams (fold (having_sent s node) w qs) (goes_all qs rest w g)

-- ---- a drain

module _ (ties : TiesAreKept) (s : Setting) (good : IsGoodSetting s) (w : WorldState) (kept : StreamsKept s w) (node max : ℕ) (seat : Seat) (here : seat_at w node ≡ Some seat) (sound : IsBoundedNode seat.core) (tied : IsConsistent seat.core) where
  abbrev begun : NodeState
  begun = begin seat.core seat.core.reading

  abbrev core : NodeState
  core = after_drain begun max

  was : NodeKept (heads w.streams) node seat
  was = kept.kept.nodes node seat here

  records : RecordsKnown (λ n. IsArrived (heads w.streams) node n) core
  records =
      (sends_follow ties (λ n. IsArrived (heads w.streams) node n) seat.core core seat.core.reading (input.Drain max) no_choice.coming (reply.Outputs (drained begun max)) sound tied was.records tt
      (drain_steps seat.core seat.core.reading max no_choice.coming)).records

  facts : (core.streams.dialled ≡ seat.core.streams.dialled) × (core.queue ≡ drop max seat.core.queue)
  facts = drains_dial_nothing seat.core core seat.core.reading max no_choice.coming (reply.Outputs (drained begun max)) (drain_steps seat.core seat.core.reading max no_choice.coming)

  same_queue : begun.queue ≡ seat.core.queue
  same_queue = (beginnings_end seat.core seat.core.reading).0.queue

  whole : seat.core.queue ≡ take max begun.queue ++ core.queue
  whole = sym (ap (λ q. take max q ++ core.queue) same_queue ∙ (ap (λ q. take max seat.core.queue ++ q) facts.1 ∙ take_drop max seat.core.queue))

  abbrev put : WorldState
  put = with_seat w node (seat_with core seat.agent)

  start : Goes s w.seats (length w.seats) node core (take max begun.queue ++ core.queue) put
  start = record {
    sending = record {
      others = λ n x apart there. kept.kept.nodes n x there;
      queue = subst (λ d. QueueKept (heads w.streams) node (take max begun.queue ++ core.queue) d) (sym facts.0)
          (subst (λ q. QueueKept (heads w.streams) node q seat.core.streams.dialled) whole was.queue);
      records = records;
      nears = was.nears ∙ ap (evens_from 0) (sym facts.0);
      ends = kept.kept.ends;
      once = kept.kept.once;
    };
    waits = kept.waits;
  }

  end : Goes s w.seats (length w.seats) node core core.queue (drained_from s w node seat begun max)
  end = goes_over s good w.seats (length w.seats) node core (take max begun.queue) core.queue (closes begun max) put start

  seats_are : (drained_from s w node seat begun max).seats ≡ slice_set w.seats (node - 1) (seat_with core seat.agent)
  seats_are = sending_keeps_nodes s put node (take max begun.queue) (closes begun max)

  finish : (x : WorldState) → x.seats ≡ slice_set w.seats (node - 1) (seat_with core seat.agent) → Goes s w.seats (length w.seats) node core core.queue x → StreamsKept s x
  finish x e g = record {
    kept = record {
      nodes = λ n y there.
          put_nodes (NodeKept (heads x.streams)) w.seats node (seat_with core seat.agent) (numbered_within w.seats node seat here).least
          (record { queue = g.sending.queue; records = g.sending.records; nears = g.sending.nears }) g.sending.others n y (subst (λ seats. numbered seats n ≡ Some y) e there);
      ends = subst (λ nodes. Every (GoodHead s nodes x.dials) (heads x.streams)) (sym (ap length e ∙ length-set w.seats (node - 1) (seat_with core seat.agent))) g.sending.ends;
      once = g.sending.once;
    };
    waits = g.waits;
  }

  pub drain_kept : StreamsKept s (drained_from s w node seat begun max)
  drain_kept = finish (drained_from s w node seat begun max) seats_are end

-- each node is one to which steps lead
abbrev pub AreSound : WorldState → Type 0
AreSound w = OfEachNode (λ node n. IsBoundedNode n × IsConsistent n) w

module _ (ties : TiesAreKept) (s : Setting) (good : IsGoodSetting s) where
  drained_by : (w : WorldState) (node max : ℕ) (o : Option Seat) → seat_at w node ≡ o → StreamsKept s w → AreSound w → StreamsKept s (drained_at s w node max o)
  drained_by w node max None here kept sound = kept
  drained_by w node max (Some seat) here kept sound = let k = sound node seat here in drain_kept ties s good w kept node max seat here k.0 k.1

  pub drained_kept : (w : WorldState) (node max : ℕ) → StreamsKept s w → AreSound w → StreamsKept s (network.drained s w node max)
  unfolding network.drained
  drained_kept w node max kept sound = drained_by w node max (seat_at w node) refl kept sound
