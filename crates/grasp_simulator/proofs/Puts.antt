-- One output of a node that is sent.
use Rattle.std.proofs.Common.{◌≡◌, refl, sym, ap, ◌∙◌, subst, arith, ℕ, ◌+◌, ◌*◌, min, Bool, true, cond, Some, None, List, [], length}
use Rattle.grasp_model_node.specs.Queue.{Queued, datagram, dial, send, encoding, output_of}
use Rattle.grasp_types.specs.declared.address.Locator.{Locator}
use Rattle.grasp_types.specs.declared.message.Message.{Message}
use Rattle.grasp_types.specs.declared.traffic.Output.{Output}
use Rattle.grasp_types.specs.declared.traffic.Output.TheVariants as output
use Rattle.grasp_model_network.specs.Routes.{route_of}
use Rattle.grasp_model_network.specs.Sending.{posted, having_sent}
use Rattle.grasp_model_network.specs.Setting.{Setting}
use Rattle.grasp_model_network.specs.Streams.{StreamEnd, StreamState, count_at_end, change_at_end, with_number, with_sent, with_ended}
use Rattle.grasp_model_network.specs.World.{WorldState, end_of, member_of}
use Rattle.grasp_laws_delivery.specs.Ready.{IsDialOf, AreSent}
use Rattle.grasp_simulator.specs.Sends.{CanSend, Posts, Puts}
use Rattle.grasp_session.specs.Messages.{Near, Far}
use Rattle.grasp_simulator.specs.Marking.{begins_as, is_here, is_marked}
use Rattle.grasp_simulator.specs.StreamsStand.{Queueing, StreamsStand}
use Rattle.grasp_simulator.specs.WorldStands.{WorldKeeps, most_count}
use Rattle.grasp_simulator.specs.declared.streams.Streams.{Streams}
use Rattle.grasp_simulator.specs.declared.world.World.{World}
use Rattle.grasp_simulator.proofs.Nears.{KeepsNear, still_changed}
use Rattle.grasp_simulator.proofs.Turns.{with_streams}

-- ---- the parts of an output

abbrev numbers_in : Output → ℕ × ℕ
numbers_in (output.Datagram link to bytes) = (link, to)
numbers_in (output.Dial stream to) = (stream, 0)
numbers_in (output.Send stream bytes) = (stream, 0)
numbers_in (output.Close stream) = (stream, 0)

abbrev bytes_in : Output → List ℕ
bytes_in (output.Datagram link to bytes) = bytes
bytes_in (output.Dial stream to) = []
bytes_in (output.Send stream bytes) = bytes
bytes_in (output.Close stream) = []

abbrev locator_in : Locator → Output → Locator
locator_in other (output.Dial stream to) = to
locator_in other _ = other

-- ---- a datagram

pub puts_datagram : (before after : World) (node life link to : ℕ) (bytes : List ℕ) (o : Output) → o ≡ output.Datagram link to bytes → Posts before after node link to bytes → Puts before after node life o
puts_datagram before after node life link to bytes o is posts = record {
  queued = λ s w q keeps own present can e. by_queued s w q keeps own (sym is ∙ e);
  closed = λ s w stream keeps e. absurd (let other : output.Datagram link to bytes ≡ output.Close stream = sym is ∙ e in cc);
} where
  by_queued : (s : Setting) (w : WorldState) (q : Queued) → WorldKeeps before s w → member_of w life ≡ node → output.Datagram link to bytes ≡ output_of q → WorldKeeps after s (having_sent s life w q)
  by_queued s w (datagram l t m) keeps own e =
      let link_is : link ≡ l = ap (λ (x : Output). (numbers_in x).0) e in
      let to_is : to ≡ t = ap (λ (x : Output). (numbers_in x).1) e in
      subst (λ (k : ℕ). WorldKeeps after s (posted w m (route_of s k l t))) (sym own)
      (subst (λ (k : ℕ). WorldKeeps after s (posted w m (route_of s node k t))) link_is
      (subst (λ (k : ℕ). WorldKeeps after s (posted w m (route_of s node link k))) to_is (posts s w m keeps (ap bytes_in e))))
  by_queued s w (dial stream t) keeps own e = absurd (cc)
  by_queued s w (send stream m) keeps own e = absurd (cc)

-- ---- streams

pub puts_dial : (before : World) (streams : Streams) (node life stream : ℕ) (to : Locator) (closed : Bool) (o : Output) → o ≡ output.Dial stream to
    → closed ≡ is_marked before.marks before.plan.nodes (end_of life stream) to
    → ((begins : Queueing) (ts : List StreamState) (dials : ℕ) → IsDialOf ts (end_of life stream) to → begins (end_of life stream) to ≡ Some closed → StreamsStand before.streams begins ts dials
    → StreamsStand streams begins (change_at_end ts (end_of life stream) (with_number (dials + 1))) (dials + 1))
    → Puts before (record before { streams = streams }) node life o
puts_dial before streams node life stream to closed o is marked dials = record {
  queued = λ s w q keeps own present can e. by_queued s w q keeps present can (sym is ∙ e);
  closed = λ s w k keeps e. absurd (let other : output.Dial stream to ≡ output.Close k = sym is ∙ e in cc);
} where
  by_queued : (s : Setting) (w : WorldState) (q : Queued) → WorldKeeps before s w → is_here w.lives life ≡ true → CanSend life q w.streams → output.Dial stream to ≡ output_of q
      → WorldKeeps (record before { streams = streams }) s (having_sent s life w q)
  by_queued s w (datagram l t m) keeps present can e = absurd (cc)
  by_queued s w (send k m) keeps present can e = absurd (cc)
  by_queued s w (dial k t) keeps present can e =
      let begins : Queueing = begins_as w.lives before.marks before.plan.nodes in
      let k_is : stream ≡ k = ap (λ (x : Output). (numbers_in x).0) e in
      let to_is : to ≡ t = ap (locator_in to) e in
      let same : end_of life k ≡ end_of life stream = ap (end_of life) (sym k_is) in
      let starts : begins (end_of life stream) to ≡ Some closed =
      ap (λ b. cond b (Some (is_marked before.marks before.plan.nodes (end_of life stream) to)) None) present ∙ ap (λ (b : Bool). Some b) (sym marked) in
      let d : IsDialOf w.streams (end_of life stream) to = subst (λ (x : StreamEnd). IsDialOf w.streams x to) same (subst (IsDialOf w.streams (end_of life k)) (sym to_is) can) in
      with_streams before s w streams (change_at_end w.streams (end_of life k) (with_number (w.dials + 1))) (w.dials + 1) keeps
      (λ q was. still_changed (with_number (w.dials + 1)) (λ x side. refl) w.streams (end_of life k) q was)
      (subst (λ (x : StreamEnd). StreamsStand streams begins (change_at_end w.streams x (with_number (w.dials + 1))) (w.dials + 1)) (sym same) (dials begins w.streams w.dials d starts keeps.streams))

-- what is counted once more
counts_once : (before after bytes sent count : ℕ) → before ≡ min sent most_count → after ≡ min (before + bytes) most_count → count ≡ 1 → after ≡ min (sent + count * bytes) most_count
counts_once before after bytes sent count was is once = rw once (omega (arith, was, is))

sent_near : (m : Message) → KeepsNear (with_sent m)
sent_near m t Near = refl
sent_near m t Far = refl

ended_near : KeepsNear with_ended
ended_near t Near = refl
ended_near t Far = refl

pub puts_send : (before : World) (streams : Streams) (node life stream sent : ℕ) (bytes : List ℕ) (o : Output) → o ≡ output.Send stream bytes → sent ≡ min (before.sent + length bytes) most_count
    → ((begins : Queueing) (ts : List StreamState) (dials : ℕ) (m : Message) → bytes ≡ encoding m → AreSent ts (end_of life stream) → StreamsStand before.streams begins ts dials
    → StreamsStand streams begins (change_at_end ts (end_of life stream) (with_sent m)) dials)
    → Puts before (record before { streams = streams; sent = sent }) node life o
puts_send before streams node life stream sent bytes o is more sends = record {
  queued = λ s w q keeps own present can e. by_queued s w q keeps can (sym is ∙ e);
  closed = λ s w k keeps e. absurd (let other : output.Send stream bytes ≡ output.Close k = sym is ∙ e in cc);
} where
  by_queued : (s : Setting) (w : WorldState) (q : Queued) → WorldKeeps before s w → CanSend life q w.streams → output.Send stream bytes ≡ output_of q
      → WorldKeeps (record before { streams = streams; sent = sent }) s (having_sent s life w q)
  by_queued s w (datagram l t m) keeps can e = absurd (cc)
  by_queued s w (dial k t) keeps can e = absurd (cc)
  by_queued s w (send k m) keeps can e =
      let k_is : stream ≡ k = ap (λ (x : Output). (numbers_in x).0) e in
      let bytes_are : bytes ≡ encoding m = ap bytes_in e in
      let same : end_of life k ≡ end_of life stream = ap (end_of life) (sym k_is) in
      let were : AreSent w.streams (end_of life stream) = subst (AreSent w.streams) same can.1 in
      let begins : Queueing = begins_as w.lives before.marks before.plan.nodes in
      let now : StreamsStand streams begins (change_at_end w.streams (end_of life stream) (with_sent m)) w.dials = sends begins w.streams w.dials m bytes_are were keeps.streams in
      let count : sent ≡ min (w.byte_count + count_at_end w.streams (end_of life k) * length (encoding m)) most_count =
      counts_once before.sent sent (length (encoding m)) w.byte_count (count_at_end w.streams (end_of life k)) keeps.sent (more ∙ ap (λ (x : List ℕ). min (before.sent + length x) most_count) bytes_are) can.0 in
      record {
        good = keeps.good;
        setting = keeps.setting;
        count = keeps.count;
        seats = keeps.seats;
        lives = keeps.lives;
        marks = λ q even below. still_changed (with_sent m) (sent_near m) w.streams (end_of life k) q (keeps.marks q even below);
        streams = subst (λ (x : StreamEnd). StreamsStand streams begins (change_at_end w.streams x (with_sent m)) w.dials) (sym same) now;
        parcels = keeps.parcels;
        receivers = keeps.receivers;
        places = keeps.places;
        sent = count;
        goes = keeps.goes;
      }

pub puts_close : (before : World) (streams : Streams) (node life stream : ℕ) (o : Output) → o ≡ output.Close stream
    → ((begins : Queueing) (ts : List StreamState) (dials : ℕ) → StreamsStand before.streams begins ts dials → StreamsStand streams begins (change_at_end ts (end_of life stream) with_ended) dials)
    → Puts before (record before { streams = streams }) node life o
puts_close before streams node life stream o is closes = record {
  queued = λ s w q keeps own present can e. absurd (no_output q (sym is ∙ e));
  closed = λ s w k keeps e.
      let k_is : stream ≡ k = ap (λ (x : Output). (numbers_in x).0) (sym is ∙ e) in
      let same : end_of life k ≡ end_of life stream = ap (end_of life) (sym k_is) in
      let begins : Queueing = begins_as w.lives before.marks before.plan.nodes in
      with_streams before s w streams (change_at_end w.streams (end_of life k) with_ended) w.dials keeps
      (λ q was. still_changed with_ended ended_near w.streams (end_of life k) q was)
      (subst (λ (x : StreamEnd). StreamsStand streams begins (change_at_end w.streams x with_ended) w.dials) (sym same) (closes begins w.streams w.dials keeps.streams));
} where
  no_output : (q : Queued) → output.Close stream ≡ output_of q → ⊥
  no_output (datagram l t m) e = absurd (cc)
  no_output _ e = absurd (cc)
