-- For which streams a node has queued messages from some state on, and that each move queues them for known ones.
use Rattle.std.proofs.Common.{◌≡◌, ℕ, ◌+◌, List, [], ◌∷◌, ◌++◌, Some, None, refl, sym, ap, ◌∙◌}
use Rattle.std.proofs.lemmas.List.{append-nil, append_assoc}
use Rattle.grasp_types.specs.declared.message.Message.{Message}
use Rattle.grasp_wire.specs.Cutter.{no_past}
use Rattle.grasp_model_node.specs.Draws.{next_session}
use Rattle.grasp_model_node.specs.FloodCalls.{discovery_message}
use Rattle.grasp_model_node.specs.Node.{NodeState}
use Rattle.grasp_model_node.specs.Queue.{Queued, send, along, all_ways}
use Rattle.grasp_model_node.specs.SessionCalls.{stream_at, act_message, request_of}
use Rattle.grasp_laws_node.specs.Sends.{IsKnown, Follows}
use Rattle.grasp_laws_node.proofs.Addressed.Streams.{StreamsKnown, known_more, follows_append, follows_rise, along_follows, send_follows, dial_follows, past_known, without_known, opened_known, dialled_known}
use Rattle.grasp_laws_node.proofs.Walk.Moves.{Known, Turn, Move, Moves, drains, opening, next_dial, kept, unfolded, times_out, answers, responds, closes, goes_on, leaves, opens, relays, replies, says, declines, shuts, asks, searches, tells_all, drains_out}

-- since the base, the node has queued for known streams
pub record Knows (P : ℕ → Type 0) (base n : NodeState) : Type 0 where
  pub more : List Queued
  pub queued : n.queue ≡ base.queue ++ more
  pub follows : Follows P base.streams.dialled more n.streams.dialled
  pub records : StreamsKnown P n.streams

-- what a turn is to be: no drain, and the opening of a stream that is among those that peers opened
abbrev pub Opens : (ℕ → Type 0) → Turn → Type 0
Opens P drains = ⊥
Opens P (opening stream from) = P stream
Opens P _ = Unit {0}

module _ (P : ℕ → Type 0) (base : NodeState) where
  -- what is said alone goes to known streams
  abbrev pub known_streams : Known
  known_streams = record { message = λ m. Unit {0}; stream = IsKnown P base.streams.dialled; past = λ s p. Unit {0}; saying = λ s. Unit {0} }

  pub nothing_known : StreamsKnown P base.streams → Knows P base base
  nothing_known a = record { more = []; queued = sym (append-nil base.queue); follows = refl; records = a }

  -- these outputs are queued behind the others
  queued_known : (n after : NodeState) (outputs : List Queued) → after.queue ≡ n.queue ++ outputs → Follows P n.streams.dialled outputs after.streams.dialled → StreamsKnown P after.streams → Knows P base n → Knows P base after
  queued_known n after outputs q f r k = record {
    more = k.more ++ outputs;
    queued = q ∙ (ap (λ q. q ++ outputs) k.queued ∙ append_assoc base.queue k.more outputs);
    follows = follows_append P k.more outputs base.streams.dialled n.streams.dialled after.streams.dialled k.follows f;
    records = r;
  }

  -- a message for a stream that the base knew
  sent_known : (n : NodeState) (stream : ℕ) (m : Message) → IsKnown P base.streams.dialled stream → Knows P base n → Follows P n.streams.dialled (send stream m ∷ []) n.streams.dialled
  sent_known n stream m h k =
      send_follows P stream m n.streams.dialled (known_more P base.streams.dialled n.streams.dialled stream (follows_rise P k.more base.streams.dialled n.streams.dialled k.follows) h)

  move_known : (from : NodeState) (turn : Turn) (n after : NodeState) → Move known_streams from n turn after → Opens P turn → Knows P base n → Knows P base after
  unfolding unfolded
  move_known from turn n after (answers {stream = stream} m i so e) o k = queued_known n _ (send stream m ∷ []) refl (sent_known n stream m so k) k.records k
  move_known from turn n after (says h saying may so e room fit) o k =
      queued_known n _ (send (stream_at n h) (act_message n h saying) ∷ []) refl (sent_known n (stream_at n h) (act_message n h saying) so k) k.records k
  move_known from turn n after (declines d i so e room) o k = queued_known n _ (send d.stream d.message ∷ []) refl (sent_known n d.stream d.message so k) k.records k
  move_known from turn n after (responds to m i so e) o k =
      queued_known n _ (next_dial n to m) refl (dial_follows P n.streams.dialled to m) (dialled_known P n.streams None k.records) k
  move_known from turn n after (replies to m i e) o k =
      queued_known n _ (next_dial n to m) refl (dial_follows P n.streams.dialled to m) (dialled_known P n.streams None k.records) k
  move_known from turn n after (asks kind timeout object peer is so e free room fit) o k =
      let m = request_of kind (next_session n) object in
      queued_known n _ (next_dial n peer m) refl (dial_follows P n.streams.dialled peer m) (dialled_known P n.streams (Some no_past) k.records) k
  move_known from turn n after (relays m ways e) o k = queued_known n _ (along m ways) refl (along_follows P m ways n.streams.dialled) k.records k
  move_known from turn n after (searches name kind loops timeout is fresh free room fit) o k =
      let m = discovery_message n name kind loops in
      queued_known n _ (along m (all_ways n.plan.links)) refl (along_follows P m (all_ways n.plan.links) n.streams.dialled) k.records k
  move_known from turn n after (tells_all m room fit) o k = queued_known n _ (along m (all_ways n.plan.links)) refl (along_follows P m (all_ways n.plan.links) n.streams.dialled) k.records k
  move_known from turn n after (times_out stream e) o k = record { more = k.more; queued = k.queued; follows = k.follows; records = past_known P n.streams stream None k.records }
  move_known from turn n after (closes {stream = stream}) o k = record { more = k.more; queued = k.queued; follows = k.follows; records = past_known P n.streams stream None k.records }
  move_known from turn n after (shuts stream) o k = record { more = k.more; queued = k.queued; follows = k.follows; records = past_known P n.streams stream None k.records }
  move_known from turn n after (goes_on {stream = stream} past so) o k = record { more = k.more; queued = k.queued; follows = k.follows; records = past_known P n.streams stream (Some past) k.records }
  move_known from turn n after (leaves {stream = stream}) o k = record { more = k.more; queued = k.queued; follows = k.follows; records = without_known P n.streams stream k.records }
  move_known from turn n after (opens {stream = stream} {from = address} so new room) o k = record { more = k.more; queued = k.queued; follows = k.follows; records = opened_known P n.streams stream address o k.records }
  move_known from turn n after (drains_out max) o k = absurd o
  move_known from turn n after _ o k = record { more = k.more; queued = k.queued; follows = k.follows; records = k.records }

  pub moves_known : (from : NodeState) (turn : Turn) (n after : NodeState) → Moves known_streams from turn n after → Opens P turn → Knows P base n → Knows P base after
  moves_known from turn n after ms o k = kept (Knows P base) (λ m after x h. move_known from turn m after x o h) ms k
