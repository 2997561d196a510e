-- A stream that waits to be opened has no far end, whatever is done to its sides.
use Rattle.std.proofs.Common.{◌≡◌, refl, ℕ, true, List, [], ◌∷◌, ◌++◌, Option, Some, None}
use Rattle.std.specs.List.{fold}
use Rattle.grasp_model_node.specs.Queue.{Queued, datagram, dial, send}
use Rattle.grasp_session.specs.Messages.{Side, Near, Far}
use Rattle.grasp_types.specs.declared.message.Message.{Message}
use Rattle.grasp_types.specs.declared.reply.Reply.{Reply}
use Rattle.grasp_types.specs.declared.reply.Reply.TheVariants as reply
use Rattle.grasp_model_network.specs.StreamChanges.{arrival_by}
use Rattle.grasp_model_network.specs.Sending.{having_made, streams_made}
use Rattle.grasp_model_network.specs.Streams.{StreamEnd, StreamState, Arrival, told_closed, is_waiting, fresh_stream, side_of_end, changed_by, change_at_end, with_side, with_said, with_sent, with_ended, with_delivered, with_number, with_far}
use Rattle.grasp_model_network.specs.World.{end_of}
use Rattle.grasp_laws_delivery.specs.Ready.{Every, FarWaits}
use Rattle.grasp_laws_delivery.proofs.Counts.{every_append}

abbrev pub KeepsWaiting : (StreamState → Side → StreamState) → Type 0
KeepsWaiting f = (t : StreamState) (side : Side) → FarWaits t → FarWaits (f t side)

pub said_waits : (m : Message) → KeepsWaiting (with_said m)
said_waits m t side w = w

pub sent_waits : (m : Message) → KeepsWaiting (with_sent m)
sent_waits m t Near w = w
sent_waits m t Far w = w

pub ended_waits : KeepsWaiting with_ended
ended_waits t Near w = w
ended_waits t Far w = w

pub delivered_waits : (count : ℕ) → KeepsWaiting (with_delivered count)
delivered_waits count t Near w = w
delivered_waits count t Far w = w

pub number_waits : (k : ℕ) → KeepsWaiting (with_number k)
number_waits k t side w = w

pub told_waits : KeepsWaiting (with_side told_closed)
told_waits t Near w = w
told_waits t Far w = λ is. absurd (cc)

pub opened_waits : (far : StreamEnd) (a : Arrival) → (is_waiting a ≡ true → ⊥) → KeepsWaiting (with_far far a)
opened_waits far a not t side w = λ is. absurd (not is)

pub reply_opens : (r : Reply) → is_waiting (arrival_by r) ≡ true → ⊥
reply_opens reply.Turned is = cc
reply_opens _ is = cc

changed_waits : (f : StreamState → Side → StreamState) → KeepsWaiting f → (t : StreamState) (o : Option Side) → FarWaits t → FarWaits (changed_by f t o)
changed_waits f keeps t None w = w
changed_waits f keeps t (Some side) w = keeps t side w

pub change_waits : (f : StreamState → Side → StreamState) → KeepsWaiting f → (e : StreamEnd) (ts : List StreamState) → Every FarWaits ts → Every FarWaits (change_at_end ts e f)
change_waits f keeps e [] w = tt
change_waits f keeps e (t ∷ ts) w = (changed_waits f keeps t (side_of_end e t) w.0, change_waits f keeps e ts w.1)

all_made_wait : (node : ℕ) (qs : List Queued) (ts : List StreamState) → Every FarWaits ts → Every FarWaits (fold (having_made node) ts qs)
all_made_wait node [] ts w = w
all_made_wait node (datagram link to m ∷ qs) ts w = all_made_wait node qs ts w
all_made_wait node (dial stream to ∷ qs) ts w =
    let t : StreamState = fresh_stream (end_of node stream) to in
    all_made_wait node qs (ts ++ t ∷ []) (every_append FarWaits ts (t ∷ []) w ((λ is. refl), tt))
all_made_wait node (send stream m ∷ qs) ts w =
    all_made_wait node qs (change_at_end ts (end_of node stream) (with_said m)) (change_waits (with_said m) (said_waits m) (end_of node stream) ts w)

pub talks_made_wait : (node : ℕ) (qs : List Queued) (ts : List StreamState) → Every FarWaits ts → Every FarWaits (streams_made node ts qs)
unfolding streams_made
talks_made_wait node qs ts w = all_made_wait node qs ts w
