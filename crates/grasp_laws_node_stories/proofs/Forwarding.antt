-- A response that is heard: it may be sent on, on a stream of its own.
use Rattle.std.proofs.Common.{◌≡◌, ℕ, ◌+◌, Bool, true, false, cond, not, ◌&&◌, List, [], ◌∷◌, Option, None, Some, refl}
use Rattle.std.proofs.lemmas.Bool.{false≢true}
use Rattle.std.proofs.lemmas.List.Elements.{All-push}
use Rattle.grasp_discovery.specs.Discoveries.{after_answered, end_of}
use Rattle.grasp_discovery.specs.declared.answers.Answered.{Answered}
use Rattle.grasp_discovery.specs.declared.answers.Answered.TheVariants.{Relay}
use Rattle.grasp_discovery.specs.declared.topic.Topic.{Topic}
use Rattle.grasp_types.specs.declared.address.Locator.{Locator}
use Rattle.grasp_types.specs.declared.links.Neighbour.{Neighbour}
use Rattle.grasp_types.specs.declared.message.Message.{Message}
use Rattle.grasp_model_node.specs.Hear.{neighbour_at, dial_neighbour, sent_on, responded}
use Rattle.grasp_model_node.specs.Moves.{with_discoveries, dial_record, queue_up, may_queue}
use Rattle.grasp_model_node.specs.Node.{NodeState}
use Rattle.grasp_model_node.specs.Queue.{Queued, send, dial}
use Rattle.grasp_model_node.specs.Streams.{StreamRecord, next_stream, is_dialled_out}
use Rattle.grasp_laws_node_stories.specs.StreamMoves.{IsResponse}
use Rattle.grasp_laws_node_stories.proofs.Hearing.{Ready}
use Rattle.grasp_laws_node_stories.proofs.Parts.{discovers, itself, given_up}
use Rattle.grasp_laws_node_stories.proofs.Requesting.{IsBorn, born_quietly, one_more}
use Rattle.grasp_laws_node_stories.proofs.Responding.{Responded, quiet_responded, quiet_then, dials_with}

-- ---- the moves of a stream

neighbours : (stream : ℕ) (n : NodeState) (o : Option Neighbour) (m : Message) → IsResponse m → IsBorn stream n → Responded stream n (dial_neighbour n o m)
neighbours stream n None m i b = quiet_responded stream n n (itself stream n)
neighbours stream n (Some neighbour) m i b = dials_with stream n neighbour.locator m i b

sends_on : (stream : ℕ) (n : NodeState) (m : Message) (asker : Option (Answered × Topic)) → IsResponse m → IsBorn stream n → Responded stream n (sent_on n m asker)
sends_on stream n m (Some (Relay cause, topic)) i b = neighbours stream n (neighbour_at n cause.link cause.from) m i b
sends_on stream n m _ i b = quiet_responded stream n n (itself stream n)

pub forwards : (stream : ℕ) (n : NodeState) (ttl : ℕ) (locators : List Locator) (m : Message) (asker : Option (Answered × Topic)) → IsResponse m → IsBorn stream n → Responded stream n (responded n ttl locators m asker)
forwards stream n ttl locators m asker i b =
    let d = after_answered n.discoveries (end_of n.reading ttl) locators asker in
    quiet_then stream n (with_discoveries n d) (sent_on (with_discoveries n d) m asker) (discovers stream n d)
    (sends_on stream (with_discoveries n d) m asker i (born_quietly stream n (with_discoveries n d) (discovers stream n d) b))

-- ---- what the node is ready for

dial_ready : (stream : ℕ) (n : NodeState) (outputs : List Queued) → Ready stream false n → Ready stream false (dial_record (queue_up n outputs) None)
unfolding dial_record queue_up
dial_ready stream n outputs r = record {
  reached = r.reached;
  given = given_up stream n.streams.dialled (n.streams.dialled + 1) (one_more n.streams.dialled) r.given;
  shut = All-push (λ (x : StreamRecord). x.number ≡ stream → x.past ≡ None) n.streams.records (record { number = next_stream n.streams; from = None; past = None }) r.shut (λ e. refl);
  voice = λ e. absurd (false≢true e);
}

neighbour_ready : (stream : ℕ) (n : NodeState) (o : Option Neighbour) (m : Message) → Ready stream false n → Ready stream false (dial_neighbour n o m)
neighbour_ready stream n None m r = r
neighbour_ready stream n (Some neighbour) m r = by_test (may_queue n m 2 && not (is_dialled_out n.streams)) where
  outputs : List Queued
  outputs = dial (next_stream n.streams) neighbour.locator ∷ send (next_stream n.streams) m ∷ []

  by_test : (b : Bool) → Ready stream false (cond b (dial_record (queue_up n outputs) None) n)
  by_test true = dial_ready stream n outputs r
  by_test false = r

sent_on_ready : (stream : ℕ) (n : NodeState) (m : Message) (asker : Option (Answered × Topic)) → Ready stream false n → Ready stream false (sent_on n m asker)
sent_on_ready stream n m (Some (Relay cause, topic)) r = neighbour_ready stream n (neighbour_at n cause.link cause.from) m r
sent_on_ready stream n m _ r = r

pub forward_ready : (stream : ℕ) (n : NodeState) (ttl : ℕ) (locators : List Locator) (m : Message) (asker : Option (Answered × Topic)) → Ready stream false n → Ready stream false (responded n ttl locators m asker)
unfolding with_discoveries
forward_ready stream n ttl locators m asker r =
    sent_on_ready stream (with_discoveries n (after_answered n.discoveries (end_of n.reading ttl) locators asker)) m asker
    (record { reached = r.reached; given = r.given; shut = r.shut; voice = λ e. absurd (false≢true e) })
