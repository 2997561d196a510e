-- What messages, closings and time do to the sessions of a node, as changes of its table of sessions: what each such change keeps is kept.
use Rattle.std.proofs.Common.{◌≡◌, refl, ℕ, zero, suc, Bool, true, false, cond, not, ◌&&◌, List, [], ◌∷◌, Option, None, Some}
use Rattle.grasp_asa.specs.Answers.{value_offered}
use Rattle.grasp_cbor.specs.DataItem.{DataItem}
use Rattle.grasp_model_node.specs.Begin.{begin, expired, expire_next, expire_on}
use Rattle.grasp_model_node.specs.Bytes.{hear_fault, hear_rest, broken, after_closed}
use Rattle.grasp_model_node.specs.Declines.{declined_for, unlistened}
use Rattle.grasp_model_node.specs.FloodCalls.{looked}
use Rattle.grasp_model_node.specs.Hear.{Heard, shuts, refused_by, after_refusal, hear_later_by, declines, synched, hear_synchronization, neighbour_at, dial_neighbour, sent_on, responded}
use Rattle.grasp_model_node.specs.Moves.{with_reading, with_sessions, with_discoveries, with_floods, with_draw, begin_closing, drop_record, open_record, dial_record, queue_up, may_queue, answer, dial_with}
use Rattle.grasp_model_node.specs.Node.{NodeState}
use Rattle.grasp_model_node.specs.Opening.{is_ignored, after_opened}
use Rattle.grasp_model_node.specs.Queue.{dial, send}
use Rattle.grasp_model_node.specs.Streams.{is_dialled_out, next_stream, has_record}
use Rattle.grasp_discovery.specs.Discoveries.{after_answered, end_of}
use Rattle.grasp_discovery.specs.declared.answers.Answered.{Answered}
use Rattle.grasp_discovery.specs.declared.answers.Answered.TheVariants.{Relay}
use Rattle.grasp_discovery.specs.declared.answers.Find.{Find}
use Rattle.grasp_discovery.specs.declared.answers.Find.TheVariants as find
use Rattle.grasp_discovery.specs.declared.topic.Topic.{Topic}
use Rattle.grasp_session.specs.Sessions.{Sessions, state_reply, receive_reply, after_receive, after_mark, expire_reply, after_expire}
use Rattle.grasp_session.specs.Transcript.{Mark, Faulty, Closed}
use Rattle.grasp_session.specs.declared.answer.Received.{Received}
use Rattle.grasp_session.specs.declared.answer.Received.TheVariants.{Kept, Ignored, Bad}
use Rattle.grasp_types.specs.Objective.{has_synch}
use Rattle.grasp_types.specs.declared.address.Address.{Address}
use Rattle.grasp_types.specs.declared.address.Locator.{Locator}
use Rattle.grasp_types.specs.declared.links.Neighbour.{Neighbour}
use Rattle.grasp_types.specs.declared.message.Message.{Message}
use Rattle.grasp_types.specs.declared.message.Message.TheVariants.{End, Synch, Invalid}
use Rattle.grasp_types.specs.declared.objective.Objective.{Objective}
use Rattle.grasp_types.specs.declared.reply.Reply.{Reply}
use Rattle.grasp_types.specs.declared.reply.Reply.TheVariants as reply
use Rattle.grasp_types.specs.declared.session.Kind.{Kind}
use Rattle.grasp_wire.specs.Stream.{RestKind, waiting}

-- a relation of tables of sessions that holds of a table and itself, of two changes in turn, and of each change that a
-- message, a mark and time make
pub record Changes (R : Sessions → Sessions → Type 0) : Type 0 where
  pub self : (z : Sessions) → R z z
  pub and_then : (x y z : Sessions) → R x y → R y z → R x z
  pub marks_on : (z : Sessions) (stream : ℕ) (mark : Mark) → R z (after_mark z stream mark)
  pub expires : (z : Sessions) (now : ℕ) → R z (after_expire z now)
  pub keeps : (z : Sessions) (now stream : ℕ) (m : Message) → receive_reply z stream m ≡ Kept → R z (after_receive z now stream m Kept)

module _ (R : Sessions → Sessions → Type 0) (k : Changes R) where
  abbrev At : NodeState → NodeState → Type 0
  At n m = R n.sessions m.sessions

  same : (n : NodeState) → R n.sessions n.sessions
  same n = k.self n.sessions

  pub either : (n : NodeState) (b : Bool) (x y : NodeState) → At n x → At n y → At n (cond b x y)
  either n true x y g h = g
  either n false x y g h = h

  -- ---- moves

  pub answers : (n : NodeState) (stream : ℕ) (m : Message) → At n (answer n stream m)
  unfolding queue_up
  answers n stream m = either n (may_queue n m 1) (queue_up n (send stream m ∷ [])) n (same n) (same n)

  dials_with : (n : NodeState) (to : Locator) (m : Message) → At n (dial_with n to m)
  unfolding dial_record queue_up
  dials_with n to m =
      either n (may_queue n m 2 && not (is_dialled_out n.streams)) (dial_record (queue_up n (dial (next_stream n.streams) to ∷ send (next_stream n.streams) m ∷ [])) None) n (same n) (same n)

  pub ends : (n : NodeState) (stream : ℕ) (mark : Mark) → At n (drop_record (with_sessions n (after_mark n.sessions stream mark)) stream)
  unfolding drop_record with_sessions
  ends n stream mark = k.marks_on n.sessions stream mark

  -- ---- a later message

  refuses_by : (n : NodeState) (stream : ℕ) (state : Option (ℕ × Bool)) → At n (refused_by n stream state)
  unfolding with_sessions
  refuses_by n stream None = same n
  refuses_by n stream (Some state) =
      either n state.1 n (with_sessions (answer n stream (Invalid state.0 None)) (after_mark n.sessions stream Faulty)) (same n) (k.marks_on n.sessions stream Faulty)

  refuses : (n : NodeState) (stream : ℕ) → At n (after_refusal n stream)
  refuses n stream = refuses_by n stream (state_reply n.sessions stream)

  pub later_by : (n : NodeState) (stream : ℕ) (m : Message) (r : Received) → receive_reply n.sessions stream m ≡ r → At n (hear_later_by n stream m r).node
  unfolding with_sessions
  later_by n stream m Kept e = k.keeps n.sessions n.reading stream m e
  later_by n stream m Ignored e = same n
  later_by n stream m Bad e = refuses n stream

  -- ---- a first message that isn't a request for negotiation

  synchronizes_by : (n : NodeState) (stream session : ℕ) (o : Objective) (value : Option DataItem) → At n (synched n stream session o value).node
  synchronizes_by n stream session o None = answers n stream (End session (declined_for unlistened))
  synchronizes_by n stream session o (Some value) = answers n stream (Synch session (record o { value = Some value }))

  pub synchronizes : (n : NodeState) (stream session : ℕ) (o : Objective) → At n (hear_synchronization n stream session o).node
  synchronizes n stream session o = by_test (has_synch o.flags) where
    by_test : (b : Bool) → At n (cond b (synched n stream session o (value_offered n.registrations o.name)) (declines n stream session unlistened)).node
    by_test true = synchronizes_by n stream session o (value_offered n.registrations o.name)
    by_test false = answers n stream (End session (declined_for unlistened))

  dials_neighbour : (n : NodeState) (neighbour : Option Neighbour) (m : Message) → At n (dial_neighbour n neighbour m)
  dials_neighbour n None m = same n
  dials_neighbour n (Some neighbour) m = dials_with n neighbour.locator m

  sends_on : (n : NodeState) (m : Message) (asker : Option (Answered × Topic)) → At n (sent_on n m asker)
  sends_on n m (Some (Relay cause, topic)) = dials_neighbour n (neighbour_at n cause.link cause.from) m
  sends_on n m _ = same n

  pub responds_with : (n : NodeState) (ttl : ℕ) (locators : List Locator) (m : Message) (asker : Option (Answered × Topic)) → At n (responded n ttl locators m asker)
  unfolding with_discoveries
  responds_with n ttl locators m asker = sends_on (with_discoveries n (after_answered n.discoveries (end_of n.reading ttl) locators asker)) m asker

  -- ---- the rest of a piece

  fault_heard : (stream : ℕ) (x : Heard) → At x.node (hear_fault stream x).node
  fault_heard stream x = by_test x.is_open where
    by_test : (b : Bool) → At x.node (cond b (shuts (after_refusal x.node stream)) x).node
    by_test true = refuses x.node stream
    by_test false = same x.node

  pub rest_heard : (stream : ℕ) (kind : RestKind) (x : Heard) → At x.node (hear_rest stream kind x).node
  rest_heard stream waiting x = same x.node
  rest_heard stream _ x = fault_heard stream x

  -- ---- an opening and a closing

  pub opening_comes : (n : NodeState) (stream : ℕ) (from : Address) (r : Reply) → At n (after_opened n stream from r)
  unfolding open_record
  opening_comes n stream from reply.Taken = either n (is_ignored n stream) n (open_record n stream from) (same n) (same n)
  opening_comes n stream from _ = same n

  pub closing_comes : (n : NodeState) (stream : ℕ) → At n (after_closed n stream)
  unfolding after_closed
  closing_comes n stream = either n (has_record n.streams stream) (broken n stream) n (ends n stream Closed) (same n)

  -- ---- the beginning of a step

  expires_on : (n : NodeState) (o : Option ℕ) → At n (expire_on n o)
  unfolding with_sessions begin_closing
  expires_on n None = same n
  expires_on n (Some stream) = k.expires n.sessions n.reading

  expires_all : (count : ℕ) (n : NodeState) → At n (expired count n)
  unfolding expired
  expires_all zero n = same n
  expires_all (suc count) n =
      k.and_then n.sessions (expired count n).sessions (expire_next (expired count n)).sessions (expires_all count n)
      (expires_on (expired count n) (expire_reply (expired count n).sessions (expired count n).reading))

  pub begins : (n : NodeState) (now : ℕ) → At n (begin n now)
  unfolding begin with_reading with_discoveries with_floods
  begins n now = expires_all 64 (with_reading n now)

  -- ---- a search

  pub looks : (n : NodeState) (asa : ℕ) (name : List ℕ) (kind : Kind) (loops timeout : ℕ) (f : Find) → At n (looked n asa name kind loops timeout f)
  unfolding with_discoveries with_draw queue_up
  looks n asa name kind loops timeout find.Fresh = same n
  looks n asa name kind loops timeout _ = same n

pub closing_same : (n : NodeState) (stream : ℕ) → (begin_closing n stream).sessions ≡ n.sessions
unfolding begin_closing
closing_same n stream = refl
