-- What a message of a stream leaves.
use Rattle.std.proofs.Common.{◌≡◌, ℕ, Bool, true, false, cond, if◌then◌else◌, [], ◌∷◌, Option, Some, None, Result, Ok, Err, OnOk, refl, sym, ap, ◌∙◌, subst}
use Rattle.grasp_asa.specs.Answers.{value_offered}
use Rattle.grasp_asa.specs.Registrations.{Registrations}
use Rattle.grasp_types.specs.Objective.{has_synch}
use Rattle.grasp_types.specs.declared.objective.Objective.{Objective}
use Rattle.grasp_model_node.specs.Declines.{declined_for, unlistened}
use Rattle.grasp_discovery.specs.Discoveries.{Discoveries, asker_of, answered_reply, after_answered, end_of}
use Rattle.grasp_discovery.specs.declared.answers.Answered.{Answered}
use Rattle.grasp_discovery.specs.declared.answers.Answered.TheVariants.{Mine, Relay, Stranger}
use Rattle.grasp_discovery.specs.declared.topic.Topic.{Topic}
use Rattle.grasp_types.specs.Origin.{origin_of}
use Rattle.grasp_types.specs.declared.address.Address.{Address}
use Rattle.grasp_types.specs.declared.message.Answer.{Answer}
use Rattle.grasp_types.specs.declared.message.Message.{Message}
use Rattle.grasp_types.specs.declared.message.Message.TheVariants.{Invalid, End}
use Rattle.grasp_session.specs.declared.answer.Received.{Received}
use Rattle.grasp_session.specs.declared.answer.Received.TheVariants.{Kept}
use Rattle.grasp_session.specs.declared.table.Table.{Table}
use Rattle.grasp_session.specs.Sessions.{Sessions, state_reply, receive_reply, after_receive, after_mark}
use Rattle.grasp_session.specs.Stands as table
use Rattle.grasp_session.specs.Transcript.{Faulty}
use Rattle.grasp_core.specs.First.{with_response}
use Rattle.grasp_model_node.specs.Hear.{hear_request, hear_synchronization, is_listened, synched, declines, hear_later, hear_later_by, hear_response, answered_with, sent_on, neighbour_at, dial_neighbour, goes_on, after_refusal}
use Rattle.grasp_model_node.specs.Moves.{answer, may_queue, with_discoveries, with_sessions, queue_up}
use Rattle.grasp_model_node.specs.Node.{NodeState}
use Rattle.grasp_model_node.specs.Queue.{send}
use Rattle.grasp_core.specs.Stands.{NodeStands}
use Rattle.grasp_core.specs.declared.node_core.NodeCore.{NodeCore}

-- an answer changes no session
pub answer_sessions : (n : NodeState) (stream : ℕ) (m : Message) → (answer n stream m).sessions ≡ n.sessions
unfolding queue_up
answer_sessions n stream m = by_test (may_queue n m 1) where
  by_test : (b : Bool) → (cond b (queue_up n (send stream m ∷ [])) n).sessions ≡ n.sessions
  by_test true = refl
  by_test false = refl

-- a session without an outcome is refused
pub refused : (n : NodeState) (stream session : ℕ) → Some (session, false) ≡ state_reply n.sessions stream → with_sessions (answer n stream (Invalid session None)) (after_mark (answer n stream (Invalid session None)).sessions stream Faulty) ≡ after_refusal n stream
refused n stream session e = rw (sym e, answer_sessions n stream (Invalid session None)) refl

-- a message that a session keeps
pub kept : (core : NodeCore) (t : Table) (stream : ℕ) (m : Message) (stays : Bool)
    → ((z : Sessions) → table.Stands core.table z → (Kept ≡ receive_reply z stream m) × table.Stands t (after_receive z core.reading stream m Kept))
    → ((n : NodeState) → NodeStands (record core { table = t }) n → stays ≡ goes_on (state_reply n.sessions stream))
    → (n : NodeState) → NodeStands core n → (stays ≡ (hear_later n stream m).is_open) × NodeStands (record core { table = t }) (hear_later n stream m).node
unfolding with_sessions
kept core t stream m stays receives goes n h =
    let r = receives n.sessions h.sessions in
    let after : NodeStands (record core { table = t }) (hear_later_by n stream m Kept).node =
    record {
      plan = h.plan;
      ways = h.ways;
      limit = h.limit;
      reading = h.reading;
      registrations = h.registrations;
      sessions = subst (λ (now : ℕ). table.Stands t (after_receive n.sessions now stream m Kept)) h.reading r.1;
      discoveries = h.discoveries;
      floods = h.floods;
      streams = h.streams;
      queue = h.queue;
      draws = h.draws;
    } in
    subst (λ (x : Received). (stays ≡ (hear_later_by n stream m x).is_open) × NodeStands (record core { table = t }) (hear_later_by n stream m x).node) r.0 (goes (hear_later_by n stream m Kept).node after, after)

-- what becomes of a response, by who asked for it
abbrev sent_by : NodeState → NodeState → Message → Answered → NodeState
sent_by n after m Mine = after
sent_by n after m Stranger = after
sent_by n after m (Relay cause) = dial_neighbour after (neighbour_at n cause.link cause.from) m

sent_as : (n : NodeState) (d : Discoveries) (m : Message) (asker : Option (Answered × Topic)) → sent_on (with_discoveries n d) m asker ≡ sent_by n (with_discoveries n d) m (answered_reply asker)
unfolding with_discoveries
sent_as n d m None = refl
sent_as n d m (Some (Mine, topic)) = refl
sent_as n d m (Some (_, topic)) = refl

pub responds : (core : NodeCore) (n : NodeState) (session : ℕ) (initiator : Address) (ttl : ℕ) (told : Answer) (m : Message) (answered : Answered)
    → answered ≡ answered_reply (asker_of n.discoveries n.plan.address (origin_of session initiator))
    → NodeStands core (sent_by n (with_response n session initiator ttl told) m answered)
    → NodeStands core (hear_response n session initiator ttl told m).node
unfolding with_response
responds core n session initiator ttl told m answered e h =
    let asker = asker_of n.discoveries n.plan.address (origin_of session initiator) in
    let kept = after_answered n.discoveries (end_of n.reading ttl) (answered_with told) asker in
    subst (λ (x : NodeState). NodeStands core x) (sym (sent_as n kept m asker)) (subst (λ (a : Answered). NodeStands core (sent_by n (with_discoveries n kept) m a)) e h)

pub on_ok : {P Q : Type 0} {X E : Type 0} (r : Result X E) → (P → Q) → OnOk r P → OnOk r Q
on_ok (Ok x) f p = f p
on_ok (Err e) f p = p

-- a request for which nobody listens
pub unheard_request : (core : NodeCore) (n : NodeState) (stream session : ℕ) (o : Objective) (listened : Bool) (r : Registrations) → listened ≡ is_listened r o → r ≡ n.registrations → listened ≡ false
    → NodeStands core (answer n stream (End session (declined_for unlistened)))
    → (false ≡ (hear_request n stream session o).is_open) × NodeStands core (hear_request n stream session o).node
unheard_request core n stream session o listened r e g f a =
    let no : is_listened n.registrations o ≡ false = ap (λ x. is_listened x o) (sym g) ∙ (sym e ∙ f) in
    rw no (refl, a)

-- a request for synchronization without F_SYNCH
pub not_synch : (core : NodeCore) (n : NodeState) (stream session : ℕ) (o : Objective) (synch : Bool) → synch ≡ has_synch o.flags → synch ≡ false
    → NodeStands core (answer n stream (End session (declined_for unlistened)))
    → (false ≡ (hear_synchronization n stream session o).is_open) × NodeStands core (hear_synchronization n stream session o).node
not_synch core n stream session o synch e f a =
    let no : has_synch o.flags ≡ false = sym e ∙ f in
    rw no (refl, a)

-- a request for synchronization for which no value is offered
pub no_value : (core : NodeCore) (n : NodeState) (stream session : ℕ) (o : Objective) (r : Registrations) → None ≡ value_offered r o.name → r ≡ n.registrations
    → NodeStands core (answer n stream (End session (declined_for unlistened)))
    → (false ≡ (hear_synchronization n stream session o).is_open) × NodeStands core (hear_synchronization n stream session o).node
no_value core n stream session o r v g a = by_test (has_synch o.flags) where
  none : value_offered n.registrations o.name ≡ None
  none = ap (λ (x : Registrations). value_offered x o.name) (sym g) ∙ sym v

  by_test : (b : Bool) → (false ≡ (if b then synched n stream session o (value_offered n.registrations o.name) else declines n stream session unlistened).is_open) × NodeStands core (if b then synched n stream session o (value_offered n.registrations o.name) else declines n stream session unlistened).node
  by_test true = rw none (refl, a)
  by_test false = (refl, a)
