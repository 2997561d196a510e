-- What comes on a stream leaves the rest of a node as it is.
use Rattle.std.proofs.Common.{◌≡◌, ◌≢◌, ℕ, List, [], ◌∷◌, All, Option, None, Some, Ok, refl, ◌∙◌}
use Rattle.std.proofs.lemmas.List.Elements.{All-head, All-tail}
use Rattle.grasp_discovery.specs.Discoveries.{Discoveries, asker_of, after_answered, end_of}
use Rattle.grasp_discovery.specs.declared.answers.Answered.{Answered}
use Rattle.grasp_discovery.specs.declared.topic.Topic.{Topic}
use Rattle.grasp_session.specs.Sessions.{after_receive, after_mark, after_start}
use Rattle.grasp_session.specs.declared.answer.Received.TheVariants.{Kept}
use Rattle.grasp_types.specs.Origin.{origin_of}
use Rattle.grasp_types.specs.declared.address.Address.{Address}
use Rattle.grasp_types.specs.declared.address.Locator.{Locator}
use Rattle.grasp_types.specs.declared.message.Message.{Message}
use Rattle.grasp_types.specs.declared.reply.Reply.{Reply}
use Rattle.grasp_types.specs.declared.traffic.Input.TheVariants as input
use Rattle.grasp_wire.specs.Cutter.{no_past}
use Rattle.grasp_model_node.specs.Begin.{begin}
use Rattle.grasp_model_node.specs.Hear.{untaken, answered_with}
use Rattle.grasp_model_node.specs.Node.{NodeState}
use Rattle.grasp_model_node.specs.Queue.{send}
use Rattle.grasp_model_node.specs.Step.{Coming, IsComing, TakesBytes}
use Rattle.grasp_model_node.specs.Streams.{StreamRecord, record_of}
use Rattle.grasp_laws_node.specs.Alone.{OthersStay, IsNoResponse, LeavesTheRest, PeersLeaveTheRest}
use Rattle.grasp_laws_node.specs.Relays.{AddsNoDatagram}
use Rattle.grasp_laws_node.proofs.CallsSend.{adds_nothing, adds_more, one_send, one_dial}
use Rattle.grasp_laws_node.proofs.OtherRecords.{others_with_past, others_without, next_record, kept_with_more}
use Rattle.grasp_laws_node.proofs.OthersAlone.{others_self, others_then, mark_others, keep_others, start_others}
use Rattle.grasp_laws_node.proofs.Walk.Bytes.{Each}
use Rattle.grasp_laws_node.proofs.Walk.Moves.{Known, Move, Moves, on_stream, opening, next_dial, still, kept, unfolded, answers, responds, marks, keeps, listens, caches, closes, goes_on, leaves, opens}
use Rattle.grasp_laws_node.proofs.Walk.Steps.{acts_moves}

-- no response is among these messages, if the message is none
abbrev quiet : List Message → Known
quiet ms = record { message = λ m. All IsNoResponse ms → IsNoResponse m; stream = λ s. Unit {0}; past = λ s p. Unit {0}; saying = λ s. Unit {0} }

each_quiet : (all ms : List Message) → (All IsNoResponse all → All IsNoResponse ms) → Each (λ m. All IsNoResponse all → IsNoResponse m) ms
each_quiet all [] f = tt
each_quiet all (m ∷ ms) f = (λ q. All-head IsNoResponse m ms (f q), each_quiet all ms (λ q. All-tail IsNoResponse m ms (f q)))

same_searches : (all : Discoveries) (last : ℕ) (locators : List Locator) (asker : Option (Answered × Topic)) → (after_answered all last locators asker).searches ≡ all.searches
same_searches all last locators None = refl
same_searches all last locators (Some asker) = refl

same_memories : (all : Discoveries) (last : ℕ) (locators : List Locator) (asker : Option (Answered × Topic)) → (after_answered all last locators asker).memories ≡ all.memories
same_memories all last locators None = refl
same_memories all last locators (Some asker) = refl

-- ---- moves on a stream, of a step that began at this node

-- the parts of which nothing changes
record Left (n after : NodeState) : Type 0 where
  pub plan : after.plan ≡ n.plan
  pub reading : after.reading ≡ n.reading
  pub registrations : after.registrations ≡ n.registrations
  pub searches : after.discoveries.searches ≡ n.discoveries.searches
  pub memories : after.discoveries.memories ≡ n.discoveries.memories
  pub floods : after.floods ≡ n.floods
  pub drawn : after.drawn ≡ n.drawn

-- the record of another stream, where it has one, is as it was
abbrev RecordsStay : ℕ → NodeState → NodeState → Type 0
RecordsStay stream n after = (other : ℕ) (y : StreamRecord) → other ≢ stream → record_of n.streams other ≡ Some y → record_of after.streams other ≡ Some y

module _ (ms : List Message) (stream : ℕ) (base : NodeState) where
  abbrev Makes : NodeState → NodeState → Type 0
  Makes n after = Move (quiet ms) base n (on_stream stream) after

  parts : (n after : NodeState) → Makes n after → Left base n → Left base after
  unfolding unfolded
  parts n after (caches session initiator ttl told o so) l = record {
    plan = l.plan;
    reading = l.reading;
    registrations = l.registrations;
    searches = same_searches n.discoveries (end_of n.reading ttl) (answered_with told) (asker_of n.discoveries n.plan.address (origin_of session initiator)) ∙ l.searches;
    memories = same_memories n.discoveries (end_of n.reading ttl) (answered_with told) (asker_of n.discoveries n.plan.address (origin_of session initiator)) ∙ l.memories;
    floods = l.floods;
    drawn = l.drawn;
  }
  parts n after _ l = record { plan = l.plan; reading = l.reading; registrations = l.registrations; searches = l.searches; memories = l.memories; floods = l.floods; drawn = l.drawn }

  sessions : (n after : NodeState) → Makes n after → OthersStay stream base.sessions n.sessions → OthersStay stream base.sessions after.sessions
  unfolding unfolded
  sessions n after (marks mark) l = others_then stream base.sessions n.sessions (after_mark n.sessions stream mark) l (mark_others stream n.sessions mark)
  sessions n after (keeps m e) l = others_then stream base.sessions n.sessions (after_receive n.sessions n.reading stream m Kept) l (keep_others stream n.sessions n.reading m)
  sessions n after (listens session o h so e free heard) l =
      others_then stream base.sessions n.sessions (after_start n.sessions n.reading (untaken stream session o) (Ok h)) l (start_others stream n.sessions n.reading (untaken stream session o) h refl e)
  sessions n after _ l = l

  -- only a response changes the cache
  entries : (n after : NodeState) → Makes n after → (All IsNoResponse ms → n.discoveries.entries ≡ base.discoveries.entries) → All IsNoResponse ms → after.discoveries.entries ≡ base.discoveries.entries
  unfolding unfolded
  entries n after (caches session initiator ttl told o so) l q = absurd (so q)
  entries n after _ l q = l q

  records : (n after : NodeState) → Makes n after → RecordsStay stream base n → RecordsStay stream base after
  unfolding unfolded
  records n after (responds to m i so e) l other y d f = kept_with_more other n.streams.records (next_record n.streams None ∷ []) y (l other y d f)
  records n after closes l other y d f = others_with_past stream other n.streams None d ∙ l other y d f
  records n after (goes_on past so) l other y d f = others_with_past stream other n.streams (Some past) d ∙ l other y d f
  records n after leaves l other y d f = others_without stream other n.streams d ∙ l other y d f
  records n after _ l other y d f = l other y d f

  queue : (n after : NodeState) → Makes n after → AddsNoDatagram base n → AddsNoDatagram base after
  unfolding unfolded
  queue n after (answers m i so e) l = adds_more base n _ (send stream m ∷ []) refl (one_send stream m) l
  queue n after (responds to m i so e) l = adds_more base n _ (next_dial n to m) refl (one_dial n to m) l
  queue n after _ l = record { more = l.more; queued = l.queued; none = l.none }

-- ---- a step

no_datagrams : (ms : List Message) (stream : ℕ) (n after : NodeState) → Moves (quiet ms) n (on_stream stream) n after → AddsNoDatagram n after
no_datagrams ms stream n after w = kept (AddsNoDatagram n) (queue ms stream n) w (adds_nothing n)

the_rest : (stream : ℕ) (x : Coming) (n after : NodeState) → Moves (quiet x.added.messages) n (on_stream stream) n after → LeavesTheRest stream x n after
the_rest stream x n after w =
    let ms = x.added.messages in
    let l : Left n after = kept (Left n) (parts ms stream n) w (record { plan = refl; reading = refl; registrations = refl; searches = refl; memories = refl; floods = refl; drawn = refl }) in
    let q = no_datagrams ms stream n after w in record {
      plan = l.plan;
      reading = l.reading;
      registrations = l.registrations;
      sessions = kept (λ m. OthersStay stream n.sessions m.sessions) (sessions ms stream n) w (others_self stream n.sessions);
      searches = l.searches;
      memories = l.memories;
      entries = kept (λ m. All IsNoResponse ms → m.discoveries.entries ≡ n.discoveries.entries) (entries ms stream n) w (λ none. refl);
      floods = l.floods;
      drawn = l.drawn;
      others = kept (RecordsStay stream n) (records ms stream n) w (λ other y d e. e);
      queue = record { more = q.more; queue = q.queued };
    }

opens_rest : (stream : ℕ) (from : Address) (x : Coming) (k : Known) (base n after : NodeState) → Move k base n (opening stream from) after → LeavesTheRest stream x base n → LeavesTheRest stream x base after
unfolding unfolded
opens_rest stream from x k base n after (opens so new room) l = record {
  plan = l.plan;
  reading = l.reading;
  registrations = l.registrations;
  sessions = l.sessions;
  searches = l.searches;
  memories = l.memories;
  entries = l.entries;
  floods = l.floods;
  drawn = l.drawn;
  others = λ other y d e. kept_with_more other n.streams.records (record { number = stream; from = Some from; past = Some no_past } ∷ []) y (l.others other y d e);
  queue = record { more = l.queue.more; queue = l.queue.queue };
}

unmoved : (stream : ℕ) (x : Coming) (n : NodeState) → LeavesTheRest stream x n n
unmoved stream x n = the_rest stream x n n still

bytes_moves : (stream : ℕ) (n after : NodeState) (bytes : List ℕ) (x : Coming) (r : Reply) → IsComing n (input.Bytes stream bytes) x → TakesBytes n stream bytes x r after
    → Moves (quiet x.added.messages) n (on_stream stream) n after
bytes_moves stream n after bytes x r c t =
    acts_moves (quiet x.added.messages) n after (input.Bytes stream bytes) x r c
    (λ past e adds. record { stream_so = tt; messages = each_quiet x.added.messages x.added.messages (λ q. q); past_so = λ waits. tt }) t

pub bytes_queue : (stream : ℕ) (n after : NodeState) (bytes : List ℕ) (x : Coming) (r : Reply) → IsComing n (input.Bytes stream bytes) x → TakesBytes n stream bytes x r after → AddsNoDatagram n after
bytes_queue stream n after bytes x r c t = no_datagrams x.added.messages stream n after (bytes_moves stream n after bytes x r c t)

pub peers_leave : PeersLeaveTheRest
peers_leave n after now stream x r = (
  λ from step. kept (LeavesTheRest stream x (begin n now)) (opens_rest stream from x (quiet x.added.messages) (begin n now))
      (acts_moves (quiet x.added.messages) (begin n now) after (input.Opened stream from) x r step.is_coming (λ taken. tt) step.acts) (unmoved stream x (begin n now)),
  λ bytes step. the_rest stream x (begin n now) after (bytes_moves stream (begin n now) after bytes x r step.is_coming step.acts),
  λ step. the_rest stream x (begin n now) after (acts_moves (quiet x.added.messages) (begin n now) after (input.Closed stream) x r step.is_coming tt step.acts),
)
