-- What the opening and the closing of a stream by a peer do.
use Rattle.std.specs.Prelude.{◌≡◌, ◌≤◌, ◌<◌, ◌%◌, ◌==◌, ◌⊎◌, ◌++◌, ℕ, true, false, not, [], ◌∷◌, length, filter, None, Some}
use Rattle.grasp_laws_hearing.specs.Later.{IsOn, IsMarked}
use Rattle.grasp_model_node.specs.Begin.{begin}
use Rattle.grasp_model_node.specs.BoundedNodes.{IsBoundedNode}
use Rattle.grasp_model_node.specs.Node.{NodeState}
use Rattle.grasp_model_node.specs.Step.{Coming, NodeStep}
use Rattle.grasp_model_node.specs.Streams.{StreamRecord, record_of}
use Rattle.grasp_session.specs.Sessions.{SessionState}
use Rattle.grasp_session.specs.Transcript.{Mark, Closed, is_going}
use Rattle.grasp_types.specs.declared.address.Address.{Address}
use Rattle.grasp_types.specs.declared.reply.Reply.{Reply}
use Rattle.grasp_types.specs.declared.reply.Reply.TheVariants as reply
use Rattle.grasp_types.specs.declared.traffic.Input.TheVariants as input
use Rattle.grasp_wire.specs.Cutter.{no_past}

-- ---- an opening

-- the number is even, or live: a record or a live session has it
abbrev pub IsIgnored : NodeState → ℕ → Type 0
IsIgnored n stream = (stream % 2 ≡ 0) ⊎ (((y : StreamRecord) × (record_of n.streams stream ≡ Some y)) ⊎ ((place : ℕ) × (x : SessionState) × IsOn n stream place x))

-- the stream has a record, the last one, with the address that was told, and nothing has come on it
abbrev pub having_opened : NodeState → ℕ → Address → NodeState
having_opened n stream from = record n {
  streams = record n.streams { records = n.streams.records ++ record { number = stream; from = Some from; past = Some no_past } ∷ [] };
}

-- one more stream may be opened: the number isn't ignored, and fewer than 64 have a record
pub record MayOpen (n : NodeState) (stream : ℕ) : Type 0 where
  pub new : ¬ IsIgnored n stream
  pub few : length n.streams.records < 64

-- an even or live number is ignored, another one is opened, and it is turned away where 64 have a record
abbrev pub OpeningDoes : NodeState → ℕ → Address → Reply → NodeState → Type 0
OpeningDoes n stream from reply.Taken after = (IsIgnored n stream × (after ≡ n)) ⊎ (MayOpen n stream × (after ≡ having_opened n stream from))
OpeningDoes n stream from reply.Turned after = (¬ IsIgnored n stream) × (64 ≤ length n.streams.records) × (after ≡ n)
OpeningDoes n stream from reply.OutOfMemory after = MayOpen n stream × (after ≡ n)
OpeningDoes n stream from _ after = ⊥

abbrev pub OpeningsAreTaken : Type 0
OpeningsAreTaken = (n after : NodeState) (now stream : ℕ) (from : Address) (x : Coming) (r : Reply) → NodeStep n now (input.Opened stream from) x r after
    → OpeningDoes (begin n now) stream from r after

-- ---- a closing

-- A session on the stream that goes on ends by this mark, and the stream has no record any more; nothing else has changed
pub record EndsOutside (n : NodeState) (stream : ℕ) (mark : Mark) (after : NodeState) : Type 0 where
  pub session : (place : ℕ) (x : SessionState) → IsOn n stream place x → is_going x.view ≡ true → IsMarked n place x mark after.sessions
  pub none : ((place : ℕ) (x : SessionState) → IsOn n stream place x → is_going x.view ≡ false) → after.sessions ≡ n.sessions
  pub records : after.streams.records ≡ filter (λ y. not (y.number == stream)) n.streams.records
  pub rest : after ≡ record n { sessions = after.sessions; streams = record n.streams { records = after.streams.records } }

-- a closing of a stream without a record changes nothing
pub record ClosingDoes (n : NodeState) (stream : ℕ) (r : Reply) (after : NodeState) : Type 0 where
  pub taken : r ≡ reply.Taken
  pub without : record_of n.streams stream ≡ None → after ≡ n
  pub closes : (y : StreamRecord) → record_of n.streams stream ≡ Some y → EndsOutside n stream Closed after

abbrev pub ClosingsAreTaken : Type 0
ClosingsAreTaken = (n after : NodeState) (now stream : ℕ) (x : Coming) (r : Reply) → IsBoundedNode n → NodeStep n now (input.Closed stream) x r after → ClosingDoes (begin n now) stream r after
