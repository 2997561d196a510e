-- What a table answers by what it keeps, it answers of its sessions.
use Rattle.std.specs.Prelude.{◌≡◌, ℕ, ◌↔◌, Some, IsSome}
use Rattle.grasp_types.specs.declared.objective.Objective.{Objective}
use Rattle.grasp_types.specs.declared.session.Handle.{Handle}
use Rattle.grasp_session.specs.declared.answer.Act.{Act}
use Rattle.grasp_session.specs.declared.table.Table.{Table}
use Rattle.grasp_session.specs.Transcript.{request_of}
use Rattle.grasp_session.specs.Sessions.{SessionState, Sessions, session_at, owner_of, check_reply, state_reply, last_reply}
use Rattle.grasp_session.specs.Stands.{Stands, check_answer, state_answer, IsLive, IsUntaken}

-- the table's answers are those of these sessions
pub record AnswersStand (t : Table) (z : Sessions) : Type 0 where
  pub state : (stream : ℕ) → state_answer t stream ≡ state_reply z stream
  pub check : (owner : ℕ) (h : Handle) (act : Act) → check_answer t owner h act ≡ check_reply z owner h act
  -- a handle is live exactly where there is a session with it
  pub live : (h : Handle) → IsLive t h ↔ IsSome (session_at z h)
  -- a handle is untaken exactly where no agent has taken the session with it
  pub untaken : (h : Handle) → IsUntaken t h ↔ (owner_of (session_at z h) ≡ Some 0)
  -- the last offer of a session has its request's name and flags, whatever the peer sends
  pub offers : (h : Handle) (o : Objective) (x : SessionState) → last_reply z h ≡ Some o → session_at z h ≡ Some x → (o.name ≡ (request_of x.view).name) × (o.flags ≡ (request_of x.view).flags)

-- a table answers so of the sessions that it keeps
abbrev pub TablesAnswerSo : Type 0
TablesAnswerSo = (t : Table) (z : Sessions) → Stands t z → AnswersStand t z
