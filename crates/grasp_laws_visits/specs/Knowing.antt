-- What a log says of a visitor: whether it came and left, what it wrote, and what its calls were answered (RFC 8991, section 2.3).
use Rattle.std.specs.List.{AllByRecursion}
use Rattle.std.specs.Prelude.{◌≡◌, ◌⊎◌, ℕ, ◌+◌, ◌<◌, ◌==◌, if◌then◌else◌, Bool, List, [], ◌∷◌, ◌++◌, Option, None, Some}
use Rattle.grasp_control.specs.Requests.{IsRequestLine}
use Rattle.grasp_control.specs.declared.request.Request.{Request}
use Rattle.grasp_control.specs.declared.request.Request.TheVariants as request
use Rattle.grasp_desk.specs.declared.desk.Visiting.{Visiting}
use Rattle.grasp_desk.specs.declared.desk.Visiting.TheVariants as desk
use Rattle.grasp_types.specs.declared.call.Call.{Call}
use Rattle.grasp_types.specs.declared.call.Call.TheVariants as call
use Rattle.grasp_types.specs.declared.reply.ApiAnswer.{ApiAnswer}
use Rattle.grasp_types.specs.declared.reply.ApiAnswer.TheVariants as answer
use Rattle.grasp_types.specs.declared.reply.Reply.{Reply}
use Rattle.grasp_types.specs.declared.reply.Reply.TheVariants as reply
use Rattle.grasp_types.specs.declared.session.Handle.{Handle}
use Rattle.grasp_types.specs.declared.session.Progress.{Progress}
use Rattle.grasp_types.specs.declared.session.Progress.TheVariants as progress
use Rattle.grasp_types.specs.declared.traffic.Input.{Input}
use Rattle.grasp_types.specs.declared.traffic.Input.TheVariants as input
use Rattle.grasp_laws_visits.specs.Logs.{Happening, Log, called, heard}

-- ---- what came of a visitor

-- this came of a visitor
abbrev pub Heard : Visiting → Log → Type 0
Heard v [] = ⊥
Heard v (heard x ∷ log) = (x ≡ v) ⊎ Heard v log
Heard v (called e ∷ log) = Heard v log

-- the visitor came
abbrev pub HasCome : ℕ → Log → Type 0
HasCome visitor log = (guest : Bool) × Heard (desk.Came visitor guest) log

-- the visitor left, having come before
abbrev pub LeavesBy : ℕ → Visiting → Log → Type 0
LeavesBy visitor (desk.Left who) log = (who ≡ visitor) × HasCome visitor log
LeavesBy visitor _ log = ⊥

abbrev pub HasLeft : ℕ → Log → Type 0
HasLeft visitor [] = ⊥
HasLeft visitor (heard v ∷ log) = LeavesBy visitor v log ⊎ HasLeft visitor log
HasLeft visitor (called e ∷ log) = HasLeft visitor log

-- the visitor wrote the line of this request
pub record Wrote (visitor : ℕ) (log : Log) (q : Request) : Type 0 where
  pub line : List ℕ
  pub came : Heard (desk.Line visitor line) log
  pub means : IsRequestLine line q

-- it wrote this call, to be made once or until it tells something
abbrev pub WroteCall : ℕ → Log → Call → Type 0
WroteCall visitor log c = Wrote visitor log (request.Call c) ⊎ ((millis : ℕ) × Wrote visitor log (request.Await millis c))

-- ---- the number of its agent

-- the number after an agent was deregistered
abbrev pub number_left : Input → ℕ → ℕ
number_left (input.Api asa call.DeregisterAsa) before = 0
number_left _ before = before

abbrev pub number_answered : Input → ApiAnswer → ℕ → ℕ
number_answered i (answer.Asa n) before = n
number_answered i answer.Done before = number_left i before
number_answered i _ before = before

abbrev pub number_replied : Input → Reply → ℕ → ℕ
number_replied i (reply.Api a) before = number_answered i a before
number_replied i _ before = before

-- the number of a caller's agent, once this happened
abbrev pub number_once : ℕ → Happening → ℕ → ℕ
number_once caller (heard v) before = before
number_once caller (called e) before = if e.caller == caller then number_replied e.input e.reply before else before

-- the number that a caller's calls were answered last, until the deregistration of its agent was done; 0 is none
abbrev pub agent_number : ℕ → Log → ℕ
agent_number caller [] = 0
agent_number caller (h ∷ log) = number_once caller h (agent_number caller log)

-- ---- its sessions

-- the session that a reply tells of: one that began, by its caller or by a peer
abbrev pub session_answered : ApiAnswer → Option Handle
session_answered (answer.Started h) = Some h
session_answered (answer.Incoming h from o) = Some h
session_answered _ = None

abbrev pub session_told : Reply → Option Handle
session_told (reply.Api a) = session_answered a
session_told _ = None

-- the caller was told of this session by this
abbrev pub TellsOf : ℕ → Handle → Happening → Type 0
TellsOf caller k (heard v) = ⊥
TellsOf caller k (called e) = (e.caller ≡ caller) × (session_told e.reply ≡ Some k)

-- the caller was told of this session
abbrev pub WasTold : ℕ → Log → Handle → Type 0
WasTold caller [] k = ⊥
WasTold caller (h ∷ log) k = TellsOf caller k h ⊎ WasTold caller log k

-- how many sessions the caller was told of
abbrev pub one_if_some : Option Handle → ℕ
one_if_some None = 0
one_if_some (Some h) = 1

abbrev pub told_by : ℕ → Happening → ℕ
told_by caller (heard v) = 0
told_by caller (called e) = if e.caller == caller then one_if_some (session_told e.reply) else 0

abbrev pub sessions_told : ℕ → Log → ℕ
sessions_told caller [] = 0
sessions_told caller (h ∷ log) = told_by caller h + sessions_told caller log

-- ---- the end of a session

-- it is the call that asks how the session of this number stands
abbrev pub Polls : ℕ → Input → Type 0
Polls number (input.Api asa (call.Poll h)) = h.number ≡ number
Polls number _ = ⊥

-- it is the call that deregisters an agent with all that it has
abbrev pub Deregisters : Input → Type 0
Deregisters (input.Api asa call.DeregisterAsa) = Unit {0}
Deregisters _ = ⊥

abbrev pub EndsPolled : ℕ → Input → Progress → Type 0
EndsPolled number i (progress.Ended o) = Polls number i
EndsPolled number i _ = ⊥

abbrev pub EndsAnswered : ℕ → Input → ApiAnswer → Type 0
EndsAnswered number i (answer.Polled p) = EndsPolled number i p
EndsAnswered number i answer.Done = Deregisters i
EndsAnswered number i _ = ⊥

abbrev pub EndsReplied : ℕ → Input → Reply → Type 0
EndsReplied number i (reply.Api a) = EndsAnswered number i a
EndsReplied number i _ = ⊥

-- the caller was told that its session of this number is over, or that its agent is gone
abbrev pub TellsEnd : ℕ → ℕ → Happening → Type 0
TellsEnd caller number (heard v) = ⊥
TellsEnd caller number (called e) = (e.caller ≡ caller) × EndsReplied number e.input e.reply

-- The caller was told of this session, and it has it still: it was told of 63 others at most since then, and not that it is over; and it was told of no other
-- of this number.
pub record StillHas (caller : ℕ) (log : Log) (k : Handle) : Type 0 where
  pub since : Log
  pub telling : Happening
  pub before : Log
  pub are : log ≡ since ++ telling ∷ before
  pub told : TellsOf caller k telling
  pub few : sessions_told caller since < 64
  pub lives : AllByRecursion (λ h. ¬ TellsEnd caller k.number h) since
  pub only : (x : Handle) → WasTold caller log x → x.number ≡ k.number → x ≡ k
