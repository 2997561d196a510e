-- What happens on one stream of a node, as a list of moves: what is heard there, what is said, and the transcript of its session (RFC 8990, section 2.5).
use Rattle.std.specs.Prelude.{◌≡◌, ◌≤◌, ℕ, Bool, true, false, ◌==◌, ◌||◌, List, [], ◌∷◌, ◌++◌, length, Option, None, Some, option_map, if◌then◌else◌}
use Rattle.grasp_types.specs.declared.objective.Objective.{Objective}
use Rattle.grasp_types.specs.declared.session.Kind.{Kind}
use Rattle.grasp_types.specs.declared.session.Kind.TheVariants.{Negotiation}
use Rattle.grasp_types.specs.declared.message.Message.{Message}
use Rattle.grasp_types.specs.declared.message.Message.TheVariants.{Noop, Discovery, Response, ReqNeg, ReqSyn, Negotiate, End, Wait, Synch, Flood, Invalid}
use Rattle.grasp_types.specs.declared.message.Verdict.TheVariants.{Decline}
use Rattle.grasp_session.specs.Made.{on_stream_made}
use Rattle.grasp_session.specs.Messages.{Near, Far}
use Rattle.grasp_session.specs.Sessions.{Sessions}
use Rattle.grasp_session.specs.Talk.{Cause, mark_of}
use Rattle.grasp_session.specs.Transcript.{Transcript, Faulty, opening, request_message, session_of, is_going, Saying, act_of, refusal, message_of, having_said, receive, after_heard, marked}
use Rattle.grasp_session.specs.declared.answer.Received.TheVariants.{Bad}
use Rattle.grasp_model_node.specs.Node.{NodeState}
use Rattle.grasp_model_node.specs.Queue.{Queued, datagram, dial, send}

-- the transcript of the session on a stream: of the live one, or else of the newest that is no longer live
abbrev pub view_in : Sessions → ℕ → Option Transcript
view_in z stream = option_map (λ x. x.view) (on_stream_made z stream)

abbrev pub view_on : NodeState → ℕ → Option Transcript
view_on n stream = view_in n.sessions stream

-- one thing that happens on a stream
pub data StreamMove : Type 0 where
  -- the node dials it, and a session begins with this end's request
  Asks : (now timeout session : ℕ) (kind : Kind) (objective : Objective) → StreamMove
  -- a request for negotiation is heard, and a listener's session begins
  Listens : (now timeout session : ℕ) (objective : Objective) → StreamMove
  -- a request for negotiation is heard and declined without a session, and the stream begins closing
  Refuses : (session : ℕ) (objective : Objective) (reason : Option (List ℕ)) → StreamMove
  -- the session says this
  Says : (now : ℕ) (saying : Saying) → StreamMove
  -- the session hears this message; of a bad one the peer may be told
  Hears : (now : ℕ) (message : Message) (told : Bool) → StreamMove
  -- a noop is heard before a session begins
  Skips : StreamMove
  -- what came is no message, which the session hears as a bad one; the peer may be told, and the stream begins closing
  Faults : (told : Bool) → StreamMove
  -- the session is ended from outside
  Marks : (cause : Cause) → StreamMove
  -- another first message is heard without a session, or a request that can't even be declined; this is said, and the stream begins closing
  Passes : (message : Message) (said : List Message) → StreamMove
  -- the node dials it for this response alone, and it is closing from the start
  Responds : (message : Message) → StreamMove

-- ---- what a move does

-- the transcript after a move
abbrev pub after_move : Option Transcript → StreamMove → Option Transcript
after_move v (Asks now timeout session kind o) = Some (opening kind Near timeout now session o)
after_move v (Listens now timeout session o) = Some (opening Negotiation Far timeout now session o)
after_move v (Refuses session o reason) = v
after_move v (Says now saying) = option_map (λ t. having_said t now saying) v
after_move v (Hears now m told) = option_map (λ t. after_heard t now m (receive t m)) v
after_move v Skips = v
after_move v (Faults told) = option_map (λ t. marked t Faulty) v
after_move v (Marks cause) = option_map (λ t. marked t (mark_of cause)) v
after_move v (Passes m said) = v
after_move v (Responds m) = v

abbrev pub after_moves : Option Transcript → List StreamMove → Option Transcript
after_moves v [] = v
after_moves v (m ∷ ms) = after_moves (after_move v m) ms

-- the answer to what is bad
abbrev pub invalid_told : Bool → Transcript → List Message
invalid_told told t = if told then Invalid (session_of t) None ∷ [] else []

abbrev pub said_with : (Transcript → List Message) → Option Transcript → List Message
said_with f None = []
said_with f (Some t) = f t

-- what a move says
abbrev pub said_by : Option Transcript → StreamMove → List Message
said_by v (Asks now timeout session kind o) = request_message kind session o ∷ []
said_by v (Listens now timeout session o) = []
said_by v (Refuses session o reason) = End session (Decline reason) ∷ []
said_by v (Says now saying) = said_with (λ t. message_of t saying ∷ []) v
said_by v (Hears now m told) = said_with (invalid_told told) v
said_by v Skips = []
said_by v (Faults told) = said_with (invalid_told told) v
said_by v (Marks cause) = []
said_by v (Passes m said) = said
said_by v (Responds m) = m ∷ []

-- what moves say, oldest first
abbrev pub said_in : Option Transcript → List StreamMove → List Message
said_in v [] = []
said_in v (m ∷ ms) = said_by v m ++ said_in (after_move v m) ms

-- what a move hears
abbrev pub heard_by : StreamMove → List Message
heard_by (Asks now timeout session kind o) = []
heard_by (Listens now timeout session o) = ReqNeg session o ∷ []
heard_by (Refuses session o reason) = ReqNeg session o ∷ []
heard_by (Says now saying) = []
heard_by (Hears now m told) = m ∷ []
heard_by Skips = Noop ∷ []
heard_by (Faults told) = []
heard_by (Marks cause) = []
heard_by (Passes m said) = m ∷ []
heard_by (Responds m) = []

-- what moves hear, oldest first
abbrev pub heard_in : List StreamMove → List Message
heard_in [] = []
heard_in (m ∷ ms) = heard_by m ++ heard_in ms

-- the stream is dialled
abbrev pub is_dial : StreamMove → Bool
is_dial (Asks now timeout session kind o) = true
is_dial (Listens now timeout session o) = false
is_dial (Refuses session o reason) = false
is_dial (Says now saying) = false
is_dial (Hears now m told) = false
is_dial Skips = false
is_dial (Faults told) = false
is_dial (Marks cause) = false
is_dial (Passes m said) = false
is_dial (Responds m) = true

-- what came is no message
abbrev pub is_fault : StreamMove → Bool
is_fault (Asks now timeout session kind o) = false
is_fault (Listens now timeout session o) = false
is_fault (Refuses session o reason) = false
is_fault (Says now saying) = false
is_fault (Hears now m told) = false
is_fault Skips = false
is_fault (Faults told) = true
is_fault (Marks cause) = false
is_fault (Passes m said) = false
is_fault (Responds m) = false

-- nothing more happens on the stream in this step
abbrev pub is_last_move : StreamMove → Bool
is_last_move (Asks now timeout session kind o) = false
is_last_move (Listens now timeout session o) = false
is_last_move (Refuses session o reason) = true
is_last_move (Says now saying) = false
is_last_move (Hears now m told) = false
is_last_move Skips = false
is_last_move (Faults told) = true
is_last_move (Marks cause) = false
is_last_move (Passes m said) = true
is_last_move (Responds m) = true

-- some move is such a one
abbrev pub some_move : (StreamMove → Bool) → List StreamMove → Bool
some_move test [] = false
some_move test (m ∷ ms) = test m || some_move test ms

-- ---- which moves may be made

-- a request for negotiation is passed only in silence
abbrev pub MayPass : Message → List Message → Type 0
MayPass (ReqNeg session o) said = said ≡ []
MayPass Noop said = ⊥
MayPass (Discovery session initiator o) said = length said ≤ 1
MayPass (Response session initiator ttl told o) said = said ≡ []
MayPass (ReqSyn session o) said = length said ≤ 1
MayPass (Negotiate session o) said = length said ≤ 1
MayPass (End session verdict) said = length said ≤ 1
MayPass (Wait session millis) said = length said ≤ 1
MayPass (Synch session o) said = length said ≤ 1
MayPass (Flood session initiator ttl parts) said = length said ≤ 1
MayPass (Invalid session detail) said = said ≡ []

abbrev pub IsResponse : Message → Type 0
IsResponse (Response session initiator ttl told o) = Unit {0}
IsResponse Noop = ⊥
IsResponse (Discovery session initiator o) = ⊥
IsResponse (ReqNeg session o) = ⊥
IsResponse (ReqSyn session o) = ⊥
IsResponse (Negotiate session o) = ⊥
IsResponse (End session verdict) = ⊥
IsResponse (Wait session millis) = ⊥
IsResponse (Synch session o) = ⊥
IsResponse (Flood session initiator ttl parts) = ⊥
IsResponse (Invalid session detail) = ⊥

-- where the stream has had no session
abbrev pub MayBegin : StreamMove → Type 0
MayBegin (Asks now timeout session kind o) = Unit {0}
MayBegin (Listens now timeout session o) = Unit {0}
MayBegin (Refuses session o reason) = Unit {0}
MayBegin (Says now saying) = ⊥
MayBegin (Hears now m told) = ⊥
MayBegin Skips = Unit {0}
MayBegin (Faults told) = ⊥
MayBegin (Marks cause) = ⊥
MayBegin (Passes m said) = MayPass m said
MayBegin (Responds m) = IsResponse m

-- where it has one
abbrev pub MayGoOn : Transcript → StreamMove → Type 0
MayGoOn v (Asks now timeout session kind o) = ⊥
MayGoOn v (Listens now timeout session o) = ⊥
MayGoOn v (Refuses session o reason) = ⊥
MayGoOn v (Says now saying) = refusal v (act_of saying) ≡ None
MayGoOn v (Hears now m told) = told ≡ true → receive v m ≡ Bad
MayGoOn v Skips = ⊥
MayGoOn v (Faults told) = told ≡ true → is_going v ≡ true
MayGoOn v (Marks cause) = Unit {0}
MayGoOn v (Passes m said) = ⊥
MayGoOn v (Responds m) = ⊥

abbrev pub MayMove : Option Transcript → StreamMove → Type 0
MayMove None m = MayBegin m
MayMove (Some v) m = MayGoOn v m

-- each move may be made after those before it, and behind a last one there is none
abbrev pub MayMoves : Option Transcript → List StreamMove → Type 0
MayMoves v [] = Unit {0}
MayMoves v (m ∷ ms) = MayMove v m × (is_last_move m ≡ true → ms ≡ []) × MayMoves (after_move v m) ms

-- ---- what is queued

-- what is queued for a stream, oldest first
abbrev pub sends_on : ℕ → List Queued → List Message
sends_on stream [] = []
sends_on stream (datagram link to m ∷ qs) = sends_on stream qs
sends_on stream (dial s to ∷ qs) = sends_on stream qs
sends_on stream (send s m ∷ qs) = if s == stream then m ∷ sends_on stream qs else sends_on stream qs
