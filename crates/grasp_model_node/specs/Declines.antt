-- The declines of the sessions that no agent has taken, once their objective isn't listened for any more.
use Rattle.std.specs.Prelude.{ℕ, zero, suc, Bool, ◌&&◌, List, [], ◌∷◌, Option, None, Some, codes, is_ok, if◌then◌else◌}
use Rattle.grasp_session.specs.Transcript.{SayEnd}
use Rattle.grasp_session.specs.Sessions.{Sessions, SessionState, session_at, check_reply, after_say, after_remove, untaken_above_reply}
use Rattle.grasp_session.specs.Transcript.{message_of}
use Rattle.grasp_session.specs.declared.answer.Act.TheVariants as act
use Rattle.grasp_types.specs.declared.message.Message.{Message}
use Rattle.grasp_types.specs.declared.message.Verdict.{Verdict}
use Rattle.grasp_types.specs.declared.message.Verdict.TheVariants.{Decline}
use Rattle.grasp_types.specs.declared.session.Handle.{Handle}
use Rattle.grasp_model_node.specs.Node.{NodeState}
use Rattle.grasp_model_node.specs.Moves.{with_sessions, begin_closing, queue_up}
use Rattle.grasp_model_node.specs.Queue.{send, has_room}

-- the reason for which a request is declined that nobody listens for
abbrev pub unlistened : List ℕ
unlistened = codes "unlistened"

-- the reason for which one is declined while as many sessions are live as may be
abbrev pub busy : List ℕ
busy = codes "busy"

abbrev pub declined_for : List ℕ → Verdict
declined_for reason = Decline (Some reason)

-- a session that is to be declined, its stream, and the message
pub record Declining : Type 0 where
  pub handle : Handle
  pub stream : ℕ
  pub message : Message

abbrev pub decline_of : Handle → SessionState → Declining
decline_of h x = record { handle = h; stream = x.stream; message = message_of x.view (SayEnd (declined_for unlistened)) }

abbrev pub decline_at : Handle → Option SessionState → List Declining → List Declining
decline_at h None rest = rest
decline_at h (Some x) rest = decline_of h x ∷ rest

abbrev pub next_decline : Sessions → (ℕ → List Declining) → Option Handle → List Declining
next_decline z rest None = []
next_decline z rest (Some h) = decline_at h (session_at z h) (rest h.number)

-- the declines of the untaken sessions of an objective whose numbers are above this one, in rising order, at most so many
unfoldable pub declines_above : Sessions → List ℕ → ℕ → ℕ → List Declining
declines_above z name zero above = []
declines_above z name (suc k) above = next_decline z (λ number. declines_above z name k number) (untaken_above_reply z name above)

-- the declines of all untaken sessions of an objective, in rising order of the sessions' numbers; a node has at most 64
abbrev pub declines_of : Sessions → List ℕ → List Declining
declines_of z name = declines_above z name 64 0

-- the decline can be said: there is room for it, and the session may end, as every untaken one may
abbrev pub may_decline : NodeState → Handle → Bool
may_decline n h = has_room n.queue 1 && is_ok (check_reply n.sessions 0 h act.End)

-- the session ends by its decline
abbrev pub declined : NodeState → Declining → NodeState
declined n d = queue_up (with_sessions n (after_say n.sessions n.reading d.handle (SayEnd (declined_for unlistened)))) (send d.stream d.message ∷ [])

-- the session leaves without a word
abbrev pub removed : NodeState → Handle → NodeState
removed n h = with_sessions n (after_remove n.sessions h)

-- a session is declined, or leaves where the decline can't be said, and its stream begins closing
abbrev pub after_decline : NodeState → Declining → NodeState
after_decline n d = begin_closing (if may_decline n d.handle then declined n d else removed n d.handle) d.stream

-- one after the other
unfoldable pub after_declines : NodeState → List Declining → NodeState
after_declines n [] = n
after_declines n (d ∷ ds) = after_declines (after_decline n d) ds
