-- What a message does that comes on a stream whose session is live (RFC 8990, section 2.5).
use Rattle.std.specs.Prelude.{◌≡◌, ℕ, false, ◌∷◌, None, Some, slice_set}
use Rattle.grasp_laws_hearing.specs.Answering.{IsAnswered}
use Rattle.grasp_laws_receiving.specs.Receiving.{Receives}
use Rattle.grasp_model_node.specs.Hear.{Heard}
use Rattle.grasp_model_node.specs.Node.{NodeState}
use Rattle.grasp_session.specs.Says.{IsAt}
use Rattle.grasp_session.specs.Sessions.{SessionState, Sessions}
use Rattle.grasp_session.specs.Transcript.{Mark, Faulty, is_going, session_of}
use Rattle.grasp_session.specs.declared.answer.Received.TheVariants.{Kept, Ignored, Bad}
use Rattle.grasp_types.specs.declared.message.Message.{Message}
use Rattle.grasp_types.specs.declared.message.Message.TheVariants.{Invalid}

-- the session is live at this place, on this stream
pub record IsOn (n : NodeState) (stream place : ℕ) (x : SessionState) : Type 0 where
  pub at : IsAt n.sessions place x
  pub on : x.stream ≡ stream

-- The session at this place is this one now. One that no agent has taken and that has an outcome is no longer live
pub record IsNow (z : Sessions) (place : ℕ) (x : SessionState) (after : Sessions) : Type 0 where
  pub stays : ¬ ((x.owner ≡ 0) × (is_going x.view ≡ false)) → after ≡ record { made = z.made; places = slice_set z.places place (Some x); gone = z.gone }
  pub leaves : x.owner ≡ 0 → is_going x.view ≡ false → after ≡ record { made = z.made; places = slice_set z.places place None; gone = x ∷ z.gone }

-- the session as it has kept the message: that is its newest entry, with this reading, and nothing else has changed
abbrev pub as_kept : SessionState → ℕ → Message → SessionState
as_kept x now m = record x { view = record x.view { entries = record { sent = false; message = m; at = now } ∷ x.view.entries } }

-- the session keeps the message, at the clock reading; the stream stays open until the session has its outcome, and nothing else has changed
pub record Keeps (n : NodeState) (place : ℕ) (x : SessionState) (m : Message) (heard : Heard) : Type 0 where
  pub sessions : IsNow n.sessions place (as_kept x n.reading m) heard.node.sessions
  pub rest : heard.node ≡ record n { sessions = heard.node.sessions }
  pub stays_open : heard.is_open ≡ is_going (as_kept x n.reading m).view

-- the session as it has ended by this mark: it has the mark, and nothing else has changed
abbrev pub as_marked : SessionState → Mark → SessionState
as_marked x mark = record x { view = record x.view { mark = Some mark } }

-- the session ends by this mark, and nothing else is changed among the sessions
abbrev pub IsMarked : NodeState → ℕ → SessionState → Mark → Sessions → Type 0
IsMarked n place x mark after = IsNow n.sessions place (as_marked x mark) after

-- the session ends as one to which something bad came, and tells the peer so by an M_INVALID of its own number; the stream begins closing
pub record EndsBadly (n : NodeState) (stream place : ℕ) (x : SessionState) (heard : Heard) : Type 0 where
  pub sessions : IsMarked n place x Faulty heard.node.sessions
  pub told : IsAnswered n stream (Invalid (session_of x.view) None) heard.node.queue
  pub rest : heard.node ≡ record n { sessions = heard.node.sessions; queue = heard.node.queue }
  pub shut : heard.is_open ≡ false

-- what a message does by what the session makes of it
pub record HearsLater (n : NodeState) (stream place : ℕ) (x : SessionState) (m : Message) (heard : Heard) : Type 0 where
  pub kept : Receives x.view m Kept → Keeps n place x m heard
  -- what is ignored changes nothing; the stream of a session that is over is closing
  pub ignored : Receives x.view m Ignored → heard ≡ record { node = n; is_open = is_going x.view }
  pub bad : Receives x.view m Bad → EndsBadly n stream place x heard
