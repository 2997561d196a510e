-- What an agent's acts and requests leave: what is sent is written down in its session at the clock reading, and queued behind all else.
use Rattle.std.specs.Prelude.{◌≡◌, ◌+◌, ◌*◌, ◌++◌, ℕ, true, [], ◌∷◌, Option, None, Some, slice_set}
use Rattle.grasp_cbor.specs.DataItem.{DataItem}
use Rattle.grasp_laws_node.specs.Means.{having_sent, having_ended, step_sent}
use Rattle.grasp_laws_node.specs.MeansRequests.{having_asked}
use Rattle.grasp_model_node.specs.Draws.{next_session}
use Rattle.grasp_model_node.specs.Node.{NodeState}
use Rattle.grasp_model_node.specs.Queue.{dial, send}
use Rattle.grasp_model_node.specs.Streams.{closing}
use Rattle.grasp_session.specs.Messages.{Near}
use Rattle.grasp_session.specs.Sessions.{SessionState}
use Rattle.grasp_session.specs.Transcript.{SayStep, SayWait, SayEnd, SayInvalid, session_of}
use Rattle.grasp_types.specs.declared.address.Locator.{Locator}
use Rattle.grasp_types.specs.declared.message.Message.{Message}
use Rattle.grasp_types.specs.declared.message.Message.TheVariants.{ReqNeg, ReqSyn, Wait, End, Invalid}
use Rattle.grasp_types.specs.declared.message.Verdict.{Verdict}
use Rattle.grasp_types.specs.declared.objective.Objective.{Objective}
use Rattle.grasp_types.specs.declared.session.Handle.{Handle}
use Rattle.grasp_types.specs.declared.session.Kind.{Kind}
use Rattle.grasp_types.specs.declared.session.Kind.TheVariants.{Negotiation, Synchronization}
use Rattle.grasp_wire.specs.Cutter.{no_past}

-- the session at the handle's place has sent this message: it is its newest entry, with the clock reading, and goes out on its stream. Nothing else
-- has changed
abbrev pub as_said : NodeState → Handle → SessionState → Message → NodeState
as_said n h x m = record n {
  sessions = record {
    made = n.sessions.made;
    places = slice_set n.sessions.places h.place
        (Some (record x { view = record x.view { entries = record { sent = true; message = m; at = n.reading } ∷ x.view.entries } }));
    gone = n.sessions.gone;
  };
  queue = n.queue ++ send x.stream m ∷ [];
}

-- an agent's session has begun at the handle's place with this request alone, which it sent at the clock reading; its stream is dialled, and the request
-- goes out behind the dial. One more word is drawn, and nothing else has changed
abbrev pub as_asked : NodeState → ℕ → Kind → ℕ → Locator → Handle → Message → NodeState
as_asked n asa kind timeout peer h m = record n {
  sessions = record {
    made = n.sessions.made + 1;
    places = slice_set n.sessions.places h.place
        (Some (record {
          number = n.sessions.made + 1;
          owner = asa;
          stream = 2 * n.streams.dialled;
          view = record { role = Near; kind = kind; timeout = timeout; entries = record { sent = true; message = m; at = n.reading } ∷ []; mark = None };
        }));
    gone = n.sessions.gone;
  };
  streams = record {
    records = n.streams.records ++ record { number = 2 * n.streams.dialled; from = None; past = Some no_past } ∷ [];
    dialled = n.streams.dialled + 1;
  };
  queue = n.queue ++ dial (2 * n.streams.dialled) peer ∷ send (2 * n.streams.dialled) m ∷ [];
  drawn = n.drawn + 1;
}

-- each act of a session, as the laws of what an answer means say it: what is written down is what is sent
pub record ActsAreRecorded : Type 0 where
  pub step : (n : NodeState) (h : Handle) (x : SessionState) (value : DataItem)
      → having_sent n h x (SayStep value) (step_sent x value) ≡ as_said n h x (step_sent x value)
  pub wait : (n : NodeState) (h : Handle) (x : SessionState) (millis : ℕ)
      → having_sent n h x (SayWait millis) (Wait (session_of x.view) millis) ≡ as_said n h x (Wait (session_of x.view) millis)
  pub end : (n : NodeState) (h : Handle) (x : SessionState) (verdict : Verdict)
      → having_ended n h x (SayEnd verdict) (End (session_of x.view) verdict)
      ≡ record (as_said n h x (End (session_of x.view) verdict)) { streams = closing n.streams x.stream }
  pub invalid : (n : NodeState) (h : Handle) (x : SessionState) (detail : Option DataItem)
      → having_ended n h x (SayInvalid detail) (Invalid (session_of x.view) detail)
      ≡ record (as_said n h x (Invalid (session_of x.view) detail)) { streams = closing n.streams x.stream }

-- each request, likewise
pub record RequestsAreRecorded : Type 0 where
  pub negotiation : (n : NodeState) (asa timeout : ℕ) (o : Objective) (peer : Locator) (h : Handle)
      → having_asked n asa Negotiation timeout o peer h (ReqNeg (next_session n) o) ≡ as_asked n asa Negotiation timeout peer h (ReqNeg (next_session n) o)
  pub synchronization : (n : NodeState) (asa timeout : ℕ) (o : Objective) (peer : Locator) (h : Handle)
      → having_asked n asa Synchronization timeout o peer h (ReqSyn (next_session n) o)
      ≡ as_asked n asa Synchronization timeout peer h (ReqSyn (next_session n) o)

abbrev pub WhatIsSentIsRecorded : Type 0
WhatIsSentIsRecorded = ActsAreRecorded × RequestsAreRecorded
