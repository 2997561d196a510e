-- What is said on streams can be sent.
use Rattle.std.specs.Prelude.{ℕ, All, List}
use Rattle.grasp_session.specs.Messages.{Side}
use Rattle.grasp_wire.specs.Laws.{IsSendable}
use Rattle.grasp_model_network.specs.Runs.{IsReached}
use Rattle.grasp_model_network.specs.Setting.{Setting}
use Rattle.grasp_model_network.specs.Streams.{StreamState, sent_by}
use Rattle.grasp_model_network.specs.World.{WorldState}
use Rattle.grasp_laws_delivery.specs.Saying.{OfEachStream, said_by}

-- each message that a side of the stream said or sent is one, and fits the limit
pub record CanBeSent (limit : ℕ) (t : StreamState) : Type 0 where
  pub said : (side : Side) → All (IsSendable limit) (said_by t side)
  pub sent : (side : Side) → All (IsSendable limit) (sent_by t side).sent

abbrev pub AllCanBeSent : ℕ → List StreamState → Type 0
AllCanBeSent limit ts = OfEachStream (CanBeSent limit) ts

-- in every network that turns lead to, what was said or sent on streams can be sent within the limit of the plans
abbrev pub SaidFits : Type 0
SaidFits = (s : Setting) (w : WorldState) (r : IsReached s w) → AllCanBeSent r.good.limit w.streams
