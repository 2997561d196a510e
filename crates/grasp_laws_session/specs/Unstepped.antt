-- A listener that has made no step.
use Rattle.std.specs.Prelude.{◌≡◌, false}
use Rattle.grasp_session.specs.Conversation.{turn, has_offered}
use Rattle.grasp_session.specs.Made.{IsBuilt}
use Rattle.grasp_session.specs.Messages.{Far}
use Rattle.grasp_session.specs.Transcript.{Transcript, known, peer_offer, request_of}

-- a listener that has made no step has the turn, and knows no offer of the other end but the request
pub record IsUnstepped (v : Transcript) : Type 0 where
  pub its_turn : turn (known v) ≡ Far
  pub offer : peer_offer v ≡ request_of v

abbrev pub UnsteppedHearNone : Type 0
UnsteppedHearNone = (v : Transcript) → IsBuilt v → v.role ≡ Far → has_offered Far (known v) ≡ false → IsUnstepped v
