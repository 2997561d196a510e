-- Laws of whose turn it is, between two ends that keep to the protocol (RFC 8990, section 2.5.5).
use Rattle.std.specs.Prelude.{◌≡◌, ◌≢◌, true, false, List, Option, Some, None}
use Rattle.grasp_session.specs.Messages.{Side, Near, Far, other}
use Rattle.grasp_session.specs.Conversation.{Said, strip, turn, ended, accepted_by, has_offered, newest_offer_by}
use Rattle.grasp_session.specs.Transcript.{Transcript, known, is_going, is_mine, peer_offer, SayStep}
use Rattle.grasp_session.specs.Talk.{Present, Talk, party, Move, Requests, OpensFar, RefusesFar, Says, Hears, Marks, moved, Reached}

-- what an end knows whose session goes on and whose turn it is: the whole conversation, in which the turn is its own, no end stands, and the other side
-- has offered
pub record TurnSays (side : Side) (said : List Said) (v : Transcript) : Type 0 where
  pub whole : known v ≡ strip said
  pub its_turn : turn (strip said) ≡ side
  pub no_end : ended (strip said) ≡ false
  pub no_acceptance : (s : Side) → accepted_by s (strip said) ≡ false
  pub offer : peer_offer v ≡ newest_offer_by (other side) (strip said)
  pub made : has_offered (other side) (strip said) ≡ true

abbrev pub TurnsSay : Type 0
TurnsSay = (t : Talk) → Reached t → (side : Side) (v : Transcript) → (party t side).stage ≡ Present v
    → is_going v ≡ true → is_mine v ≡ true → TurnSays side t.said v

-- the side whose message this move may add to the conversation
abbrev pub said_by : Move → Option Side
said_by (Requests now timeout session o) = Some Near
said_by (OpensFar now timeout) = None
said_by (RefusesFar reason) = Some Far
said_by (Says side now s) = Some side
said_by (Hears side now) = None
said_by (Marks side cause) = None

-- while the turn is this side's, a move by which it says nothing leaves the conversation, but for invalid messages
abbrev pub TurnsHold : Type 0
TurnsHold = (t : Talk) → Reached t → (m : Move) (side : Side) → turn (strip t.said) ≡ side → said_by m ≢ Some side
    → strip (moved t m).said ≡ strip t.said

-- while an end knows that the turn is its own, it learns nothing from a move by which it says nothing
abbrev pub KnownHolds : Type 0
KnownHolds = (t : Talk) → Reached t → (m : Move) (side : Side) (v w : Transcript) → (party t side).stage ≡ Present v
    → (party (moved t m) side).stage ≡ Present w → turn (known v) ≡ side → said_by m ≢ Some side → known w ≡ known v

-- the side whose offer this move may add: a request's or a step's
abbrev pub offered_by : Move → Option Side
offered_by (Requests now timeout session o) = Some Near
offered_by (Says side now (SayStep value)) = Some side
offered_by _ = None

-- any other move leaves this side's last offer
pub record OfferHolds (side : Side) (old new : List Said) : Type 0 where
  pub newest : newest_offer_by side new ≡ newest_offer_by side old
  pub made : has_offered side new ≡ has_offered side old

abbrev pub OffersHold : Type 0
OffersHold = (t : Talk) (m : Move) (side : Side) → offered_by m ≢ Some side → OfferHolds side (strip t.said) (strip (moved t m).said)
