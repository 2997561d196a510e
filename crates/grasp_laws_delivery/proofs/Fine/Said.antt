-- What a session says next is a message, where all that it sent and kept are messages.
use Rattle.std.proofs.Common.{◌<◌, ◌≤◌, ◌^◌, Bool, true, false, cond, List, [], ◌∷◌, arith}
use Rattle.std.specs.Prelude.{IfSome}
use Rattle.std.proofs.lemmas.Str.{IsUtf8-nil}
use Rattle.grasp_cbor.proofs.Facts.Numbers.{still_below}
use Rattle.grasp_session.specs.Conversation.{Said, says, strip, number, requested, newest_offer}
use Rattle.grasp_session.specs.Messages.{Side, is_invalid, no_objective}
use Rattle.grasp_session.specs.Transcript.{Entry, Transcript, said_of, known, session_of, last_offer, Saying, SayStep, SayWait, SayEnd, SayInvalid, message_of}
use Rattle.grasp_types.specs.Message.{IsMessage, IsVerdict}
use Rattle.grasp_types.specs.Objective.{IsObjective, IsValue}
use Rattle.grasp_types.specs.declared.message.Message.{Message}
use Rattle.grasp_types.specs.declared.message.Message.TheVariants.{ReqNeg, ReqSyn, Negotiate}

-- each message of a conversation is one
abbrev pub AreSaid : List Said → Type 0
AreSaid [] = Unit {0}
AreSaid (x ∷ c) = IsMessage x.message × AreSaid c

-- each message of a transcript has its parts within their ranges
abbrev pub AreEntries : List Entry → Type 0
AreEntries [] = Unit {0}
AreEntries (e ∷ es) = IsMessage e.message × AreEntries es

zero_small : 0 < 2 ^ 32
zero_small = omega arith

zero_flags : 0 ≤ 15
zero_flags = omega arith

zero_loops : 0 < 2 ^ 8
zero_loops = omega arith

no_objective_is : IsObjective no_objective
no_objective_is = record { name = IsUtf8-nil; flags = zero_flags; loops = zero_loops; value = tt }

-- ---- what a conversation tells

number_by : (side : Side) (m : Message) (c : List Said) → IsMessage m → number c < 2 ^ 32 → number (says side m ∷ c) < 2 ^ 32
number_by side (ReqNeg n o) c h k = h.0
number_by side (ReqSyn n o) c h k = h.0
number_by side _ c h k = k

pub number_small : (c : List Said) → AreSaid c → number c < 2 ^ 32
number_small [] h = zero_small
number_small (x ∷ c) h = number_by x.side x.message c h.0 (number_small c h.1)

requested_by : (side : Side) (m : Message) (c : List Said) → IsMessage m → IsObjective (requested c) → IsObjective (requested (says side m ∷ c))
requested_by side (ReqNeg n o) c h k = h.1
requested_by side (ReqSyn n o) c h k = h.1
requested_by side _ c h k = k

pub requested_is : (c : List Said) → AreSaid c → IsObjective (requested c)
requested_is [] h = no_objective_is
requested_is (x ∷ c) h = requested_by x.side x.message c h.0 (requested_is c h.1)

offered_by : (side : Side) (m : Message) (c : List Said) → IsMessage m → IsObjective (newest_offer c) → IsObjective (newest_offer (says side m ∷ c))
offered_by side (ReqNeg n o) c h k = h.1
offered_by side (ReqSyn n o) c h k = h.1
offered_by side (Negotiate n o) c h k = h.1
offered_by side _ c h k = k

pub offered_is : (c : List Said) → AreSaid c → IsObjective (newest_offer c)
offered_is [] h = no_objective_is
offered_is (x ∷ c) h = offered_by x.side x.message c h.0 (offered_is c h.1)

stripped_are : (c : List Said) → AreSaid c → AreSaid (strip c)
stripped_are [] h = tt
stripped_are (x ∷ c) h = by_test (is_invalid x.message) (stripped_are c h.1) where
  by_test : (b : Bool) → AreSaid (strip c) → AreSaid (cond b (strip c) (x ∷ strip c))
  by_test true k = k
  by_test false k = (h.0, k)

said_are : (role : Side) (es : List Entry) → AreEntries es → AreSaid (said_of role es)
said_are role [] h = tt
said_are role (e ∷ es) h = (h.0, said_are role es h.1)

known_are : (v : Transcript) → AreEntries v.entries → AreSaid (known v)
known_are v h = stripped_are (said_of v.role v.entries) (said_are v.role v.entries h)

-- ---- what a session says

-- what is said is within its range
abbrev pub IsSaying : Saying → Type 0
IsSaying (SayStep value) = IsValue value
IsSaying (SayWait millis) = millis < 2 ^ 32
IsSaying (SayEnd verdict) = IsVerdict verdict
IsSaying (SayInvalid detail) = IfSome detail IsValue

pub session_small : (v : Transcript) → AreEntries v.entries → session_of v < 2 ^ 32
session_small v h = number_small (known v) (known_are v h)

pub message_is : (v : Transcript) (saying : Saying) → AreEntries v.entries → IsSaying saying → IsMessage (message_of v saying)
message_is v (SayStep value) h k = (
  session_small v h,
  record {
    name = (requested_is (known v) (known_are v h)).name;
    flags = (requested_is (known v) (known_are v h)).flags;
    loops = still_below (last_offer v).loops (offered_is (known v) (known_are v h)).loops;
    value = k;
  },
)
message_is v _ h k = (session_small v h, k)
