-- The turn and the deadline of a transcript in plain words, whatever the peer sends.
use Rattle.std.specs.Prelude.{◌≡◌, ℕ, ◌+◌, ◌%◌, ◌≤◌, Bool, true, false, cond, List, [], ◌∷◌, map, All, Contains}
use Rattle.grasp_types.specs.Reading.{reading_after}
use Rattle.grasp_types.specs.declared.message.Message.{Message}
use Rattle.grasp_types.specs.declared.message.Message.TheVariants.{Wait}
use Rattle.grasp_session.specs.Messages.{Near, Far}
use Rattle.grasp_session.specs.Conversation.{IsLegal, Said, newest_offer, requested, steps}
use Rattle.grasp_session.specs.Transcript.{Entry, Transcript, known, turn_of, deadline_of}
use Rattle.grasp_session.specs.Made.{IsBuilt}

-- after the request and an even number of steps the turn is the listener's, otherwise the requester's (RFC 8990, section 2.5.5)
pub record TurnIsParity (v : Transcript) : Type 0 where
  pub even : steps (known v) % 2 ≡ 0 → turn_of v ≡ Far
  pub odd : steps (known v) % 2 ≡ 1 → turn_of v ≡ Near

abbrev pub TurnsAreParity : Type 0
TurnsAreParity = (v : Transcript) → IsBuilt v → TurnIsParity v

-- each step lowers the loop count by one: the steps and the newest loop count make up the request's (RFC 8990, section 2.8.6)
abbrev pub StepsLowerLoops : Type 0
StepsLowerLoops = (c : List Said) → IsLegal c → steps c + (newest_offer c).loops ≡ (requested c).loops

-- an M_WAIT (RFC 8990, section 2.8.9)
abbrev pub is_wait : Message → Bool
is_wait (Wait n m) = true
is_wait _ = false

-- the last message that is no wait, and each later wait
abbrev pub since_wait : List Entry → List Entry
since_wait [] = []
since_wait (e ∷ es) = cond (is_wait e.message) (e ∷ since_wait es) (e ∷ [])

-- how long each lets the session go on: a wait by its waiting time, any other message by the timeout
abbrev pub lasts_to : ℕ → Entry → ℕ
lasts_to timeout e = by_message e.message where
  by_message : Message → ℕ
  by_message (Wait n m) = reading_after e.at m
  by_message _ = reading_after e.at timeout

-- the largest of these
pub record IsLargest (n : ℕ) (ns : List ℕ) : Type 0 where
  pub one : Contains ns n
  pub covers : All (λ k. k ≤ n) ns

-- the deadline is the largest of the last other message's reading with the timeout, and of each later wait's reading with its waiting time
abbrev pub DeadlinesAreLargest : Type 0
DeadlinesAreLargest = (v : Transcript) → IsBuilt v → IsLargest (deadline_of v) (map (lasts_to v.timeout) (since_wait v.entries))
