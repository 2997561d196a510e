-- Laws of what moves do to a talk of two ends that keep to the protocol: what is reached, what stays, and what an end takes next.
use Rattle.std.specs.Prelude.{◌≡◌, ℕ, true, List, [], ◌∷◌, ◌++◌, reverse}
use Rattle.grasp_types.specs.declared.message.Message.{Message}
use Rattle.grasp_session.specs.Messages.{Side, other}
use Rattle.grasp_session.specs.Conversation.{Said, strip, begun, number, requested, spoken}
use Rattle.grasp_session.specs.Transcript.{Transcript, is_going, with_kept}
use Rattle.grasp_session.specs.Talk.{Absent, Present, Talk, quiet, party, took, Move, Hears, moved, run, Reached}

-- the talk before any move is reached
abbrev pub QuietIsReached : Type 0
QuietIsReached = Reached quiet

-- from a reached talk more moves lead to a reached one
abbrev pub MovesReach : Type 0
MovesReach = (t : Talk) (ms : List Move) → Reached t → Reached (run t ms)

-- moves after moves are one run
abbrev pub RunsJoin : Type 0
RunsJoin = (t : Talk) (a b : List Move) → run t (a ++ b) ≡ run (run t a) b

-- the request of one conversation is that of the other, which has begun too
pub record KeepsRequest (old new : List Said) : Type 0 where
  pub has_begun : begun new ≡ true
  pub same_number : number new ≡ number old
  pub same_request : requested new ≡ requested old

-- once something was said, no moves change the request
abbrev pub RequestStays : Type 0
RequestStays = (t : Talk) → Reached t → begun (strip t.said) ≡ true → (ms : List Move) → KeepsRequest (strip t.said) (strip (run t ms).said)

-- once something was said, near has a transcript
abbrev pub RequesterIsPresent : Type 0
RequesterIsPresent = (t : Talk) → Reached t → begun (strip t.said) ≡ true → (v : Transcript) × (t.near.stage ≡ Present v)

-- an end without a transcript that didn't decline has taken nothing
abbrev pub AbsentTookNothing : Type 0
AbsentTookNothing = (t : Talk) → Reached t → (side : Side) → (party t side).stage ≡ Absent → (party t side).taken ≡ []

-- until its outcome an end keeps the next message
abbrev pub HeardNext : Type 0
HeardNext = (t : Talk) → Reached t → (side : Side) (now : ℕ) (v : Transcript) (m : Message) (left : List Message)
    → (party t side).stage ≡ Present v → (party t side).inbox ≡ m ∷ left → is_going v ≡ true
    → moved t (Hears side now) ≡ took t side m left (Present (with_kept v now m))

-- after the messages that an end took, the other side's next ones are what it hasn't taken
abbrev pub InboxIsNext : Type 0
InboxIsNext = (t : Talk) → Reached t → (side : Side) (given next : List Message) → (party t side).taken ≡ reverse given
    → reverse (spoken (other side) t.said) ≡ given ++ next → (party t side).inbox ≡ next
