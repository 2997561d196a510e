-- Laws of conversations, of one end whatever its peer sends, and of two ends that keep to the protocol whatever comes from outside.
use Rattle.std.specs.Prelude.{◌≡◌, ◌≢◌, ℕ, ◌<◌, true, false, List, [], ◌∷◌, ◌++◌, Option, Some, None, ◌⊎◌, ◌↔◌, reverse}
use Rattle.grasp_types.specs.declared.objective.Objective.{Objective}
use Rattle.grasp_types.specs.declared.session.Kind.{Kind}
use Rattle.grasp_types.specs.declared.message.Verdict.TheVariants.{Accept, Decline}
use Rattle.grasp_types.specs.declared.session.By.{By}
use Rattle.grasp_types.specs.declared.session.By.TheVariants.{Mine, Theirs}
use Rattle.grasp_types.specs.declared.session.Outcome.{Outcome}
use Rattle.grasp_types.specs.declared.session.Outcome.TheVariants as outcome
use Rattle.grasp_types.specs.declared.message.Message.{Message}
use Rattle.grasp_types.specs.declared.message.Message.TheVariants.{ReqNeg, End}
use Rattle.grasp_session.specs.declared.answer.Act.TheVariants as act
use Rattle.grasp_session.specs.declared.answer.Received.TheVariants.{Kept}
use Rattle.grasp_session.specs.Messages.{Side, Near, other}
use Rattle.grasp_session.specs.Conversation.{Said, strip, begun, turn, ended, accepted_by, IsDeclined, has_offered, IsLegal, IsLegalConversation, Trails, steps, number, requested, MayFollow, newest_offer_by, answered, spoken}
use Rattle.grasp_session.specs.Grammar.{IsPrefixOfWord, FollowsGrammar}
use Rattle.grasp_session.specs.Transcript.{Transcript, opening, known, sent_of, kept_of, is_going, outcome_of, Faulty, Deed, after_deed, after_deeds, SayEnd, refusal, having_said, receive}
use Rattle.grasp_session.specs.Talk.{Stage, Absent, Refused, Present, Party, Talk, party, Move, moved, Reached}

-- without invalid messages: a conversation is legal exactly where it is the beginning of a negotiation of whole turns (RFC 8990, section 2.5.5)
abbrev pub LegalIsGrammar : Type 0
LegalIsGrammar = (c : List Said) → IsLegal c ↔ IsPrefixOfWord (reverse c)

-- with them (RFC 8990, section 2.8.12)
abbrev pub ConversationIsGrammar : Type 0
ConversationIsGrammar = (said : List Said) → IsLegalConversation said ↔ FollowsGrammar said

-- fewer steps than this loop count, and none where it is 0
pub record IsBounded (loops : ℕ) (c : List Said) : Type 0 where
  pub below : 0 < loops → steps c < loops
  pub none : loops ≡ 0 → steps c ≡ 0

-- the steps that an end sends and keeps, whatever its peer sends
abbrev pub StepsBounded : Type 0
StepsBounded = (kind : Kind) (role : Side) (timeout now session : ℕ) (o : Objective) (deeds : List Deed) → IsBounded o.loops (known (after_deeds (opening kind role timeout now session o) deeds))

-- the conversation of any reached talk is legal
abbrev pub RunsAreLegal : Type 0
RunsAreLegal = (t : Talk) → Reached t → IsLegalConversation t.said

-- the steps of any reached talk
abbrev pub RunsAreBounded : Type 0
RunsAreBounded = (t : Talk) → Reached t → IsBounded (requested (strip t.said)).loops (strip t.said)

-- what an end with a transcript knows, which begins with the request: an earlier part of the conversation, to which only the other side has added. It has
-- all its own messages, and the first of the other side's
pub record IsView (side : Side) (said : List Said) (v : Transcript) : Type 0 where
  pub role : v.role ≡ side
  pub knows_request : begun (known v) ≡ true
  pub was_requested : begun (strip said) ≡ true
  pub trails : Trails side (known v) (strip said)
  pub own : spoken side said ≡ sent_of v.entries
  pub kept : (later : List Message) × (spoken (other side) said ≡ later ++ kept_of v.entries)
  pub whole : (turn (known v) ≡ side) ⊎ (ended (known v) ≡ true) → known v ≡ strip said
  pub no_fault : v.mark ≢ Some Faulty
  pub same_number : number (known v) ≡ number (strip said)
  pub same_request : requested (known v) ≡ requested (strip said)

abbrev pub ViewsTrail : Type 0
ViewsTrail = (t : Talk) → Reached t → (side : Side) (v : Transcript) → (party t side).stage ≡ Present v → IsView side t.said v

-- a side without a transcript said nothing, or one decline
abbrev pub IsSilent : Side → List Said → Stage → Type 0
IsSilent side said Absent = spoken side said ≡ []
IsSilent side said Refused = (session : ℕ) × (reason : Option (List ℕ)) × (spoken side said ≡ End session (Decline reason) ∷ [])
IsSilent side said (Present v) = Unit {0}

abbrev pub SilentUnseen : Type 0
SilentUnseen = (t : Talk) → Reached t → (side : Side) → IsSilent side t.said (party t side).stage

-- what an end took and what it hasn't taken are the other side's messages. It kept the first of what it took: all until its outcome, and none since
pub record HasTaken (side : Side) (said : List Said) (p : Party) : Type 0 where
  pub given : spoken (other side) said ≡ reverse p.inbox ++ p.taken
  pub first : (v : Transcript) → p.stage ≡ Present v → (ignored : List Message) × (p.taken ≡ ignored ++ kept_of v.entries)
  pub kept : (v : Transcript) → p.stage ≡ Present v → is_going v ≡ true → kept_of v.entries ≡ p.taken

abbrev pub TakenInOrder : Type 0
TakenInOrder = (t : Talk) → Reached t → (side : Side) → HasTaken side t.said (party t side)

-- until the outcome each message that comes next is kept
abbrev pub NoneIsBad : Type 0
NoneIsBad = (t : Talk) → Reached t → (side : Side) (v : Transcript) (m : Message) (left : List Message) → (party t side).stage ≡ Present v → (party t side).inbox ≡ m ∷ left
    → is_going v ≡ true → receive v m ≡ Kept

-- the side whose acceptance or decline an end of this role reports
abbrev pub speaker : Side → By → Side
speaker role Mine = role
speaker role Theirs = other role

-- two ends that agree: one by its own acceptance, the other by its peer's, on the last offer of the side that didn't accept, which made one
pub record Agreement (a b : By) (o p : Objective) (said : List Said) : Type 0 where
  pub one : ((a ≡ Mine) × (b ≡ Theirs)) ⊎ ((a ≡ Theirs) × (b ≡ Mine))
  pub same : o ≡ p
  pub offered : o ≡ newest_offer_by (other (speaker Near a)) (strip said)
  pub made : has_offered (other (speaker Near a)) (strip said) ≡ true

abbrev pub BothAgree : Type 0
BothAgree = (t : Talk) → Reached t → (v w : Transcript) (a b : By) (o p : Objective) → t.near.stage ≡ Present v → t.far.stage ≡ Present w
    → outcome_of v ≡ Some (outcome.Agreed a o) → outcome_of w ≡ Some (outcome.Agreed b p) → Agreement a b o p t.said

-- what an end that offers knows of its offer
pub record OfferStands (side : Side) (said : List Said) (v : Transcript) : Type 0 where
  -- this side's transcript has this side's last offer
  pub offer : newest_offer_by side (known v) ≡ newest_offer_by side (strip said)
  -- where the other side may answer, this side kept no step and no end after its offer
  pub before : turn (strip said) ≡ other side → ended (strip said) ≡ false → answered side (known v) ≡ false
  -- after the other side's acceptance it kept this acceptance, or still no step and no end
  pub accepted : accepted_by (other side) (strip said) ≡ true → (known v ≡ strip said) ⊎ (answered side (known v) ≡ false)

abbrev pub OffersStand : Type 0
OffersStand = (t : Talk) → Reached t → (side : Side) (v : Transcript) → (party t side).stage ≡ Present v → OfferStands side t.said v

-- what an outcome says of the conversation
abbrev pub OutcomeSays : Side → List Said → Transcript → Option Outcome → Type 0
OutcomeSays side said v None = (is_going v ≡ true) × (ended (known v) ≡ false)
OutcomeSays side said v (Some (outcome.Agreed by o)) = (known v ≡ strip said) × (accepted_by (speaker side by) (strip said) ≡ true) × (o ≡ newest_offer_by (other (speaker side by)) (strip said))
OutcomeSays side said v (Some (outcome.Declined by reason)) = (known v ≡ strip said) × IsDeclined (speaker side by) reason (strip said) × (ended (strip said) ≡ true) × ((s : Side) → accepted_by s (strip said) ≡ false)
OutcomeSays side said v (Some (outcome.Synchronized o)) = ⊥
OutcomeSays side said v (Some (outcome.TimedOut d n)) = ended (known v) ≡ false
OutcomeSays side said v (Some outcome.Broken) = ended (known v) ≡ false
OutcomeSays side said v (Some outcome.OutOfMemory) = ended (known v) ≡ false
OutcomeSays side said v (Some (outcome.Invalid by)) = ended (known v) ≡ false

abbrev pub OutcomesSay : Type 0
OutcomesSay = (t : Talk) → Reached t → (side : Side) (v : Transcript) → (party t side).stage ≡ Present v → OutcomeSays side t.said v (outcome_of v)

-- a transcript with an outcome stays as it is
abbrev pub OutcomesStay : Type 0
OutcomesStay = (v : Transcript) (d : Deed) → is_going v ≡ false → after_deed v d ≡ v

-- a move leaves the stripped conversation or adds what may follow: so nothing after an end, and nothing of the side whose turn it isn't
abbrev pub MovesFollow : Type 0
MovesFollow = (t : Talk) → Reached t → (m : Move) → (strip (moved t m).said ≡ strip t.said)
    ⊎ ((x : Said) × (strip (moved t m).said ≡ x ∷ strip t.said) × MayFollow (strip t.said) x)

-- what is so where an end may accept: v is its transcript, w its peer's
pub record Accepting (side : Side) (said : List Said) (v w : Transcript) : Type 0 where
  pub whole : known v ≡ strip said
  pub its_turn : turn (strip said) ≡ side
  pub no_end : ended (strip said) ≡ false
  pub made : has_offered (other side) (strip said) ≡ true
  pub same_offer : newest_offer_by (other side) (known v) ≡ newest_offer_by (other side) (known w)
  pub no_answer : answered (other side) (known w) ≡ false
  pub agrees : (now : ℕ) → outcome_of (having_said v now (SayEnd Accept)) ≡ Some (outcome.Agreed Mine (newest_offer_by (other side) (known w)))

abbrev pub AcceptsTheLast : Type 0
AcceptsTheLast = (t : Talk) → Reached t → (side : Side) (v w : Transcript) → (party t side).stage ≡ Present v → (party t (other side)).stage ≡ Present w
    → refusal v act.End ≡ None → Accepting side t.said v w

-- nothing, or a request first
abbrev pub IsOpened : List Message → Type 0
IsOpened told = (told ≡ []) ⊎ ((session : ℕ) × (objective : Objective) × (rest : List Message) × (told ≡ ReqNeg session objective ∷ rest))

-- near's first message, of any kind, is its request
abbrev pub FirstIsRequest : Type 0
FirstIsRequest = (t : Talk) → Reached t → IsOpened (reverse (spoken Near t.said))

-- where an end may accept, its peer has a transcript
abbrev pub PeerIsPresent : Type 0
PeerIsPresent = (t : Talk) → Reached t → (side : Side) (v : Transcript) → (party t side).stage ≡ Present v → refusal v act.End ≡ None
    → (w : Transcript) × ((party t (other side)).stage ≡ Present w)
