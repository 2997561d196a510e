-- What is true of each talk that a run reaches.
use Rattle.std.proofs.Common.{◌≡◌, ◌≢◌, ℕ, true, false, List, [], ◌∷◌, Option, Some}
use Rattle.grasp_session.specs.Messages.{Side, Near, Far, other}
use Rattle.grasp_types.specs.declared.message.Verdict.TheVariants.{Decline}
use Rattle.grasp_types.specs.declared.session.Kind.TheVariants.{Negotiation}
use Rattle.grasp_types.specs.declared.message.Message.{Message}
use Rattle.grasp_types.specs.declared.message.Message.TheVariants.{End}
use Rattle.grasp_session.specs.Conversation.{Said, strip, begun, number, IsLegal, Trails, gave_up, InvalidsLast, HaveNumber, spoken}
use Rattle.grasp_session.specs.Transcript.{Transcript, known, sent_of, is_going, Faulty}
use Rattle.grasp_session.specs.Talk.{Stage, Absent, Refused, Present, Party, Talk, party, talk_of}
use Rattle.grasp_laws_session.proofs.Catching.{put}

-- what this end knows, and then what it has not taken, is the conversation
pub record Untaken (side : Side) (inbox : List Message) (said : List Said) (v : List Said) : Type 0 where
  pub ahead : strip said ≡ put (other side) v inbox
  pub calm : gave_up side said ≡ false

pub record SoundView (side : Side) (inbox : List Message) (said : List Said) (v : Transcript) : Type 0 where
  pub role : v.role ≡ side
  pub kind : v.kind ≡ Negotiation
  pub has_begun : begun (known v) ≡ true
  pub trails : Trails side (known v) (strip said)
  pub untaken : is_going v ≡ true → Untaken side inbox said (known v)
  pub own : spoken side said ≡ sent_of v.entries
  pub no_fault : v.mark ≢ Some Faulty

pub record SoundAbsent (side : Side) (inbox : List Message) (said : List Said) : Type 0 where
  pub untaken : Untaken side inbox said []
  pub own : spoken side said ≡ []

pub record SoundRefused (side : Side) (said : List Said) : Type 0 where
  pub session : ℕ
  pub reason : Option (List ℕ)
  pub own : spoken side said ≡ End session (Decline reason) ∷ []

abbrev pub SoundStage : Side → List Message → List Said → Stage → Type 0
SoundStage side inbox said Absent = SoundAbsent side inbox said
SoundStage side inbox said Refused = SoundRefused side said
SoundStage side inbox said (Present v) = SoundView side inbox said v

abbrev pub SoundParty : Side → List Said → Party → Type 0
SoundParty side said p = SoundStage side p.inbox said p.stage

-- each invalid message is the last of its side, what was said begins with a request, and all of it has the request's number
pub record IsNumbered (said : List Said) : Type 0 where
  pub last : InvalidsLast said
  pub opened : begun said ≡ begun (strip said)
  pub numbered : HaveNumber (number (strip said)) said

pub record SoundTalk (t : Talk) : Type 0 where
  pub legal : IsLegal (strip t.said)
  pub last : IsNumbered t.said
  pub near : SoundParty Near t.said t.near
  pub far : SoundParty Far t.said t.far

pub sound_party : (t : Talk) (side : Side) → SoundTalk t → SoundParty side t.said (party t side)
sound_party t Near s = s.near
sound_party t Far s = s.far

pub sound_talk_of : (side : Side) (said : List Said) (mine theirs : Party) → IsLegal (strip said) → IsNumbered said → SoundParty side said mine → SoundParty (other side) said theirs → SoundTalk (talk_of side said mine theirs)
sound_talk_of Near said mine theirs l i m h = record { legal = l; last = i; near = m; far = h }
sound_talk_of Far said mine theirs l i m h = record { legal = l; last = i; near = h; far = m }
