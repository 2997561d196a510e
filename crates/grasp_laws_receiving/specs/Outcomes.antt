-- What the outcome of a session tells of its transcript: the message that ended it and whose it was, or what ended it from outside.
use Rattle.std.specs.Prelude.{◌≡◌, ◌↔◌, ◌⊎◌, ℕ, Bool, true, false, List, ◌∷◌, Option, None, Some}
use Rattle.grasp_cbor.specs.DataItem.{DataItem}
use Rattle.grasp_types.specs.declared.message.Message.{Message}
use Rattle.grasp_types.specs.declared.message.Message.TheVariants.{End, Synch, Invalid}
use Rattle.grasp_types.specs.declared.message.Verdict.TheVariants.{Accept, Decline}
use Rattle.grasp_types.specs.declared.objective.Objective.{Objective}
use Rattle.grasp_types.specs.declared.session.By.{By}
use Rattle.grasp_types.specs.declared.session.By.TheVariants.{Mine, Theirs}
use Rattle.grasp_types.specs.declared.session.Outcome.{Outcome}
use Rattle.grasp_types.specs.declared.session.Outcome.TheVariants as outcome
use Rattle.grasp_session.specs.Transcript.{Entry, Transcript, Expired, Closed, Starved, Faulty, is_going, my_offer, peer_offer, deadline_of, outcome_of}

-- this end sent the message, or kept it of its peer
abbrev pub was_sent : By → Bool
was_sent Mine = true
was_sent Theirs = false

-- nothing ended the session from outside, and the newest message is this one, of this end or of its peer
pub record EndedBy (v : Transcript) (by : By) (m : Message) : Type 0 where
  pub unmarked : v.mark ≡ None
  pub entry : Entry
  pub before : List Entry
  pub newest : v.entries ≡ entry ∷ before
  pub message : entry.message ≡ m
  pub side : entry.sent ≡ was_sent by

-- the last offer of the side that didn't accept
abbrev pub accepted_offer : Transcript → By → Objective
accepted_offer v Mine = peer_offer v
accepted_offer v Theirs = my_offer v

-- the transcript shows what brought this outcome
abbrev pub HasCause : Transcript → Outcome → Type 0
HasCause v (outcome.Agreed by o) = (n : ℕ) × EndedBy v by (End n Accept) × (o ≡ accepted_offer v by)
HasCause v (outcome.Declined by reason) = (n : ℕ) × EndedBy v by (End n (Decline reason))
HasCause v (outcome.Synchronized o) = (n : ℕ) × (by : By) × EndedBy v by (Synch n o)
HasCause v (outcome.TimedOut deadline now) = (v.mark ≡ Some (Expired now)) × (deadline ≡ deadline_of v)
HasCause v outcome.Broken = v.mark ≡ Some Closed
HasCause v outcome.OutOfMemory = v.mark ≡ Some Starved
HasCause v (outcome.Invalid Mine) = (v.mark ≡ Some Faulty) ⊎ ((n : ℕ) × (d : Option DataItem) × EndedBy v Mine (Invalid n d))
HasCause v (outcome.Invalid Theirs) = (n : ℕ) × (d : Option DataItem) × EndedBy v Theirs (Invalid n d)

pub record OutcomesHaveCauses : Type 0 where
  pub causes : (v : Transcript) (o : Outcome) → outcome_of v ≡ Some o ↔ HasCause v o
  pub none : (v : Transcript) → outcome_of v ≡ None ↔ is_going v ≡ true
