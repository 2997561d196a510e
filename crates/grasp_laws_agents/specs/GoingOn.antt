-- How the sessions of the agent of prefixes at a node go on while others act: this agent says nothing in them.
use Rattle.std.specs.Prelude.{◌≡◌, ◌≢◌, ℕ, false, List, [], ◌∷◌, Contains}
use Rattle.std.specs.List.{list_any}
use Rattle.grasp_session.specs.Conversation.{has_offered}
use Rattle.grasp_session.specs.Messages.{Far, is_acceptance}
use Rattle.grasp_session.specs.Says.{IsAt}
use Rattle.grasp_session.specs.Sessions.{SessionState, Sessions}
use Rattle.grasp_session.specs.Transcript.{Transcript, Deed, Does, Gets, Suffers, after_deeds, known, request_of, sent_of}
use Rattle.grasp_agent.specs.Calls.{objective_name}

-- a message that came, or an end from outside: this end said nothing
abbrev pub IsHeard : Deed → Type 0
IsHeard (Does now saying) = ⊥
IsHeard (Gets now message) = Unit {0}
IsHeard (Suffers mark) = Unit {0}

abbrev pub AreHeard : List Deed → Type 0
AreHeard [] = Unit {0}
AreHeard (d ∷ ds) = IsHeard d × AreHeard ds

-- between two transcripts of a session this end has said nothing: messages came, or the session was ended from outside
pub record OnlyHears (v w : Transcript) : Type 0 where
  pub deeds : List Deed
  pub heard : AreHeard deeds
  pub after : w ≡ after_deeds v deeds

-- two states of one session, between which this end has said nothing
pub record OnlyHeard (x y : SessionState) : Type 0 where
  pub number : y.number ≡ x.number
  pub owner : y.owner ≡ x.owner
  pub stream : y.stream ≡ x.stream
  pub view : OnlyHears x.view y.view

-- agent 1 has the same live sessions, at their places, and has said nothing in them; and the same are no longer live
pub record OwnGoOn (z w : Sessions) : Type 0 where
  pub stay : (place : ℕ) (x : SessionState) → IsAt z place x → x.owner ≡ 1 → (y : SessionState) × IsAt w place y × OnlyHeard x y
  pub were : (place : ℕ) (y : SessionState) → IsAt w place y → y.owner ≡ 1 → (x : SessionState) × IsAt z place x × OnlyHeard x y
  pub gone : (x : SessionState) → Contains z.gone x → Contains w.gone x
  pub left : (x : SessionState) → x.owner ≡ 1 → Contains w.gone x → Contains z.gone x

-- a session that is no longer live: one of another agent names another objective than PrefixManager; in one that no agent had taken this
-- end listened, made no step and accepted nothing
pub record IsOwnedGone (x : SessionState) : Type 0 where
  pub foreign : x.owner ≢ 0 → x.owner ≢ 1 → (request_of x.view).name ≢ objective_name
  pub untaken : x.owner ≡ 0 → (x.view.role ≡ Far) × (has_offered Far (known x.view) ≡ false)
  pub unaccepted : x.owner ≡ 0 → list_any is_acceptance (sent_of x.view.entries) ≡ false

abbrev pub GoneAreOwned : Sessions → Type 0
GoneAreOwned z = (x : SessionState) → Contains z.gone x → IsOwnedGone x
