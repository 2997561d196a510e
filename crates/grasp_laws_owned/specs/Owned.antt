-- Whose the sessions of a node are, where one agent alone has the objective of a name, and how its sessions go on (RFC 8992, section 5.1).
use Rattle.std.specs.Prelude.{◌≡◌, ◌≢◌, ℕ, false, List, Contains}
use Rattle.std.specs.List.{list_any}
use Rattle.grasp_laws_agents.specs.GoingOn.{OnlyHeard}
use Rattle.grasp_session.specs.Conversation.{has_offered}
use Rattle.grasp_session.specs.Messages.{Far, is_acceptance}
use Rattle.grasp_session.specs.Runs.{WasMade}
use Rattle.grasp_session.specs.Says.{IsAt}
use Rattle.grasp_session.specs.Sessions.{SessionState, Sessions}
use Rattle.grasp_session.specs.Transcript.{Transcript, known, request_of, sent_of}
use Rattle.grasp_types.specs.declared.session.Kind.TheVariants.{Negotiation}

-- this end listens, and has made no step and accepted nothing
pub record IsUnsaid (v : Transcript) : Type 0 where
  pub listens : v.role ≡ Far
  pub unmade : has_offered Far (known v) ≡ false
  pub unaccepted : list_any is_acceptance (sent_of v.entries) ≡ false

-- a session that this agent owns is a negotiation whose request has this name; one that another agent owns has a request with another name;
-- and one that no agent has taken is a negotiation, in which this end has accepted nothing
pub record IsOwnedBy (asa : ℕ) (name : List ℕ) (x : SessionState) : Type 0 where
  pub own : x.owner ≡ asa → (x.view.kind ≡ Negotiation) × ((request_of x.view).name ≡ name)
  pub foreign : x.owner ≢ 0 → x.owner ≢ asa → (request_of x.view).name ≢ name
  pub untaken : x.owner ≡ 0 → x.view.kind ≡ Negotiation
  pub unsaid : x.owner ≡ 0 → IsUnsaid x.view

-- each session that was ever made, live or not, is whose it may be
abbrev pub AreOwnedBy : ℕ → List ℕ → Sessions → Type 0
AreOwnedBy asa name z = (x : SessionState) → WasMade z x → IsOwnedBy asa name x

-- the agent has the same live sessions, at their places, and has said nothing in them; and the same are no longer live
pub record GoOnBy (asa : ℕ) (z w : Sessions) : Type 0 where
  pub stay : (place : ℕ) (x : SessionState) → IsAt z place x → x.owner ≡ asa → (y : SessionState) × IsAt w place y × OnlyHeard x y
  pub were : (place : ℕ) (y : SessionState) → IsAt w place y → y.owner ≡ asa → (x : SessionState) × IsAt z place x × OnlyHeard x y
  pub gone : (x : SessionState) → Contains z.gone x → Contains w.gone x
  pub left : (x : SessionState) → x.owner ≡ asa → Contains w.gone x → Contains z.gone x
