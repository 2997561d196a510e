-- What the beginning of a step ends, and that it leaves everything else. What ends how is this project's own.
use Rattle.std.specs.Prelude.{◌≡◌, ◌≢◌, ℕ, max}
use Rattle.grasp_discovery.specs.Discoveries as discovery
use Rattle.grasp_flood.specs.Floods as flood
use Rattle.grasp_laws_node.specs.Beginnings.{IsDue}
use Rattle.grasp_model_node.specs.Begin.{begin}
use Rattle.grasp_model_node.specs.Node.{NodeState}
use Rattle.grasp_model_node.specs.Streams.{record_of}
use Rattle.grasp_session.specs.Says.{IsAt}
use Rattle.grasp_session.specs.Sessions.{SessionState}

-- The searches, locators, floods and memories are those that an expiry leaves at the larger of the two times, and no stream begins closing
-- but those of sessions that are due then. No session has begun
pub record BeginsAt (n after : NodeState) (reading : ℕ) : Type 0 where
  pub discoveries : after.discoveries ≡ discovery.after_expiry n.discoveries reading
  pub floods : after.floods ≡ flood.after_expiry n.floods reading
  pub streams : (stream : ℕ) → ((place : ℕ) (x : SessionState) → IsAt n.sessions place x → IsDue reading x → stream ≢ x.stream)
      → record_of after.streams stream ≡ record_of n.streams stream
  pub made : after.sessions.made ≡ n.sessions.made

-- every beginning of a step
abbrev pub BeginningsExpire : Type 0
BeginningsExpire = (n : NodeState) (now : ℕ) → BeginsAt n (begin n now) (max n.reading now)
