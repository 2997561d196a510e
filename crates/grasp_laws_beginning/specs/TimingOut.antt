-- How a session times out: at the beginning of a step whose reading has reached its deadline.
use Rattle.std.specs.Prelude.{◌≡◌, ◌≢◌, ℕ, max, None, Some, slice_index_or}
use Rattle.grasp_laws_node.specs.Beginnings.{IsDue}
use Rattle.grasp_model_node.specs.Begin.{begin}
use Rattle.grasp_model_node.specs.BoundedNodes.{IsBoundedNode}
use Rattle.grasp_model_node.specs.Node.{NodeState}
use Rattle.grasp_session.specs.Says.{IsAt}
use Rattle.grasp_session.specs.Sessions.{SessionState, Sessions}
use Rattle.grasp_session.specs.Transcript.{Expired}

-- one that an agent has is marked as timed out at this reading, and nothing else of it has changed; one that no agent has taken is gone
pub record TimesOutAt (place reading : ℕ) (x : SessionState) (after : Sessions) : Type 0 where
  pub stays : x.owner ≢ 0 → IsAt after place (record x { view = record x.view { mark = Some (Expired reading) } })
  pub leaves : x.owner ≡ 0 → slice_index_or after.places place None ≡ None

-- each session that is due by the larger of the two times, at each node to which steps lead
abbrev pub DueTimeOut : Type 0
DueTimeOut = (n : NodeState) (now place : ℕ) (x : SessionState) → IsBoundedNode n → IsAt n.sessions place x → IsDue (max n.reading now) x
    → TimesOutAt place (max n.reading now) x (begin n now).sessions
