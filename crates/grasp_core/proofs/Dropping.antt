-- How far a plan of declines has come, and how many sessions of an agent have left.
use Rattle.std.proofs.lemmas.List.{map-append}
use Rattle.std.proofs.Common.{◌≡◌, ℕ, ◌+◌, List, [], ◌∷◌, ◌++◌, map, refl, add-one}
use Rattle.grasp_model_node.specs.Node.{NodeState}
use Rattle.grasp_model_node.specs.Declines.{Declining, after_decline, after_declines}
use Rattle.grasp_model_node.specs.RegistryCalls.{without_session, without_sessions}
use Rattle.grasp_core.specs.Planned.{planned_as}
use Rattle.grasp_core.specs.declared.declining.Planned.{Planned}
use Rattle.grasp_core.specs.declared.node_core.NodeCore.{NodeCore}
use Rattle.grasp_core.specs.Stands.{NodeStands}
use Rattle.grasp_session.specs.Sessions.{owner_reply}

-- nothing is declined yet
pub declined_none : (core : NodeCore) (n : NodeState) → NodeStands core n → NodeStands core (after_declines n [])
unfolding after_declines
declined_none core n h = h

-- the last decline comes after the others
last_declined : (n : NodeState) (ds : List Declining) (d : Declining) → after_declines n (ds ++ d ∷ []) ≡ after_decline (after_declines n ds) d
unfolding after_declines
last_declined n [] d = refl
last_declined n (c ∷ ds) d = last_declined (after_decline n c) ds d

pub declined_more : (core : NodeCore) (n : NodeState) (ps : List Planned) (p : Planned) → NodeStands core (after_decline (after_declines n (map planned_as ps)) (planned_as p)) → NodeStands core (after_declines n (map planned_as (ps ++ p ∷ [])))
declined_more core n ps p h = rw (map-append planned_as ps (p ∷ []), last_declined n (map planned_as ps) (planned_as p)) h

-- no session has left yet
pub left_none : (core : NodeCore) (n : NodeState) (asa : ℕ) → NodeStands core n → NodeStands core (without_sessions 0 n asa)
unfolding without_sessions
left_none core n asa h = h

-- one more session leaves
pub left_more : (core : NodeCore) (k : ℕ) (n : NodeState) (asa : ℕ) → NodeStands core (without_session (without_sessions k n asa) (owner_reply (without_sessions k n asa).sessions asa)) → NodeStands core (without_sessions (k + 1) n asa)
unfolding without_sessions
left_more core k n asa h = rw (add-one k) h
