-- How every step begins: the reading, and then what has come to its end by it.
use Rattle.std.specs.Prelude.{ℕ, zero, suc, Option, None, Some}
use Rattle.grasp_discovery.specs.Discoveries as discovery
use Rattle.grasp_flood.specs.Floods as flood
use Rattle.grasp_session.specs.Sessions.{expire_reply, after_expire}
use Rattle.grasp_model_node.specs.Node.{NodeState}
use Rattle.grasp_model_node.specs.Moves.{with_reading, with_sessions, with_discoveries, with_floods, begin_closing}

abbrev pub expire_on : NodeState → Option ℕ → NodeState
expire_on n None = n
expire_on n (Some stream) = begin_closing (with_sessions n (after_expire n.sessions n.reading)) stream

-- the session of the least number whose deadline has come times out, and its stream begins closing
abbrev pub expire_next : NodeState → NodeState
expire_next n = expire_on n (expire_reply n.sessions n.reading)

-- so many sessions time out, or all whose deadlines have come
unfoldable pub expired : ℕ → NodeState → NodeState
expired zero n = n
expired (suc k) n = expire_next (expired k n)

-- searches whose time has come are over; cached locators and remembered discoveries that have ended are gone
abbrev pub discoveries_expired : NodeState → NodeState
discoveries_expired n = with_discoveries n (discovery.after_expiry n.discoveries n.reading)

-- floods and remembered floods that have ended are gone
abbrev pub floods_expired : NodeState → NodeState
floods_expired n = with_floods n (flood.after_expiry n.floods n.reading)

-- the node at the beginning of a step at this reading; a node has at most 64 sessions
unfoldable pub begin : NodeState → ℕ → NodeState
begin n now = floods_expired (discoveries_expired (expired 64 (with_reading n now)))
