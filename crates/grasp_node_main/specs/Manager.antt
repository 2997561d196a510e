-- The agent that manages a node's prefixes, with what it is to want.
use Rattle.std.specs.Prelude.{ℕ, ◌+◌, ◌-◌, ◌&&◌, is_some, is_none, if◌then◌else◌, List, Option, None, Some, Result, Ok, Err, length, replicate, slice_get, slice_set}
use Rattle.grasp_agent.specs.Replies.{want_reply, after_want, after_reply}
use Rattle.grasp_agent.specs.States.{AgentState}
use Rattle.grasp_agent.specs.declared.want.WantEnd.{WantEnd}
use Rattle.grasp_agent.specs.declared.want.WantFault.{WantFault}
use Rattle.grasp_pool.specs.Holdings.{Holding}
use Rattle.grasp_types.specs.declared.reply.Reply.{Reply}
use Rattle.grasp_node_main.specs.Openings.{opened_agent}
use Rattle.grasp_node_main.specs.declared.want_plan.WantPlan.{WantPlan}

-- the agent; its wants, in their order; how each of them ended, where it did; and how many of them the agent took so far
pub record ManagerState : Type 0 where
  pub agent : AgentState
  pub wants : List WantPlan
  pub ends : List (Option WantEnd)
  pub taken : ℕ

-- an agent that has made its opening calls, and none of whose wants has ended
abbrev pub opened_manager : Holding → List WantPlan → ManagerState
opened_manager pool wants = record { agent = opened_agent pool; wants = wants; ends = replicate (length wants) None; taken = 0 }

-- the agent takes a want, unless one isn't finished or its pool has no room
abbrev pub giving : ManagerState → WantPlan → Result (Unit {0}) WantFault → ManagerState
giving m w (Ok done) = record m { agent = after_want m.agent w.length w.longest w.peer (Ok done); taken = m.taken + 1 }
giving m w (Err fault) = m

abbrev pub giving_next : ManagerState → Option WantPlan → ManagerState
giving_next m None = m
giving_next m (Some w) = giving m w (want_reply m.agent)

-- before its turn the agent is given the first want that it hasn't taken; one that it doesn't take stays pending
unfoldable pub ready_manager : ManagerState → ManagerState
ready_manager m = giving_next m (slice_get m.wants m.taken)

-- a want that was unfinished before a reply, and isn't afterwards, has ended: it is the one that was taken last
abbrev pub ends_with : ManagerState → AgentState → List (Option WantEnd)
ends_with m a = if is_some m.agent.want && is_none a.want then slice_set m.ends (m.taken - 1) a.last else m.ends

abbrev pub manager_with : ManagerState → AgentState → ManagerState
manager_with m a = record m { agent = a; ends = ends_with m a }

-- after the reply to its call
unfoldable pub manager_after : ManagerState → Reply → ManagerState
manager_after m r = manager_with m (after_reply m.agent r)
