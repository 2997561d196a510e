-- The agent of prefixes as it serves: with what it is to want, and how often a circle of its duties told it nothing.
use Rattle.std.specs.Prelude.{ℕ, ◌==◌, ◌++◌, ◌∷◌, [], ◌&&◌, nat_lt, is_some, is_none, if◌then◌else◌, Bool, true, false, List, Option, None, Some, map, slice_get, slice_set}
use Rattle.grasp_agent.specs.Calls.{next_call}
use Rattle.grasp_agent.specs.Replies.{want_reply, after_want, after_reply}
use Rattle.grasp_agent.specs.States.{AgentState, first_agent, duties}
use Rattle.grasp_agent.specs.declared.want.WantEnd.{WantEnd}
use Rattle.grasp_io.specs.Memory.{one_more}
use Rattle.grasp_node_main.specs.declared.want_plan.WantPlan.{WantPlan}
use Rattle.grasp_pool.specs.Holdings.{Holding}
use Rattle.grasp_pool.specs.Pools.{room_of}
use Rattle.grasp_types.specs.declared.reply.ApiAnswer.{ApiAnswer}
use Rattle.grasp_types.specs.declared.reply.ApiAnswer.TheVariants as answer
use Rattle.grasp_types.specs.declared.reply.Reply.{Reply}
use Rattle.grasp_types.specs.declared.reply.Reply.TheVariants as reply
use Rattle.grasp_types.specs.declared.session.Progress.{Progress}
use Rattle.grasp_types.specs.declared.session.Progress.TheVariants as progress
use Rattle.grasp_types.specs.declared.traffic.Input.{Input}
use Rattle.grasp_types.specs.declared.traffic.Input.TheVariants as input
use Rattle.grasp_crew.specs.Nudges.{Wanted, wanted_of, Nudge, still, wanted, again}
use Rattle.grasp_crew.specs.Trying.{untried, ripe_place, given, tried, dropped, is_open}
use Rattle.grasp_crew.specs.declared.trying.Pace.{Pace}
use Rattle.grasp_crew.specs.declared.trying.Trying.{Trying}

-- the agent; its wants, and beside each how it was tried; the place of the want that was given last; how many replies in a row were quiet;
-- and how wants are tried again
pub record StewardState : Type 0 where
  pub agent : AgentState
  pub wants : List Wanted
  pub tries : List Trying
  pub asking : ℕ
  pub quiet : ℕ
  pub pace : Pace

-- this agent, none of whose wants was given
abbrev pub steward_of : AgentState → List WantPlan → Pace → StewardState
steward_of agent wants pace = record { agent = agent; wants = map wanted_of wants; tries = map (λ w. untried pace) wants; asking = 0; quiet = 0; pace = pace }

-- an agent that has made no call, and none of whose wants was given
abbrev pub first_steward : Holding → List WantPlan → Pace → StewardState
first_steward pool wants pace = steward_of (first_agent pool) wants pace

-- ---- what it is told

-- the agent takes a want: none is unfinished, and its pool has room
abbrev pub may_want : AgentState → Bool
may_want s = is_none s.want && nat_lt 0 (room_of s.pool)

abbrev pub nudge_at : ℕ → Option Wanted → Nudge
nudge_at place None = still
nudge_at place (Some w) = wanted place w

abbrev pub nudge_of_place : StewardState → Option ℕ → Nudge
nudge_of_place m None = still
nudge_of_place m (Some place) = nudge_at place (slice_get m.wants place)

-- at this reading it is told to want the first that may be given, where the agent takes a want
abbrev pub steward_nudge : ℕ → StewardState → Nudge
steward_nudge now m = if may_want m.agent then nudge_of_place m (ripe_place now m.tries) else still

-- the tries, where the one at this place is another
abbrev pub tries_with : (Trying → Trying) → List Trying → ℕ → List Trying
tries_with f ts place = by_entry (slice_get ts place) where
  by_entry : Option Trying → List Trying
  by_entry None = ts
  by_entry (Some t) = slice_set ts place (f t)

abbrev pub steward_told : StewardState → Nudge → StewardState
steward_told m still = m
steward_told m (wanted place w) = record m {
  agent = after_want m.agent w.length w.longest w.peer (want_reply m.agent);
  tries = tries_with given m.tries place;
  asking = place;
  quiet = 0;
}
steward_told m again = m

-- ---- its calls

-- a call is due until a whole circle of duties told nothing
abbrev pub steward_due : StewardState → Bool
steward_due m = nat_lt m.quiet (duties m.agent)

abbrev pub steward_call : StewardState → Input
steward_call m = input.Api m.agent.asa (next_call m.agent)

-- the reply tells nothing new
abbrev pub is_quiet : Reply → Bool
is_quiet (reply.Api answer.NotYet) = true
is_quiet (reply.Api (answer.Polled progress.NotYet)) = true
is_quiet _ = false

-- a want that was unfinished before a reply, and isn't afterwards, has ended: it is the one that was given last
abbrev pub tries_after : ℕ → StewardState → AgentState → List Trying
tries_after now m a = if is_some m.agent.want && is_none a.want then tries_with (tried now m.pace a.last) m.tries m.asking else m.tries

abbrev pub steward_with : ℕ → StewardState → Reply → AgentState → StewardState
steward_with now m r a = record m { agent = a; tries = tries_after now m a; quiet = if is_quiet r then one_more m.quiet else 0 }

-- after the reply to its call, at this reading
unfoldable pub steward_after : ℕ → StewardState → Reply → StewardState
steward_after now m r = steward_with now m r (after_reply m.agent r)

-- something came, so that its duties may tell something
abbrev pub steward_woken : StewardState → StewardState
steward_woken m = record m { quiet = 0 }

-- the want at this place is being asked for
abbrev pub is_asked : StewardState → ℕ → Bool
is_asked m place = is_some m.agent.want && m.asking == place

-- ---- orders from beside

-- one more want, which may be given at once
abbrev pub with_want : StewardState → Wanted → StewardState
with_want m w = record m { wants = m.wants ++ w ∷ []; tries = m.tries ++ untried m.pace ∷ [] }

-- the want at this place is taken back; where its session lives, that goes on
abbrev pub without_want : StewardState → ℕ → StewardState
without_want m place = record m { tries = tries_with dropped m.tries place }
