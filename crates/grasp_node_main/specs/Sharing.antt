-- Inside: agents with passes of their own, and how they come by them and give them back.
use Rattle.std.specs.Prelude.{◌≡◌, ◌≤◌, ◌<◌, ◌+◌, ◌-◌, ℕ, true, List, [], ◌∷◌, ◌++◌, length, take, slice_get, slice_index_or, Option, Some, None}
use Rattle.grasp_types.specs.declared.reply.Reply.{Reply}
use Rattle.grasp_types.specs.declared.traffic.Input.{Input}
use Rattle.grasp_shared.specs.Calls.{Kept, answered}
use Rattle.grasp_shared.specs.Handles.{IsPassOf, IsRootOf, view_of, root_view, out_of}
use Rattle.grasp_shared.specs.Passes.{Served, kept}
use Rattle.grasp_shared.specs.declared.shared.Pass.{Pass}
use Rattle.grasp_shared.specs.declared.shared.Root.{Root}
use Rattle.grasp_shared.specs.declared.shared.Shared.{Shared}
use Rattle.grasp_node_main.specs.Seats.{SeatStands}
use Rattle.grasp_node_main.specs.Workers.{answered as worker_after}
use Rattle.grasp_node_main.specs.declared.seated_agent.SeatedAgent.{SeatedAgent}
use Rattle.grasp_node_main.specs.declared.worker.Worker.{Worker}

-- the agent has a pass of this registry
pub record HasPass (shared : Shared) (s : SeatedAgent) : Type 0 where
  pub pass : Pass
  pub is : s.pass ≡ Some pass
  pub own : IsPassOf shared pass

-- each agent has one
abbrev pub AllHavePasses : Shared → List SeatedAgent → Type 0
AllHavePasses shared seats = (place : ℕ) (d : SeatedAgent) → place < length seats → HasPass shared (slice_index_or seats place d)

-- ---- turns

-- the agent had so many turns more, and stands with its pass's own calls; one that had stopped stays as it was
pub record SeatGoes (shared : Shared) (count : ℕ) (old new : SeatedAgent) : Type 0 where
  pub before : Pass
  pub was : old.pass ≡ Some before
  pub after : Pass
  pub is : new.pass ≡ Some after
  pub own : IsPassOf shared after
  pub number : (view_of after).number ≡ (view_of before).number
  pub stands : (w : Worker) (turns : ℕ) → SeatStands w (view_of before).mine turns old → SeatStands w (view_of after).mine (turns + count) new
  pub halts : old.stopped ≡ true → new ≡ old

-- each agent did
abbrev pub SeatsGo : Shared → ℕ → List SeatedAgent → List SeatedAgent → Type 0
SeatsGo shared count olds news = (length news ≡ length olds) × ((place : ℕ) (d : SeatedAgent) → place < length olds → SeatGoes shared count (slice_index_or olds place d) (slice_index_or news place d))

-- one call of the agent, which had not stopped before
pub record Called (shared : Shared) (i : Input) (old new : SeatedAgent) : Type 0 where
  pub before : Pass
  pub was : old.pass ≡ Some before
  pub after : Pass
  pub is : new.pass ≡ Some after
  pub own : IsPassOf shared after
  pub reply : Reply
  pub served : Served (view_of before) (view_of after) (answered 0 i reply)
  pub worker : new.worker ≡ worker_after old.worker reply
  pub stopped : new.stopped ≡ old.stopped

-- an agent that had made no call had so many turns, by a pass of this number, and stands with the pass's own calls
pub record Went (count number : ℕ) (old new : SeatedAgent) : Type 0 where
  pub pass : Pass
  pub is : new.pass ≡ Some pass
  pub number_is : (view_of pass).number ≡ number
  pub stands : (w : Worker) → SeatStands w [] 0 old → SeatStands w (view_of pass).mine count new

-- ---- passes given out

-- the agent, as it was, has a new pass of this number, which has made no call
pub record Given (shared : Shared) (number : ℕ) (old new : SeatedAgent) : Type 0 where
  pub pass : Pass
  pub is : new.pass ≡ Some pass
  pub own : IsPassOf shared pass
  pub number_is : (view_of pass).number ≡ number
  pub none : (view_of pass).mine ≡ []
  pub worker : new.worker ≡ old.worker
  pub stopped : new.stopped ≡ old.stopped

-- the root made so many passes more, and no call
pub record RootSplit (shared : Shared) (count : ℕ) (old new : Root) : Type 0 where
  pub own : IsRootOf shared new
  pub out : out_of new ≡ out_of old + count
  pub made : (root_view new).made ≡ (root_view old).made + count
  pub mine : (root_view new).mine ≡ (root_view old).mine
  pub opened : (root_view new).opened ≡ (root_view old).opened
  pub joined : (root_view new).joined ≡ (root_view old).joined

-- one agent was given a pass
pub record SplitsOne (shared : Shared) (old : Root) (s : SeatedAgent) (new : Root) (t : SeatedAgent) : Type 0 where
  pub root : RootSplit shared 1 old new
  pub given : Given shared (root_view old).made s t

-- the agents below a place were
pub record Splits (before : ℕ) (shared : Shared) (old : Root) (olds : List SeatedAgent) (new : Root) (news : List SeatedAgent) : Type 0 where
  pub root : RootSplit shared before old new
  pub same : length news ≡ length olds
  pub given : (place : ℕ) (s t : SeatedAgent) → place < before → slice_get olds place ≡ Some s → slice_get news place ≡ Some t → Given shared ((root_view old).made + place) s t
  pub waiting : (place : ℕ) → before ≤ place → slice_get news place ≡ slice_get olds place

-- ---- passes given back

-- the number and the calls of the agent's pass
abbrev pub keep_of : Option Pass → List Kept
keep_of None = []
keep_of (Some pass) = kept (view_of pass) ∷ []

-- those of all agents, in their order
abbrev pub keeps : List SeatedAgent → List Kept
keeps [] = []
keeps (s ∷ seats) = keep_of s.pass ++ keeps seats

-- the root took so many passes back, whose calls it keeps, and made no call
pub record RootJoined (shared : Shared) (count : ℕ) (old : Root) (more : List Kept) (new : Root) : Type 0 where
  pub own : IsRootOf shared new
  pub out : out_of new ≡ out_of old - count
  pub mine : (root_view new).mine ≡ (root_view old).mine
  pub opened : (root_view new).opened ≡ (root_view old).opened
  pub joined : (root_view new).joined ≡ (root_view old).joined ++ more

-- the agent is as it was, but for its pass
pub record IsLeft (old new : SeatedAgent) : Type 0 where
  pub worker : new.worker ≡ old.worker
  pub stopped : new.stopped ≡ old.stopped

-- one agent gave its pass back
pub record JoinsOne (shared : Shared) (old : Root) (s : SeatedAgent) (new : Root) (t : SeatedAgent) : Type 0 where
  pub root : RootJoined shared 1 old (keep_of s.pass) new
  pub left : IsLeft s t

-- the agents below a place did
pub record Joins (before : ℕ) (shared : Shared) (old : Root) (olds : List SeatedAgent) (new : Root) (news : List SeatedAgent) : Type 0 where
  pub root : RootJoined shared before old (keeps (take before olds)) new
  pub same : length news ≡ length olds
  pub left : (place : ℕ) (s t : SeatedAgent) → place < before → slice_get olds place ≡ Some s → slice_get news place ≡ Some t → IsLeft s t
  pub waiting : (place : ℕ) → before ≤ place → slice_get news place ≡ slice_get olds place
