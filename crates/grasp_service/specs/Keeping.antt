-- What is kept of the agent of prefixes around its calls.
use Rattle.std.specs.Prelude.{List, [], ◌∷◌, Option, None, Some}
use Rattle.grasp_crew.specs.declared.servant.Servant.{Servant}
use Rattle.grasp_crew.specs.declared.servant.Servant.TheVariants.{Steward, Herald, Listener}
use Rattle.grasp_disk.specs.Calls.{DiskLog}
use Rattle.grasp_shelf.specs.Shelves.{Asking, ahead, behind, kept_before, kept_behind}

-- the disk once it was asked before the next call of an agent: the agent of prefixes alone has something to keep
abbrev pub kept_ahead : Servant → DiskLog → DiskLog
kept_ahead (Steward m) = kept_before m.agent
kept_ahead (Herald h) = λ log. log
kept_ahead (Listener l) = λ log. log

-- the disk once it was asked behind a call of an agent, which is so then
abbrev pub kept_after : Servant → DiskLog → DiskLog
kept_after (Steward m) = kept_behind m.agent
kept_after (Herald h) = λ log. log
kept_after (Listener l) = λ log. log

-- the disk once it was asked behind the opening calls of the agents, of which the first manages prefixes
abbrev pub kept_opening : List Servant → DiskLog → DiskLog
kept_opening [] = λ log. log
kept_opening (m ∷ ms) = kept_after m

-- what the store is asked before the next call of an agent, behind a call, and behind the opening calls
abbrev pub ahead_of : Servant → Option Asking
ahead_of (Steward m) = Some (ahead m.agent)
ahead_of (Herald h) = None
ahead_of (Listener l) = None

abbrev pub behind_of : Servant → Option Asking
behind_of (Steward m) = Some (behind m.agent)
behind_of (Herald h) = None
behind_of (Listener l) = None

abbrev pub opening_of : List Servant → Option Asking
opening_of [] = None
opening_of (m ∷ ms) = behind_of m

-- two lists side by side: what each of the one with its answer of the other makes of a thing, one after the other
module _ {A B C : Type 0} where
  abbrev pub each_then : (A → B → C → C) → List A → List B → C → C
  each_then f [] ys c = c
  each_then f (x ∷ xs) [] c = c
  each_then f (x ∷ xs) (y ∷ ys) c = each_then f xs ys (f x y c)
