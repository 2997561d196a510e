-- A desk in memory, as contracts see it. Askings are numbered from 1, and so are the lines that it is handed.
use Rattle.std.specs.Prelude.{◌≡◌, ℕ, ◌+◌, ◌^◌, ◌-◌, ◌==◌, ◌&&◌, nat_lt, nat_le, if◌then◌else◌, Bool, false, true, List, map, take, Option, None, Some, slice_get, ⊤}
use Rattle.grasp_io.specs.Memory.{one_more}
use Rattle.grasp_desk.specs.declared.desk.DeskPlan.{DeskPlan}
use Rattle.grasp_desk.specs.declared.desk.Told.{Told}
use Rattle.grasp_desk.specs.declared.desk.Visiting.{Visiting}
use Rattle.grasp_desk.specs.declared.desk.Visiting.TheVariants.{Came, Line, Left, Nothing, OutOfMemory}
use Rattle.grasp_desk.specs.declared.memory_desk.Visit.{Visit}

-- what comes and how much of it was given, the numbers of the lines that aren't told, whether opening fails, with which plans it was opened, the lines told, how often it was asked and handed a line, and how many visitors and faults there were
pub record DeskState : Type 0 where
  pub visits : List Visit
  pub next : ℕ
  pub failing : List ℕ
  pub refuses : Bool
  pub plans : List DeskPlan
  pub told : List Told
  pub asks : ℕ
  pub tells : ℕ
  pub came : ℕ
  pub faults : ℕ

-- what these visits give
abbrev pub visitings_of : List Visit → List Visiting
visitings_of visits = map (λ v. v.visiting) visits

-- what came so far
abbrev pub given_of : DeskState → List Visiting
given_of desk = visitings_of (take desk.next desk.visits)

-- a desk can give it after so many visitors: a visitor that comes has the next number
abbrev pub can_come : ℕ → Visiting → Bool
can_come came (Came visitor guest) = nat_lt came (2 ^ 64 - 1) && visitor == came + 1
can_come came (Line visitor line) = true
can_come came (Left visitor) = true
can_come came Nothing = false
can_come came OutOfMemory = false

-- what a visit gives to the asking of this number
abbrev pub given_at : ℕ → ℕ → Option Visit → Option Visiting
given_at number came None = None
given_at number came (Some visit) = if nat_le visit.asking number && can_come came visit.visiting then Some visit.visiting else None

-- what the next asking is to give
abbrev pub comes : DeskState → Option Visiting
comes desk = given_at (one_more desk.asks) desk.came (slice_get desk.visits desk.next)

-- the answer to an asking that is to give this, but for want of memory
abbrev pub IsAsked : Option Visiting → Visiting → Type 0
IsAsked wanted (Came visitor guest) = wanted ≡ Some (Came visitor guest)
IsAsked wanted (Line visitor line) = wanted ≡ Some (Line visitor line)
IsAsked wanted (Left visitor) = wanted ≡ Some (Left visitor)
IsAsked wanted Nothing = wanted ≡ None
IsAsked wanted OutOfMemory = ⊤
