-- What the desk of a node tells of what came and what visitors were told.
use Rattle.std.specs.Prelude.{◌≡◌, ◌⊎◌, ◌≤◌, ◌<◌, ℕ, Bool, true, false, List, [], ◌∷◌, length, Option}
use Rattle.grasp_desk.specs.Desk.{IsNext, Tells}
use Rattle.grasp_desk.specs.declared.desk.Desk.{Ghosts}
use Rattle.grasp_desk.specs.declared.desk.DeskPlan.{DeskPlan}
use Rattle.grasp_desk.specs.declared.desk.Told.{Told}
use Rattle.grasp_desk.specs.declared.desk.Visiting.{Visiting}
use Rattle.grasp_desk.specs.declared.desk.Visiting.TheVariants.{Came, Line, Left, Nothing, OutOfMemory}
use Rattle.grasp_io.specs.Memory.{one_more}
use Rattle.grasp_io.specs.Told.{Stays, Grows}

-- what a desk tells: whether it is open, the plans that it was opened with, how often it was asked, what came and the lines told so far, how many
-- visitors came, and how often it failed
pub record DeskTold : Type 0 where
  pub is_open : Bool
  pub plans : Option (List DeskPlan)
  pub asks : ℕ
  pub given : Option (List Visiting)
  pub told : Option (List Told)
  pub came : ℕ
  pub faults : ℕ

-- what this desk tells
abbrev pub desk_told : {D : Type 0} → Ghosts D → D → DeskTold
desk_told ghosts d = record {
  is_open = ghosts.is_open d;
  plans = ghosts.plans d;
  asks = ghosts.asks d;
  given = ghosts.given d;
  told = ghosts.told d;
  came = ghosts.came d;
  faults = ghosts.faults d;
}

-- ---- what came

-- Inside: something came
abbrev pub is_visit : Visiting → Bool
is_visit (Came visitor guest) = true
is_visit (Line visitor line) = true
is_visit (Left visitor) = true
is_visit Nothing = false
is_visit OutOfMemory = false

-- the desk wasn't asked, and nothing was told
pub record DeskRests (old new : DeskTold) : Type 0 where
  pub is_open : new.is_open ≡ old.is_open
  pub plans : Stays old.plans new.plans
  pub asks : new.asks ≡ old.asks
  pub given : Stays old.given new.given
  pub told : Stays old.told new.told
  pub came : new.came ≡ old.came
  pub faults : old.faults ≤ new.faults

-- the desk was asked once, and nothing came
pub record AsksInVain (old new : DeskTold) : Type 0 where
  pub is_open : new.is_open ≡ old.is_open
  pub plans : Stays old.plans new.plans
  pub asks : new.asks ≡ one_more old.asks
  pub given : Stays old.given new.given
  pub told : Stays old.told new.told
  pub came : new.came ≡ old.came
  pub faults : old.faults ≤ new.faults

-- it was asked once, and this came
pub record VisitsOnce (old : DeskTold) (v : Visiting) (new : DeskTold) : Type 0 where
  pub is_open : new.is_open ≡ old.is_open
  pub plans : Stays old.plans new.plans
  pub asks : new.asks ≡ one_more old.asks
  pub given : Grows old.given new.given v
  pub told : Stays old.told new.told
  pub next : IsNext old.came new.came v
  pub faults : old.faults ≤ new.faults

-- these came, one after the other, and the desk wasn't asked besides
abbrev pub VisitsAll : DeskTold → List Visiting → DeskTold → Type 0
VisitsAll old [] new = DeskRests old new
VisitsAll old (v ∷ vs) new = (middle : DeskTold) × VisitsOnce old v middle × VisitsAll middle vs new

-- the desk was asked until nothing came, and so often at most: these came, one after the other
pub record VisitsUntil (most : ℕ) (old : DeskTold) (vs : List Visiting) (new : DeskTold) : Type 0 where
  pub middle : DeskTold
  pub came : VisitsAll old vs middle
  pub ends : ((length vs < most) × AsksInVain middle new) ⊎ ((length vs ≡ most) × (new ≡ middle))

-- ---- what was told

-- these lines were told, one after the other; one that wasn't made the count of faults rise
abbrev pub TellsAll : Option (List Told) → ℕ → List Told → Option (List Told) → ℕ → Type 0
TellsAll old before [] new now = Stays old new × (before ≤ now)
TellsAll old before (line ∷ lines) new now = (middle : Option (List Told)) × (count : ℕ) × Tells old middle line before count ×
    (before ≤ count) × TellsAll middle count lines new now

-- the desk was handed these lines, and nothing else happened to it
pub record TellsOnly (old : DeskTold) (lines : List Told) (new : DeskTold) : Type 0 where
  pub is_open : new.is_open ≡ old.is_open
  pub plans : Stays old.plans new.plans
  pub given : Stays old.given new.given
  pub asks : new.asks ≡ old.asks
  pub told : TellsAll old.told old.faults lines new.told new.faults
  pub came : new.came ≡ old.came
