-- What the walker's calls answer.
use Rattle.std.specs.Prelude.{◌≡◌, ℕ, ◌+◌, ◌<◌, List, [], ◌∷◌, ◌++◌, length, None, Result, Ok, Err}
use Rattle.grasp_cbor.specs.declared.walker.FaultName.{FaultName}
use Rattle.grasp_cbor.specs.declared.walker.WalkFault.{WalkFault}
use Rattle.grasp_cbor.specs.declared.walker.WalkFault.TheVariants.{Bad, TooLong}
use Rattle.grasp_cbor.specs.declared.walker.Taken.{Taken}
use Rattle.grasp_cbor.specs.declared.walker.Taken.TheVariants.{More, Whole}
use Rattle.grasp_cbor.specs.declared.walker.Level.{Level}
use Rattle.grasp_cbor.specs.declared.walker.Stage.TheVariants.{Beginning}
use Rattle.grasp_cbor.specs.declared.walker.Walk.{Walk}
use Rattle.grasp_cbor.specs.CanGoOn.{IsItem, CanGoOnWithin}
use Rattle.grasp_cbor.specs.Front.{Spot}
use Rattle.grasp_cbor.specs.FaultAt.{FaultAt}
use Rattle.grasp_cbor.specs.Step.{Move, goes, whole, bad, levels_in}
use Rattle.grasp_cbor.specs.Stands.{StandsAt}

-- the greatest length of an item
abbrev pub limit_of : Walk → ℕ
limit_of w = w.limit

-- how many bytes it has taken since the last whole item
abbrev pub count_of : Walk → ℕ
count_of w = w.taken

-- what each open level still waits for, the innermost first
abbrev pub open_levels : Walk → List Level
open_levels w = levels_in w.depth w.levels

-- the walker has taken these bytes since the last whole item
pub record Took (w : Walk) (s : List ℕ) : Type 0 where
  pub spot : Spot
  pub at : StandsAt (open_levels w) w.string w.stage s spot
  pub taken : w.taken ≡ length s
  pub below : w.taken < w.limit

-- Inside: what a step made of the walker
abbrev pub Made : Walk → Result Taken FaultName → Move → Type 0
Made new (Ok More) move = move ≡ goes (open_levels new) new.string new.stage
Made new (Ok Whole) move = (move ≡ whole) × (new.depth ≡ 0) × (new.string ≡ None) × (new.stage ≡ Beginning)
Made new (Err name) move = move ≡ bad name

-- Inside: what a byte makes of these
abbrev pub Answers : Walk → Walk → List ℕ → ℕ → Result Taken WalkFault → Type 0
Answers old new s byte (Ok More) = CanGoOnWithin 16 (s ++ byte ∷ []) × Took new (s ++ byte ∷ [])
Answers old new s byte (Ok Whole) = IsItem 16 (s ++ byte ∷ []) × Took new []
Answers old new s byte (Err (Bad name at)) = FaultAt (s ++ byte ∷ []) at name × (at ≡ length s) × (new.taken ≡ length s + 1)
Answers old new s byte (Err TooLong) = CanGoOnWithin 16 (s ++ byte ∷ []) × (old.limit ≡ length s + 1) × (new.taken ≡ length s + 1)
