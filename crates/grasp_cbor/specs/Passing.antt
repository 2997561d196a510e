-- Inside: how the walker passes over bytes behind which an item goes on.
use Rattle.std.specs.Prelude.{◌≡◌, ℕ, Bool, true, false, List, [], ◌∷◌}
use Rattle.grasp_cbor.specs.declared.walker.Walk.{Walk}
use Rattle.grasp_cbor.specs.Step.{Move, goes, whole, bad, step}
use Rattle.grasp_cbor.specs.Walking.{open_levels}

-- what the bytes make, one by one, up to the end of an item or a bad one
abbrev pub run : Move → List ℕ → Move
run (goes levels string stage) [] = goes levels string stage
run (goes levels string stage) (b ∷ bs) = run (step levels string stage b) bs
run whole bs = whole
run (bad name) bs = bad name

-- where the walker stands
abbrev pub stand_of : Walk → Move
stand_of w = goes (open_levels w) w.string w.stage

-- the bytes take the walker from here to there
abbrev pub Passed : Walk → Walk → List ℕ → Type 0
Passed old new bytes = run (stand_of old) bytes ≡ stand_of new

-- the walker made this move, or stands where it stood before
abbrev pub Moves : Walk → Walk → Bool → Move → Type 0
Moves old new true move = move ≡ stand_of new
Moves old new false move = stand_of old ≡ stand_of new
