-- Counts that a thing outside tells, where it tells them. `None` tells nothing.
use Rattle.std.specs.Prelude.{◌≡◌, ℕ, Option, None, Some, ⊤}
use Rattle.grasp_io.specs.Memory.{one_more}

-- the count stays as it was
abbrev pub StaysAt : Option ℕ → Option ℕ → Type 0
StaysAt None new = ⊤
StaysAt (Some count) new = new ≡ Some count

-- the count grows by one, but not above the greatest 64-bit number
abbrev pub CountsOne : Option ℕ → Option ℕ → Type 0
CountsOne None new = ⊤
CountsOne (Some count) new = new ≡ Some (one_more count)
