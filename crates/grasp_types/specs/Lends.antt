-- What a list ends as, where a `&mut` to one of its values is returned.
use Rattle.std.specs.Prelude.{ℕ, List, Option, slice_set}
use Rattle.std.specs.Borrow.{LendsIf, Fml, RattleType, MutBor}
use Rattle.grasp_types.specs.contracts.list.List as list
use Rattle.grasp_types.specs.contracts.non_empty.NonEmpty as non_empty

module _ (T : RattleType) (v : MutBor (List T.Denot)) where
  -- once the borrow r ends, the place i has the last value written through r
  abbrev pub lends_at : ℕ → Option (MutBor T.Denot) → Fml
  lends_at i r = LendsIf (list.the_row T) T v r (slice_set v.now i) v.now

  -- once the borrow r ends, the place i of a list that is not empty has the last value written through r
  abbrev pub lends_of_some : ℕ → Option (MutBor T.Denot) → Fml
  lends_of_some i r = LendsIf (non_empty.the_row T) T v r (slice_set v.now i) v.now
