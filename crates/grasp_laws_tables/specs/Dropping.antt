-- A list from which some elements have gone.
use Rattle.std.specs.Prelude.{List, All, Contains}
use Rattle.grasp_flood.specs.Laws.{IsPartOf}

-- those of which this holds have gone, every other is there, and they are in the same order
pub record HasDropped {X : Type 0} (Gone : X → Type 0) (before after : List X) : Type 0 where
  pub gone : All (λ x. ¬ Gone x) after
  pub others : All (λ x. ¬ Gone x → Contains after x) before
  pub order : IsPartOf after before
