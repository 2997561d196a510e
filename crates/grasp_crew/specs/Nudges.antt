-- What an agent of the crew is told before its call.
use Rattle.std.specs.Prelude.{ℕ}
use Rattle.grasp_types.specs.declared.address.Locator.{Locator}
use Rattle.grasp_node_main.specs.declared.want_plan.WantPlan.{WantPlan}

-- a want: the length that is asked for, the greatest length that is taken, and whom it asks
pub record Wanted : Type 0 where
  pub length : ℕ
  pub longest : ℕ
  pub peer : Locator

abbrev pub wanted_of : WantPlan → Wanted
wanted_of w = record { length = w.length; longest = w.longest; peer = w.peer }

-- nothing; to want this, which stands at this place of its wants; or to flood its value again
pub data Nudge : Type 0 where
  still : Nudge
  wanted : ℕ → Wanted → Nudge
  again : Nudge
