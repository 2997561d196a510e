-- Inside: how a task ends whose output was written whole.
use Rattle.std.specs.Prelude.{◌≡◌, ℕ, List}
use Rattle.grasp_replay_main.specs.Laws.{IsWholeInput}
use Rattle.grasp_replay_main.specs.Task.{IsTooLarge, Makes}
use Rattle.grasp_replay_main.specs.declared.exit.Status.{Status}
use Rattle.grasp_replay_main.specs.declared.exit.Status.TheVariants as status
use Rattle.grasp_replay_main.specs.declared.task.Task.{Task}

-- the input isn't too large, what the task makes of it ends so, and a whole input ends well
pub record IsMade (task : Task) (limit : ℕ) (ended : Status) (input : List ℕ) : Type 0 where
  pub small : ¬ IsTooLarge task input
  pub output : List ℕ
  pub makes : Makes task limit input output ended
  pub whole : IsWholeInput task limit input → ended ≡ status.Ok
