use Rattle.std.proofs.Common.{[], ◌∷◌}
use Rattle.std.specs.Prelude.{decimal}
use Rattle.grasp_service_visits.proofs.Shown.{shows_through}
use Rattle.grasp_service_visits.proofs.words.push_counter.Goals as goal

pub returns : goal.returns
returns c = shows_through c.push_count.result _ _ (c.args.name.now ∷ decimal c.args.count ∷ []) c.push_count.ensures.text
