use Rattle.std.proofs.Common.{rules}
use Rattle.std.proofs.lemmas.Fn.{filter_same}
use Rattle.grasp_crew.specs.Seats.{stays}
use Rattle.grasp_service.proofs.round.keep_staying.Goals as goal

pub returns : goal.returns
returns c = filter_same _ stays _ (λ x b f' k. search rules) _ _ c.retain.ensures.filtered
