use Rattle.std.proofs.Common.{rules}
use Rattle.std.proofs.lemmas.Fn.{filter_same}
use Rattle.grasp_agent.specs.Reopening.{retired}
use Rattle.grasp_simulator.specs.Restarts.{stays_noted}
use Rattle.grasp_simulator.proofs.notes.Notes.end_life.Goals as goal

pub returns-clause-offers : goal.returns-clause-offers
returns-clause-offers c = filter_same _ (stays_noted c.args.node (retired c.args.agent.now).pool) _ (λ x b f' k. search rules) _ _ c.retain.ensures.filtered
