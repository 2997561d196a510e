use Rattle.std.proofs.Common.{rules}
use Rattle.std.specs.Prelude.{not}
use Rattle.std.proofs.lemmas.Fn.{filter_same}
use Rattle.grasp_doubter.specs.States.{is_prefix}
use Rattle.grasp_doubter.specs.declared.seen.Sent.{Sent}
use Rattle.grasp_doubter.proofs.seen.drop_sent.Goals as goal

pub returns-clause-dropped : goal.returns-clause-dropped
returns-clause-dropped c = filter_same _ (λ (x : Sent). not (is_prefix x.prefix c.args.prefix)) _ (λ x b f' k. search rules) _ _ c.retain.ensures.filtered
