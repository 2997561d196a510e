use Rattle.std.proofs.Common.{rules}
use Rattle.std.specs.Prelude.{not}
use Rattle.std.proofs.lemmas.Fn.{filter_same}
use Rattle.grasp_doubter.specs.States.{is_session}
use Rattle.grasp_doubter.specs.declared.seen.Opener.{Opener}
use Rattle.grasp_doubter.proofs.seen.drop_opener.Goals as goal

pub returns-clause-dropped : goal.returns-clause-dropped
returns-clause-dropped c = filter_same _ (λ (x : Opener). not (is_session x.handle c.args.handle)) _ (λ x b f' k. search rules) _ _ c.retain.ensures.filtered
