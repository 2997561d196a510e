use Rattle.std.proofs.Common.{rules}
use Rattle.std.proofs.lemmas.Fn.{filter_same}
use Rattle.grasp_doubter.specs.Seeing.{is_set_aside}
use Rattle.grasp_doubter.specs.declared.seen.Sent.{Sent}
use Rattle.grasp_doubter.proofs.seen.keep_set_aside.Goals as goal

pub returns-clause-kept : goal.returns-clause-kept
returns-clause-kept c = filter_same _ (λ (x : Sent). is_set_aside c.args.pool.now x.prefix) _ (λ x b f' k. search rules) _ _ c.retain.ensures.filtered
