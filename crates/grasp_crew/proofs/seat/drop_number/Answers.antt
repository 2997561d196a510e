use Rattle.std.proofs.Common.{rules}
use Rattle.std.specs.Prelude.{◌==◌, not}
use Rattle.std.proofs.lemmas.Fn.{filter_same}
use Rattle.grasp_types.specs.declared.session.Handle.{Handle}
use Rattle.grasp_crew.proofs.seat.drop_number.Goals as goal

pub returns : goal.returns
returns c = filter_same _ (λ (h : Handle). not (h.number == c.args.number)) _ (λ x b f' k. search rules) _ _ c.retain.ensures.filtered
