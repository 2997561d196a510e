use Rattle.std.proofs.Common.{rules, ◌≡◌}
use Rattle.std.specs.Prelude.{codes}
use Rattle.grasp_audit.proofs.Cutting.{starts}
use Rattle.grasp_audit.proofs.split.is_start.Goals as goal

pub returns : goal.returns
returns c =
    let text : c.as_slice.result.now ≡ codes "start" = search rules in
    starts c.args.line.now c.as_slice.result.now c.are_same.result text c.are_same.ensures
