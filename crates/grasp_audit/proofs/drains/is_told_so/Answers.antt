use Rattle.std.proofs.Common.{rules, ◌≡◌, ◌∙◌, ap}
use Rattle.grasp_record.specs.Records.{record_line}
use Rattle.grasp_audit.proofs.Comparing.{drains_tell}
use Rattle.grasp_audit.proofs.drains.is_told_so.Goals as goal

pub returns : goal.returns
returns c = λ outputs x fits same written.
    let own : c.as_bytes.result.now ≡ record_line c.args.line.now = search rules in
    drains_tell c.as_bytes.result.now c.args.text.now c.told_part.result.now c.told_part-2.result.now outputs c.are_same.result fits (own ∙ ap record_line same) c.told_part.ensures c.told_part-2.ensures c.are_same.ensures x written
