use Rattle.std.proofs.Common.{rules, ◌≡◌}
use Rattle.grasp_script.specs.Reports.{report_words}
use Rattle.grasp_text.specs.Words.{spaced}
use Rattle.grasp_audit.proofs.Blanks.{reports}
use Rattle.grasp_audit.proofs.Comparing.{tells}
use Rattle.grasp_audit.proofs.told.tells_report.Goals as goal

pub returns : goal.returns
returns c =
    let told : c.as_bytes.result.now ≡ spaced (report_words c.args.report.now) = search rules in
    tells c.args.text.now c.as_bytes.result.now c.told_part.result.now (report_words c.args.report.now) c.are_same.result (reports c.args.report.now c.report_fits.ensures) told c.told_part.ensures c.are_same.ensures
