use Rattle.grasp_record.proofs.LineLaws.{each_has_one}
use Rattle.grasp_record.proofs.laws.each_record_has_one_line.Goals as goal

pub returns : goal.returns
returns c = each_has_one
