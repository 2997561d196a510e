use Rattle.grasp_record.proofs.LineLaws.{lines_mean_one_thing}
use Rattle.grasp_record.proofs.laws.record_lines_mean_one_thing.Goals as goal

pub returns : goal.returns
returns c = lines_mean_one_thing
