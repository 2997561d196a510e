use Rattle.std.proofs.Common.{◌+◌}
use Rattle.grasp_script.proofs.Splitting.{behind_line}
use Rattle.grasp_script.proofs.split.first_line.Goals as goal

pub returns-in-Some-clause-behind : goal.returns-in-Some-clause-behind
returns-in-Some-clause-behind c = behind_line c.args.text.now (c.in-Some.at + 1)
