use Rattle.std.proofs.Common.{sym}
use Rattle.grasp_node_main.proofs.Lining.{end_noted, end_missing}
use Rattle.grasp_node_main.proofs.lines.end_at.Goals as goal

pub returns-in-Some : goal.returns-in-Some
returns-in-Some c = sym (end_noted c.args.ends.now c.args.place c.in-Some.end (sym c.in-Some.ensures))

pub returns-in-None : goal.returns-in-None
returns-in-None c = sym (end_missing c.args.ends.now c.args.place (sym c.in-None.ensures))
