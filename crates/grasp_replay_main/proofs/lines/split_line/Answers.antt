use Rattle.grasp_script.proofs.Splitting.{line_before, one_line}
use Rattle.grasp_replay_main.proofs.Counting.{has_bytes}
use Rattle.grasp_replay_main.proofs.lines.split_line.Goals as goal

pub returns-in-Some-clause-first : goal.returns-in-Some-clause-first
returns-in-Some-clause-first c = line_before c.args.text.now c.in-Some.end (rw c.in-Some.is at c.memchr.ensures)

pub returns-in-None-clause-first : goal.returns-in-None-clause-first
returns-in-None-clause-first c = one_line c.args.text.now (rw c.in-None.is at c.memchr.ensures) (has_bytes c.args.text.now c.requires)
