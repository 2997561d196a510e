use Rattle.grasp_runner.proofs.Ends.{sends_too_much}
use Rattle.grasp_runner.proofs.Summing.{has_nodes, is_counted}
use Rattle.grasp_runner.proofs.summary.count_in.Goals as goal

pub tell_counts-requires : goal.tell_counts-requires
tell_counts-requires c = has_nodes c.args.script.now c.count_lines.new.world c.in-Ok.tally c.plan.result.now c.in-Ok.ensures c.plan.ensures

pub returns-in-Ok-clause-counts : goal.returns-in-Ok-clause-counts
returns-in-Ok-clause-counts c =
    is_counted c.each_run_is_safe.ensures c.scripts_restart_nobody.ensures c.args.script.now c.count_lines.new.world c.in-Ok.tally c.tell_counts.result c.plan.result.now c.requires.read c.in-Ok.ensures c.tell_counts.ensures c.plan.ensures

pub returns-in-Err-TooMuch-clause-too_much : goal.returns-in-Err-TooMuch-clause-too_much
returns-in-Err-TooMuch-clause-too_much c = λ e. sends_too_much c.each_run_is_safe.ensures c.args.script.now c.requires.read (rw c.in-Err-TooMuch.field-0-is at c.in-Err-TooMuch.ensures)
