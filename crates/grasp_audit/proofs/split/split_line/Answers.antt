use Rattle.grasp_audit.proofs.Cutting.{cut_here, no_cut}
use Rattle.grasp_audit.proofs.split.split_line.Goals as goal

pub returns-in-Some-clause-cut : goal.returns-in-Some-clause-cut
returns-in-Some-clause-cut c = cut_here c.args.text.now c.in-Some.end c.in-Some.ensures

pub returns-in-None-clause-first : goal.returns-in-None-clause-first
returns-in-None-clause-first c = no_cut c.args.text.now c.requires c.in-None.ensures
