use Rattle.grasp_core.proofs.Heard.{kept}
use Rattle.grasp_core.proofs.node_core.NodeCore.later.Goals as goal

pub returns-in-Kept-clause-ok : goal.returns-in-Kept-clause-ok
returns-in-Kept-clause-ok c = λ n h. kept c.args.self.now c.receive.new.self c.args.stream c.args.message c.goes_on.result c.in-Kept.ensures.receives c.goes_on.ensures n h
