use Rattle.std.proofs.Common.{arith}
use Rattle.grasp_agent.proofs.Reading.{prefix_of}
use Rattle.grasp_doubter.proofs.question.prefix_of.Goals as goal

pub returns : goal.returns
returns c = prefix_of c.args.length c.args.address c.of.result c.requires.least c.requires.most (omega arith) c.of.ensures.some c.of.ensures.valid c.of.ensures.none
