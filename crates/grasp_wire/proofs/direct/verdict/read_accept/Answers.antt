use Rattle.std.proofs.Common.{[], refl, arith}
use Rattle.grasp_wire.proofs.Straight.{kind_ends}
use Rattle.grasp_wire.proofs.direct.verdict.read_accept.Goals as goal

pub returns-clause-ends : goal.returns-clause-ends
returns-clause-ends c = kind_ends 101 [] c.args.count c.args.bytes.now c.args.bytes.now (omega arith) refl
