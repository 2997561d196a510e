use Rattle.grasp_core.proofs.TakenPieces.{puts_back}
use Rattle.grasp_core.proofs.node_core.NodeCore.put_back.Goals as goal

pub returns : goal.returns
returns c k h cuts = puts_back c.args.self.now k c.args.cutter c.put.new.self c.args.stream h cuts c.put.ensures.limit c.put.ensures.puts
