use Rattle.std.proofs.lemmas.Bool.{le-leb, leb-true}
use Rattle.grasp_audit.proofs.ReadLines.{tells_in_time}
use Rattle.grasp_audit.proofs.reading.is_in_time.Goals as goal

pub returns : goal.returns
returns c =
    tells_in_time c.args.world.now c.args.line.now c.now.result c.node.result.now _ c.requires c.node.ensures c.now.ensures (leb-true c.now.result c.args.line.now.now, le-leb c.now.result c.args.line.now.now)
