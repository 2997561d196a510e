use Rattle.std.proofs.Common.{refl}
use Rattle.grasp_node_main.proofs.Passing.{split_one}
use Rattle.grasp_node_main.proofs.passes.split_one.Goals as goal

pub returns : goal.returns
returns c =
    let e = c.split.ensures in
    split_one c.args.shared.now c.args.root.now c.split.new.root c.args.seat.now _ c.split.result e.own.0 e.own.1 e.root.0 e.root.1 e.pass refl refl refl
