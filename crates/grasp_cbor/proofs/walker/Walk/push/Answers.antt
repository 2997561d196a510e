use Rattle.std.proofs.Common.{◌<◌, length, sym, ap, arith}
use Rattle.grasp_cbor.specs.declared.walker.Stage.TheVariants.{Beginning}
use Rattle.grasp_cbor.specs.Step.{goes}
use Rattle.grasp_cbor.proofs.Levels.{levels_in_more}
use Rattle.grasp_cbor.proofs.walker.Walk.push.Goals as goal

pub returns-clause-made : goal.returns-clause-made
returns-clause-made c =
    let len : c.args.self.now.depth < length c.args.self.now.levels = omega arith in
    ap (λ z. goes z c.args.self.now.string Beginning) (sym (levels_in_more c.args.self.now.depth c.args.self.now.levels c.args.level len))
