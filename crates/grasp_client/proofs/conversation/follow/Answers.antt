use Rattle.std.proofs.Common.{[], ◌∷◌, ◌++◌, arith}
use Rattle.grasp_client.proofs.Copying.{copies_more}
use Rattle.grasp_client.proofs.conversation.follow.Goals as goal

pub loop-preserved : goal.loop-preserved
loop-preserved g c =
    let (told, copied, node_falls, out_falls) = c.loop.invariant in
    let line = c.in-Ok.field-0.items in (
      told ++ line ∷ [],
      copies_more _ _ _ _ _ _ told (line ∷ []) copied c.in-Ok.ensures.copied,
      omega (arith, node_falls, c.copy_line.ensures.node_faults),
      omega (arith, out_falls, c.copy_line.ensures.out_faults),
    )
