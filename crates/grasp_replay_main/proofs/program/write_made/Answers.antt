use Rattle.std.proofs.Common.{arith}
use Rattle.grasp_cbor.proofs.HeadBytes.{AllBytes-from}
use Rattle.grasp_replay_main.specs.declared.task.Task.TheVariants.{Show, Pack}
use Rattle.grasp_replay_main.proofs.Tasks.{written_whole}
use Rattle.grasp_replay_main.proofs.program.write_made.Goals as goal

pub returns-in-Show-clause-whole : goal.returns-in-Show-clause-whole
returns-in-Show-clause-whole g c =
    written_whole c.audits_agree.ensures _ c.args.task Show 2048 c.args.input.now _ _ c.show.result (omega arith) (AllBytes-from c.args.input.now (λ i. omega (arith, c.type_inv.input i))) c.in-Show.is (λ o s made. made) c.show.ensures.done

pub returns-in-Pack-clause-whole : goal.returns-in-Pack-clause-whole
returns-in-Pack-clause-whole g c =
    written_whole c.audits_agree.ensures _ c.args.task Pack 2048 c.args.input.now _ _ c.pack.result (omega arith) (AllBytes-from c.args.input.now (λ i. omega (arith, c.type_inv.input i))) c.in-Pack.is (λ o s made. made) c.pack.ensures.done
