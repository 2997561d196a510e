use Rattle.std.proofs.Common.{◌∙◌, refl, Some}
use Rattle.std.proofs.lemmas.Result.{on_ok_weaker}
use Rattle.grasp_wire.specs.Cutter.{no_past}
use Rattle.grasp_core.proofs.StreamRecords.{one_more}
use Rattle.grasp_core.proofs.streams.Streams.open.Goals as goal

pub returns-clause-ok : goal.returns-clause-ok
returns-clause-ok c =
    on_ok_weaker c.push.result
    (λ items s h. one_more c.args.self.now c.push.new.self s (record { number = c.args.stream; from = Some c.args.from; cutter = Some c.new-cutter.result }) (record { number = c.args.stream; from = Some c.args.from; past = Some no_past }) s.dialled h items c.push.ensures.limit (c.push.ensures.dialled ∙ h.dialled)
    (record { number = refl; from = refl; cuts = record { stands = c.new-cutter.ensures.stands; limit_is = c.new-cutter.ensures.limit ∙ c.bytes.ensures.is; no_fault = refl } }))
    c.push.ensures.ok
