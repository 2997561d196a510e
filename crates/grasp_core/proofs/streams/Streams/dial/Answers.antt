use Rattle.std.proofs.Common.{◌∙◌, ap, refl, ℕ, ◌+◌, ◌*◌, Some, None}
use Rattle.grasp_wire.specs.Cutter.{no_past}
use Rattle.grasp_model_node.specs.Streams.{next_stream}
use Rattle.grasp_core.proofs.StreamRecords.{one_more}
use Rattle.grasp_core.proofs.streams.Streams.dial.Goals as goal

pub returns-clause-ok : goal.returns-clause-ok
returns-clause-ok c s h =
    one_more c.args.self.now (record c.push.new.self { dialled = c.push.new.self.dialled + 1 }) s (record { number = 2 * c.args.self.now.dialled; from = None; cutter = Some c.new-cutter.result }) (record { number = next_stream s; from = None; past = Some no_past }) (s.dialled + 1) h c.in_ok-push.ensures.ok c.push.ensures.limit (ap (λ (k : ℕ). k + 1) (c.push.ensures.dialled ∙ h.dialled))
    (record { number = ap (λ (k : ℕ). 2 * k) h.dialled; from = refl; cuts = record { stands = c.new-cutter.ensures.stands; limit_is = c.new-cutter.ensures.limit ∙ c.bytes.ensures.is; no_fault = refl } })
