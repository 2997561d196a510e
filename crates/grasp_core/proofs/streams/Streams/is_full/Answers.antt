use Rattle.std.proofs.Common.{◌≡◌, ◌∙◌, ap, ℕ, length, rules}
use Rattle.std.specs.Prelude.{nat_le}
use Rattle.grasp_core.proofs.StreamRecords.{zip_length}
use Rattle.grasp_core.proofs.streams.Streams.is_full.Goals as goal

pub returns : goal.returns
returns c s h =
    let count : c.len.result ≡ length c.args.self.now.held.items = search rules in
    ap (λ (k : ℕ). nat_le 64 k) (count ∙ zip_length c.args.self.now.limit c.args.self.now.held.items s.records h.held)
