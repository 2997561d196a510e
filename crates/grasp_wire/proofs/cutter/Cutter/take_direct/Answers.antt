use Rattle.std.proofs.Common.{◌≡◌, ◌+◌, ◌-◌, [], take, drop, sym, ap, subst, ◌∙◌}
use Rattle.grasp_wire.specs.ReadOn.{IsReadTo}
use Rattle.grasp_wire.proofs.Finding.{none_taken}
use Rattle.grasp_wire.proofs.cutter.Cutter.take_direct.Goals as goal

pub invariant_of-self-clause-read : goal.invariant_of-self-clause-read
invariant_of-self-clause-read g c =
    let m = c.args.self.now in
    let next = m.start + c.args.used in
    let old : take (m.seen - m.start) (drop m.start m.held.items) ≡ [] = ap (λ n. take (n - m.start) (drop m.start m.held.items)) c.requires.fresh ∙ sym (none_taken m.start (drop m.start m.held.items)) in
    subst (λ s. ∥ IsReadTo m.fault m.whole m.reader m.limit s ∥₁) (old ∙ none_taken next (drop next m.held.items)) m.read
