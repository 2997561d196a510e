use Rattle.std.proofs.Common.{◌≡◌, sym, ◌∙◌, subst, Some}
use mathlib.Core.Option.{some-injective}
use Rattle.grasp_shared.specs.Calls.{LedTo}
use Rattle.grasp_shared.specs.Passes.{IsAlone}
use Rattle.grasp_core.specs.declared.node_core.NodeCore.{NodeCore}
use Rattle.grasp_shared.proofs.Keeps.{closes}
use Rattle.grasp_shared.proofs.shared.Shared.close.Goals as goal

pub returns : goal.returns
returns c =
    let r = c.args.root in
    let a : IsAlone r.seat.me.0 = record { live = r.idle.1; number = r.is_root.0; out = r.is_root.1 ∙ c.requires.none; turn = r.idle.2 } in
    let t = closes LedTo (Some c.args.self.table.shared.key.value) _ _ _ _ a c.close_with-closed.ensures.values.2 in
    let same : c.take-core.result ≡ t.0 = some-injective _ _ (sym c.take-core.ensures.value ∙ t.1) in
    (subst (λ (h : NodeCore). LedTo r.seat.me.0.opened r.seat.me.0.seen h) (sym same) t.2, t.3, t.4)
