use Rattle.std.proofs.Common.{List, [], ◌∷◌, ◌++◌, ◌≡◌, ap, sym, ◌∙◌, subst, Some}
use Rattle.atomic_table.specs.Table.{opening}
use Rattle.grasp_core.specs.declared.node_core.NodeCore.{NodeCore}
use Rattle.grasp_shared.specs.Calls.{Opened, LedTo}
use Rattle.grasp_shared.specs.Law.{Ruled}
use Rattle.grasp_shared.specs.Passes.{first}
use Rattle.grasp_shared.proofs.Keeps.{starts}
use Rattle.grasp_shared.proofs.Turns.{led_nowhere}
use Rattle.grasp_shared.proofs.shared.Shared.open.Goals as goal

pub new-requires : goal.new-requires
new-requires c =
    let h : NodeCore = c.args.core in
    let from : Opened = Some c.of-key.result.value in
    let items : c.push_reserved.new.self.items ≡ h ∷ [] = c.push_reserved.ensures.items ∙ ap (λ (l : List NodeCore). l ++ h ∷ []) c.in-Ok.ensures.items in
    let led : LedTo from [] h = subst (λ (x : NodeCore). LedTo from [] x) c.of-key.ensures (led_nowhere c.of-key.result.value) in
    subst (λ (l : List NodeCore). Ruled LedTo from (opening (0 ∷ []) l (first from))) (sym items) (starts LedTo from h led)
