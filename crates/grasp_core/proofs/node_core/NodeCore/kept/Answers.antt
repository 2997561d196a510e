use Rattle.std.proofs.Common.{◌-◌, ◌^◌, ◌∙◌, ℕ, List, min, map, ap, subst}
use Rattle.std.specs.List.{AllZip, sum_by}
use Rattle.grasp_core.specs.Kept.{kept_on}
use Rattle.grasp_model_node.specs.Waiting.{HasWaiting}
use Rattle.grasp_core.specs.declared.streams.Stream.{Stream}
use Rattle.grasp_core.proofs.Waiting.{all_wait, sum_map}
use Rattle.grasp_core.proofs.node_core.NodeCore.kept.Goals as goal

pub returns : goal.returns
returns c = λ n h.
    let held = c.args.self.now.streams.held.items in
    record {
      counts = map kept_on held;
      each = subst (λ (limit : ℕ). AllZip (λ x waiting. HasWaiting limit x.past waiting) n.streams.records (map kept_on held)) h.limit (all_wait c.args.self.now.streams.limit held n.streams.records h.streams.held);
      count_is = c.kept_in.ensures ∙ (ap (λ (xs : List Stream). min (sum_by kept_on xs) (2 ^ 64 - 1)) c.deref.ensures.value ∙ ap (λ (k : ℕ). min k (2 ^ 64 - 1)) (sum_map held));
    }
