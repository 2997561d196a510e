-- A drain dials nothing.
use Rattle.std.proofs.Common.{◌≡◌, ℕ, drop, refl, ap, ◌∙◌}
use Rattle.grasp_types.specs.declared.reply.Reply.{Reply}
use Rattle.grasp_types.specs.declared.reply.Reply.TheVariants as reply
use Rattle.grasp_laws_node.proofs.Beginning.{beginnings_end}
use Rattle.grasp_model_node.proofs.Facts.{same_dialled}
use Rattle.grasp_model_node.specs.Begin.{begin}
use Rattle.grasp_model_node.specs.Draining.{closes, after_drain}
use Rattle.grasp_model_node.specs.Node.{NodeState}
use Rattle.grasp_laws_node.specs.Relays.{DrainQueues}
use Rattle.grasp_model_node.specs.Step.{Drains}
use Rattle.grasp_laws_node.specs.Dials.{DrainsDialNothing}

drain_dialled : (n : NodeState) (max : ℕ) → (after_drain n max).streams.dialled ≡ n.streams.dialled
unfolding after_drain
drain_dialled n max = same_dialled n.streams (closes n max)

drain_queue : (n : NodeState) (max : ℕ) → (after_drain n max).queue ≡ drop max n.queue
unfolding after_drain
drain_queue n max = refl

by_reply : (n b after : NodeState) (max : ℕ) (r : Reply) → b.queue ≡ n.queue → b.streams.dialled ≡ n.streams.dialled → Drains b max r after
    → (after.streams.dialled ≡ n.streams.dialled) × DrainQueues n max r after
by_reply n b after max (reply.Outputs outputs) q d s = (
  ap (λ (m : NodeState). m.streams.dialled) s.1 ∙ (drain_dialled b max ∙ d),
  ap (λ (m : NodeState). m.queue) s.1 ∙ (drain_queue b max ∙ ap (λ k. drop max k) q),
)
by_reply n b after max reply.OutOfMemory q d s = (ap (λ (m : NodeState). m.streams.dialled) s.1 ∙ d, ap (λ (m : NodeState). m.queue) s.1 ∙ q)
by_reply n b after max _ q d s = absurd s

pub drains_dial_nothing : DrainsDialNothing
drains_dial_nothing n after now max x r s =
    by_reply n (begin n now) after max r (beginnings_end n now).0.queue (beginnings_end n now).0.dialled s.acts
