use Rattle.std.proofs.Common.{◌≡◌, Ok, None, Some, refl, sym, ap, subst, ◌∙◌}
use Rattle.grasp_types.specs.declared.flood.FloodPart.{FloodPart}
use Rattle.grasp_types.specs.declared.message.Message.{Message}
use Rattle.grasp_model_node.specs.FloodCalls.{count_all, flood_message}
use Rattle.grasp_model_node.specs.Moves.{with_draw, queue_up}
use Rattle.grasp_model_node.specs.Node.{NodeState}
use Rattle.grasp_core.specs.Outgoing.{flood_of}
use Rattle.grasp_model_node.specs.Queue.{along, all_ways}
use Rattle.grasp_model_node.specs.Refusals.{late}
use Rattle.grasp_core.specs.Stands.{NodeStands}
use Rattle.grasp_model_node.specs.Tests.{sending}
use Rattle.grasp_core.proofs.Spreading.{flood_is, flooded_is}
use Rattle.grasp_core.proofs.node_core.NodeCore.flood.Goals as goal

pub returns-in-Ok-ready_flood : goal.returns-in-Ok-ready_flood
returns-in-Ok-ready_flood c = λ n h.
    let part : FloodPart = record { objective = record { name = c.args.name; flags = c.in-Ok.flags; loops = c.args.loops; value = Some c.args.value }; locator = None } in
    let message : flood_of n c.args.ttl part ≡ flood_message n c.args.asa c.args.name c.args.value c.args.ttl c.args.loops =
    flood_is n c.args.asa c.args.name c.args.value c.args.ttl c.args.loops c.in-Ok.flags (c.in-Ok.ensures.flags n h) in
    let stands = c.send_datagrams.ensures (along (flood_of n c.args.ttl part) (all_ways n.plan.links)) (c.in-Ok-ready_flood.ensures.outputs n h) n h in (
      (sym (c.in-Ok.ensures.reply n h), subst (λ (m : Message). late (sending n m (count_all n)) ≡ Ok tt) message (c.in-Ok-ready_flood.ensures.reply n h), refl),
      subst (λ (after : NodeState). NodeStands c.send_datagrams.new.self after)
          (ap (λ (m : Message). queue_up (with_draw n) (along m (all_ways n.plan.links))) message ∙ flooded_is n (flood_message n c.args.asa c.args.name c.args.value c.args.ttl c.args.loops))
          stands,
    )
