use Rattle.std.proofs.Common.{refl, sym, ap, subst, ℕ, slice_set}
use Rattle.std.specs.Vec.{with_item}
use Rattle.grasp_model_network.specs.declared.event.Event.{Event}
use Rattle.grasp_doubts.specs.Stands.{Happens}
use Rattle.grasp_doubts.specs.declared.doubt_world.DoubtWorld.{DoubtWorld}
use Rattle.grasp_doubts.proofs.Worlds.{HasMember, agent_happens, agent_member, got, has_doubter, quiet_asked, quiet_doubters, quiet_happens}
use Rattle.grasp_doubts.proofs.doubt_world.DoubtWorld.happen.Goals as goal

pub call_agent-requires : goal.call_agent-requires
call_agent-requires c =
    let self : DoubtWorld = c.args.self.now in
    let node : ℕ = c.in-Agent.node in
    let here : HasMember self node = agent_member self c.args.event node c.in-Agent.hold c.in-Agent.is c.requires in
    has_doubter self node here c.index_mut.result.now (got self node here c.from.result c.from.ensures c.index_mut.result.now c.index_mut.ensures.value)

pub returns-in-Agent-clause-happens : goal.returns-in-Agent-clause-happens
returns-in-Agent-clause-happens c =
    let self : DoubtWorld = c.args.self.now in
    let node : ℕ = c.in-Agent.node in
    let here : HasMember self node = agent_member self c.args.event node c.in-Agent.hold c.in-Agent.is c.requires in
    let new : DoubtWorld = record self { world = c.call_agent.new.world; doubters = with_item self.doubters c.from.result c.call_agent.new.doubter } in
    subst (λ (e : Event). Happens self new e c.call_agent.result) (sym c.in-Agent.is)
    (agent_happens self new node c.index_mut.result.now c.call_agent.new.doubter (got self node here c.from.result c.from.ensures c.index_mut.result.now c.index_mut.ensures.value)
    (ap (λ (n : ℕ). slice_set self.doubters.items n c.call_agent.new.doubter) c.from.ensures) c.in-Agent.hold c.call_agent.result c.call_agent.ensures)

pub step-requires : goal.step-requires
step-requires c = quiet_asked c.args.self.now c.args.event c.requires

pub returns-in_default-clause-happens : goal.returns-in_default-clause-happens
returns-in_default-clause-happens c =
    let self : DoubtWorld = c.args.self.now in
    quiet_happens self (record self { world = c.step.new.self }) c.args.event (quiet_doubters c.args.event (λ node hold. c.in_default.not-Agent node hold)) refl c.step.result c.step.ensures
