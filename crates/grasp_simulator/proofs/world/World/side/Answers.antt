use Rattle.std.proofs.Common.{rules, ◌≡◌, ◌∙◌, sym, ap, option_map, ℕ, None, Some, Option}
use Rattle.grasp_model_network.specs.Setting.{numbered}
use Rattle.grasp_simulator.specs.StreamParts.{side_of}
use Rattle.grasp_simulator.specs.declared.stream.LifeEnd.{LifeEnd}
use Rattle.grasp_simulator.specs.declared.world_lends.SideEnd.{SideEnd}
use Rattle.grasp_simulator.proofs.Lent.{side_by, side_is_lent}
use Rattle.grasp_simulator.proofs.world.World.side.Goals as goal

-- no side is there
pub returns-in_err-end : goal.returns-in_err-end
returns-in_err-end c =
    let self = c.args.self.now in
    let none : c.from_residual.result ≡ None = search rules in
    side_is_lent c.streams_are_ready.ensures self c.args.stream c.args.far c.from_residual.result
    (none ∙ sym (ap (λ (o : Option LifeEnd). side_by o (numbered self.lives)) (sym c.side.ensures ∙ c.in_err-end.was)))

-- nobody's life it is
pub returns-in_err-node : goal.returns-in_err-node
returns-in_err-node c =
    let self = c.args.self.now in
    let none : c.from_residual-in_err-node.result ≡ None = search rules in
    side_is_lent c.streams_are_ready.ensures self c.args.stream c.args.far c.from_residual-in_err-node.result
    (none
    ∙ sym (ap (λ (o : Option LifeEnd). side_by o (numbered self.lives)) (sym c.side.ensures ∙ c.in_ok-end.was)
    ∙ ap (option_map (λ (node : ℕ). record { node = node; number = c.in_ok-end.end.number })) (sym c.member.ensures ∙ c.in_err-node.was)))

pub returns : goal.returns
returns c =
    let self = c.args.self.now in
    let found : SideEnd = record { node = c.in_ok-node.node; number = c.in_ok-end.end.number } in
    side_is_lent c.streams_are_ready.ensures self c.args.stream c.args.far (Some found)
    (sym (ap (λ (o : Option LifeEnd). side_by o (numbered self.lives)) (sym c.side.ensures ∙ c.in_ok-end.was)
    ∙ ap (option_map (λ (node : ℕ). record { node = node; number = c.in_ok-end.end.number })) (sym c.member.ensures ∙ c.in_ok-node.was)))
