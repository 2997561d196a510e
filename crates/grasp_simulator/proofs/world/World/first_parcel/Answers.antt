use Rattle.std.proofs.Common.{◌∙◌, ◌<◌, sym, ap, subst, ℕ, IfSome}
use Rattle.grasp_model_network.specs.Setting.{counted_from_1}
use Rattle.grasp_simulator.specs.Lending.{is_so}
use Rattle.grasp_simulator.proofs.Lent.{first_lent, place_within}
use Rattle.grasp_simulator.proofs.world.World.first_parcel.Goals as goal

pub counted-requires : goal.counted-requires
counted-requires c =
    subst (λ (n : ℕ). IfSome c.first_place-place.result (λ p. p < n)) (sym c.len-count.ensures)
    (place_within (is_so c.args.node c.args.link c.args.from c.args.bytes.now) c.args.self.now.parcels c.first_place-place.result c.first_place-place.ensures)

pub returns : goal.returns
returns c = first_lent c.args.self.now c.args.node c.args.link c.args.from c.args.bytes.now c.counted.result (c.counted.ensures ∙ ap counted_from_1 c.first_place-place.ensures)
