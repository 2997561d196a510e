use Rattle.std.proofs.Common.{rules, ◌≡◌, ◌∙◌, sym, Some, None, slice_get}
use Rattle.grasp_model_network.specs.Streams.{with_delivered}
use Rattle.grasp_simulator.proofs.StreamChanges.{got_at}
use Rattle.grasp_simulator.proofs.StreamMoves.{delivered_here, changed_nowhere}
use Rattle.grasp_simulator.specs.StreamParts.{stream_delivered}
use Rattle.grasp_simulator.specs.StreamsStand.{place_in}
use Rattle.grasp_simulator.proofs.streams.Streams.deliver.Goals as goal

-- no stream has this end
pub returns-in_default : goal.returns-in_default
returns-in_default c =
    let old = c.args.self.now in
    let none : place_in old.list.items old.near.entries c.args.life c.args.number ≡ None = sym c.place_of.ensures.place ∙ c.in_default.is in
    λ begins ts dials sent s. changed_nowhere old.list.items old.near.entries begins c.args.life c.args.number ts dials s (with_delivered c.args.count) none sent

-- one has
pub returns : goal.returns
returns c =
    let old = c.args.self.now in
    let at : place_in old.list.items old.near.entries c.args.life c.args.number ≡ Some (c.in-Some.place, c.in-Some.far) = sym c.place_of.ensures.place ∙ c.in-Some.is in
    let got : slice_get old.list.items c.in-Some.place ≡ Some c.in-Some-get_mut.stream.now = got_at old.list.items c.in-Some.place c.in-Some-get_mut.stream.now c.in-Some-get_mut.ensures.item.3.0 c.in-Some-get_mut.ensures.item.1 in
    let new : c.deliver.new.self ≡ stream_delivered c.in-Some-get_mut.stream.now c.in-Some.far c.args.count = search rules in
    λ begins ts dials sent s. delivered_here old.list.items old.near.entries begins c.args.life c.args.number ts dials s c.args.count (c.in-Some.place, c.in-Some.far) c.in-Some-get_mut.stream.now c.deliver.new.self at got new
