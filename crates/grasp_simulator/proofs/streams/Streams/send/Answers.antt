use Rattle.std.proofs.Common.{◌≡◌, ◌∙◌, sym, ap, Some, None, slice_get, slice_set}
use Rattle.std.proofs.lemmas.List.{set-get_or}
use Rattle.std.proofs.lemmas.Result.{on_ok_weaker, on_err_weaker}
use Rattle.grasp_simulator.proofs.StreamChanges.{got_at, sent_here, sent_nowhere}
use Rattle.grasp_simulator.specs.StreamsStand.{place_in}
use Rattle.grasp_simulator.proofs.streams.Streams.send.Goals as goal

-- no stream has this end
pub returns-in_default-clause-stands : goal.returns-in_default-clause-stands
returns-in_default-clause-stands c =
    let old = c.args.self.now in
    let none : place_in old.list.items old.near.entries c.args.life c.args.number ≡ None = sym c.place_of.ensures.place ∙ c.in_default.is in
    λ begins ts dials m is sent s. sent_nowhere old.list.items old.near.entries begins c.args.life c.args.number m ts dials none sent s

-- one has
pub returns-clause-stands : goal.returns-clause-stands
returns-clause-stands c =
    let old = c.args.self.now in
    let at : place_in old.list.items old.near.entries c.args.life c.args.number ≡ Some (c.in-Some.place, c.in-Some.far) = sym c.place_of.ensures.place ∙ c.in-Some.is in
    let got : slice_get old.list.items c.in-Some.place ≡ Some c.in-Some-get_mut.stream.now = got_at old.list.items c.in-Some.place c.in-Some-get_mut.stream.now c.in-Some-get_mut.ensures.item.3.0 c.in-Some-get_mut.ensures.item.1 in
    on_ok_weaker c.send.result
    (λ new begins ts dials m is sent s. sent_here old.list.items old.near.entries begins c.args.life c.args.number (c.in-Some.place, c.in-Some.far) c.in-Some-get_mut.stream.now c.send.new.self c.args.bytes.now m ts dials at got new is s)
    c.send.ensures.ok

pub returns-clause-streams_stay : goal.returns-clause-streams_stay
returns-clause-streams_stay c =
    let streams = c.args.self.now.list.items in
    on_err_weaker c.send.result (λ same. ap (slice_set streams c.in-Some.place) (same ∙ c.in-Some-get_mut.ensures.item.1) ∙ set-get_or streams c.in-Some.place c.in-Some-get_mut.stream.now) c.send.ensures.err
