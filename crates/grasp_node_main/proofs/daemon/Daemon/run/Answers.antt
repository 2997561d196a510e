use Rattle.std.proofs.Common.{◌≡◌, ap, sym, subst, arith, [], List, length}
use Rattle.std.specs.Vec.{with_items}
use Rattle.std.proofs.lemmas.List.{with_items_is}
use Rattle.grasp_shared.specs.declared.view.View.{View}
use Rattle.grasp_node_main.specs.Seats.{SeatsStand}
use Rattle.grasp_node_main.specs.Steps.{RanSeats}
use Rattle.grasp_node_main.specs.Tells.{Told, told, links_told}
use Rattle.grasp_node_main.specs.declared.seated_agent.SeatedAgent.{SeatedAgent}
use Rattle.grasp_node_main.proofs.Gathering.{ran_seats}
use Rattle.grasp_node_main.proofs.RootMaking.{fresh}
use Rattle.grasp_node_main.proofs.daemon.Daemon.run.Goals as goal

pub run_shared-requires-clause-fresh : goal.run_shared-requires-clause-fresh
run_shared-requires-clause-fresh g c κs within = let e = c.in-Ok.ensures.ok in fresh c.args.self.core c.in-Ok.root e.1 e.2

pub returns-in-Ok : goal.returns-in-Ok
returns-in-Ok g c = λ from crew reaches stand.
    let tell : _ → _ → Told = λ clock links. told (g.C.Clock.readings clock) (links_told g.L.Links links) in
    let items = c.args.self.seats.items in
    let slice = c.deref_mut.result.now in
    let here : slice ≡ items = c.deref_mut.ensures.value in
    let r = c.run_shared in
    let e = c.close-core.ensures in
    let old = tell c.args.clock.now c.args.links.now in
    let new = tell r.new.clock r.new.links in
    let same : length r.new.seats ≡ length slice = r.ensures.same in
    let long : length slice ≡ length items = ap length here in
    let back : (with_items c.args.self.seats r.new.seats).items ≡ r.new.seats = with_items_is c.args.self.seats r.new.seats (omega (arith, same, long, c.args.self.seats.ok.0)) in
    let ran = ran_seats c.in-Ok.shared c.args.wait c.args.turns old new c.in-Ok.root r.new.root slice r.new.seats
    c.args.self.core c.close-core.result from crew r.ensures (ap (λ (v : View). v.opened) c.in-Ok.ensures.ok.1) reaches (subst (SeatsStand crew [] 0) (sym here) stand) e.0 e.1 e.2 in
    subst (λ (seats : List SeatedAgent). RanSeats from crew c.args.wait c.args.turns old seats new) (sym back) ran
