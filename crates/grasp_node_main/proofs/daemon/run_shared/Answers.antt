use Rattle.std.proofs.Common.{arith}
use Rattle.grasp_node_main.specs.Tells.{LinksTold, told, links_told}
use Rattle.grasp_node_main.proofs.Gathering.{passes_given, passes_kept, ran_shared}
use Rattle.grasp_node_main.proofs.daemon.run_shared.Goals as goal

pub split_all-requires-clause-few : goal.split_all-requires-clause-few
split_all-requires-clause-few g c = omega (arith, c.requires.fresh.out, c.requires.few)

pub run_beside-now-requires-clause-passes : goal.run_beside-now-requires-clause-passes
run_beside-now-requires-clause-passes g c κs within = passes_given c.args.shared.now c.args.root.now c.split_all.new.root c.args.seats.now c.split_all.new.seats c.split_all.ensures

pub join_all-requires-clause-own : goal.join_all-requires-clause-own
join_all-requires-clause-own g c = c.run_beside-now.ensures.looped.made.own

pub join_all-requires-clause-passes : goal.join_all-requires-clause-passes
join_all-requires-clause-passes g c = passes_kept c.args.shared.now c.args.turns c.split_all.new.seats c.run_beside-now.new.seats c.run_beside-now.ensures.went

pub drain_last-requires-clause-alone : goal.drain_last-requires-clause-alone
drain_last-requires-clause-alone g c =
    let split = c.split_all.ensures in
    let run = c.run_beside-now.ensures in
    omega (arith, c.join_all.ensures.root.out, run.looped.made.out, split.root.out, c.requires.fresh.out, run.went.0, split.same)

pub returns : goal.returns
returns g c =
    let tell : _ → LinksTold = λ links. links_told g.L.Links links in
    let r = c.run_beside-now in
    ran_shared c.args.shared.now c.args.wait c.args.turns r.result c.args.root.now c.split_all.new.root r.new.root c.join_all.new.root c.drain_last.new.root
    c.args.seats.now c.split_all.new.seats r.new.seats c.join_all.new.seats
    (told (g.C.Clock.readings c.args.clock.now) (tell c.args.links.now)) (told (g.C.Clock.readings r.new.clock) (tell r.new.links)) (tell c.drain_last.new.links)
    c.requires.fresh c.split_all.ensures r.ensures.looped r.ensures.went c.join_all.ensures c.drain_last.ensures
