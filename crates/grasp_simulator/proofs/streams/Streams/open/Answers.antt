use Rattle.std.proofs.Common.{rules, ◌≡◌, ◌≤◌, arith, ◌-◌, Some, length, slice_get}
use Rattle.grasp_simulator.proofs.StreamChanges.{got_at}
use Rattle.grasp_simulator.proofs.StreamOpens.{opened_here, is_kept}
use Rattle.grasp_simulator.proofs.streams.Streams.open.Goals as goal

-- no stream has the number 0
pub returns-then-k-eq0 : goal.returns-then-k-eq0
returns-then-k-eq0 c =
    let zero : c.args.k ≡ 0 = search rules in
    λ begins ts dials t found s. absurd (let least : 1 ≤ c.args.k = (is_kept c.args.self.now.list.items c.args.self.now.near.entries begins ts dials s c.args.k t found).0 in omega (arith, zero, least))

-- there are fewer streams than the number of the one to be opened
pub returns-in_default : goal.returns-in_default
returns-in_default c =
    let past : length c.args.self.now.list.items ≤ c.args.k - 1 = search rules in
    λ begins ts dials t found s. absurd ((is_kept c.args.self.now.list.items c.args.self.now.near.entries begins ts dials s c.args.k t found).1 past)

pub returns : goal.returns
returns c =
    let old = c.args.self.now in
    let got : slice_get old.list.items (c.args.k - 1) ≡ Some c.in-Some.stream.now = got_at old.list.items (c.args.k - 1) c.in-Some.stream.now c.in-Some.ensures.item.3.0 c.in-Some.ensures.item.1 in
    λ begins ts dials t found s. opened_here old.list.items old.near.entries begins ts dials s c.args.k c.args.life c.args.taken c.in-Some.stream.now c.open.new.self t (is_kept old.list.items old.near.entries begins ts dials s c.args.k t found).0 got c.open.ensures found
