use Rattle.std.proofs.Common.{sym, ap, subst, ℕ, ◌+◌, min, List, Some, None}
use Rattle.grasp_simulator.proofs.PostGoes.{posts_nothing, posts_along}
use Rattle.grasp_simulator.specs.Sends.{IsWay, Posts}
use Rattle.grasp_simulator.specs.WorldStands.{most_count}
use Rattle.grasp_simulator.specs.declared.parcel.Parcel.{Parcel}
use Rattle.grasp_simulator.specs.declared.world.World.{World}
use Rattle.grasp_simulator.proofs.world.World.post.Goals as goal

-- there is no way for the datagram
pub returns-in_default-clause-posts : goal.returns-in_default-clause-posts
returns-in_default-clause-posts c =
    let self = c.args.self.now in
    posts_nothing self c.args.node c.args.link c.args.to c.args.bytes.now
    (subst (λ (lines : List (List ℕ)). IsWay lines c.args.node c.args.link c.args.to None) c.slice.ensures (subst (IsWay c.slice.result.now c.args.node c.args.link c.args.to) c.in_default.is c.in_ok-way.ensures))

pub returns-clause-posts : goal.returns-clause-posts
returns-clause-posts c =
    let self = c.args.self.now in
    let parcel : Parcel = record { receiver = c.in-Some.way.receiver; link = c.in-Some.way.link; from = c.in-Some.way.from; bytes = c.in_ok-copy.field-0 } in
    let sent : ℕ = min (self.sent + c.len.result) most_count in
    subst (λ (x : World). Posts self x c.args.node c.args.link c.args.to c.args.bytes.now) (sym c.add.ensures)
    (posts_along self c.args.node c.args.link c.args.to c.args.bytes.now c.in-Some.way parcel sent c.push.new.self
    (subst (λ (lines : List (List ℕ)). IsWay lines c.args.node c.args.link c.args.to (Some c.in-Some.way)) c.slice.ensures (subst (IsWay c.slice.result.now c.args.node c.args.link c.args.to) c.in-Some.is c.in_ok-way.ensures))
    c.in_ok-push.ensures.ok
    (ap (λ (b : List ℕ). record { receiver = c.in-Some.way.receiver; link = c.in-Some.way.link; from = c.in-Some.way.from; bytes = b }) c.in_ok-copy.ensures)
    (ap (λ (n : ℕ). min (self.sent + n) most_count) c.len.ensures))
