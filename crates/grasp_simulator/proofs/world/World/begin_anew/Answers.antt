use Rattle.std.proofs.Common.{◌≡◌, ◌∙◌, ap, subst, filter, map, List, ℕ}
use Rattle.grasp_agent.specs.Reopening.{retired}
use Rattle.grasp_simulator.specs.StreamParts.{ended_at}
use Rattle.grasp_simulator.specs.Restarts.{AreMarked, stays_noted}
use Rattle.grasp_simulator.specs.declared.seat.Seat.{Seat as SeatCode}
use Rattle.grasp_simulator.proofs.Presence.{life_read}
use Rattle.grasp_simulator.proofs.RestartGoes.{restarts, seat_read}
use Rattle.grasp_simulator.proofs.world.World.begin_anew.Goals as goal

pub returns-clause-begins : goal.returns-clause-begins
returns-clause-begins c =
    let self = c.args.self.now in
    let node = c.args.node in
    let read : c.index.result.now.life ≡ c.index_mut.result.now.life = life_read self node c.from.result c.from-3.result c.index.result.now c.index_mut.result.now c.requires.node c.from.ensures c.index.ensures c.from-3.ensures c.index_mut.ensures.value in
    let same : c.index-2.result.now ≡ c.index_mut.result.now = seat_read self node c.from-2.result c.from-3.result c.index-2.result.now c.index_mut.result.now c.requires.node c.from-2.ensures c.index-2.ensures c.from-3.ensures c.index_mut.ensures.value in
    λ s w h may.
    restarts c.grounds_hold.ensures c.streams_are_ready.ensures self node c.from-3.result c.index_mut.result.now c.in_ok-next.next c.args.image.now c.end_life.new.self c.mark_all.new.marks c.end_life-2.new.self c.push.new.self c.requires.node
    c.from-3.ensures c.index_mut.ensures.value c.in_ok-push.ensures.ok (c.in_ok-next.ensures.0 ∙ c.len.ensures) c.in_ok-next.ensures.1
    (subst (λ (codes : List SeatCode). AreMarked codes node self.marks c.mark_all.new.marks) c.deref.ensures.value c.in_ok-mark_all.ensures)
    (c.end_life.ensures.streams ∙ ap (λ (n : ℕ). map (ended_at n node self.plan.nodes) self.streams.list.items) read)
    c.end_life.ensures.index
    (c.end_life-2.ensures.offers ∙ ap (λ (x : SeatCode). filter (stays_noted node (retired x.agent).pool) self.notes.offers.items) same) c.end_life-2.ensures.accepted s w h may
