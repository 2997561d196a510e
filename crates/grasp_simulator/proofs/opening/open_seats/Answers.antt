use Rattle.std.proofs.Common.{rules, ◌≡◌, ◌+◌, ℕ, List, [], sym, subst, arith}
use Rattle.grasp_model_network.specs.Runs.{first_world}
use Rattle.grasp_simulator.specs.Seats.{AreFirst}
use Rattle.grasp_model_network.specs.Setting.{numbers_from, script_setting}
use Rattle.grasp_simulator.specs.declared.seat.Seat.{Seat as SeatCode}
use Rattle.grasp_simulator.proofs.SeatLists.{first_seats, seats_more}
use Rattle.grasp_simulator.proofs.opening.open_seats.Goals as goal

pub loop-before-init : goal.loop-before-init
unfolding numbers_from
loop-before-init c = let none : c.new-seats.result.items ≡ [] = search rules in subst (λ (codes : List SeatCode). AreFirst codes []) (sym none) tt

pub loop-before-preserved : goal.loop-before-preserved
loop-before-preserved c =
    let p = c.args.plan.now in
    subst (λ (codes : List SeatCode). AreFirst codes (first_seats p (c.loop-before.before + 1))) (sym c.in_ok-push.ensures.items)
    (seats_more p c.loop-before.before c.loop-before.seats.items c.in_ok-seat.seat c.loop-before.invariant c.in_ok-seat.ensures.0 c.in_ok-seat.ensures.1)

pub returns : goal.returns
unfolding first_world script_setting
returns c =
    let p = c.args.plan.now in
    let all : c.loop-before.before ≡ p.nodes = omega arith in
    subst (λ (n : ℕ). AreFirst c.loop-before.seats.items (first_seats p n)) all c.loop-before.invariant
