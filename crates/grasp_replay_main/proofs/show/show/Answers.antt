use Rattle.std.proofs.Common.{rules, arith}
use Rattle.grasp_cbor.proofs.HeadBytes.{AllBytes-from}
use Rattle.grasp_replay_main.proofs.Showing.{begin_showing, go_on_showing, begun_showing, begun_at_end, begun_at_finding, written_to_finding, written_all, on_err}
use Rattle.grasp_replay_main.proofs.show.show.Goals as goal

pub loop-rest-init : goal.loop-rest-init
loop-rest-init g c = (begin_showing _ _ _ _ c.new-buffer.ensures, omega arith)

pub returns-in_err-step-clause-begun : goal.returns-in_err-step-clause-begun
returns-in_err-step-clause-begun g c =
    on_err _ _ (begun_showing _ _ _ _ _ _ _ (omega (arith, c.ranges.limit.fits)) (AllBytes-from c.args.input.now (λ i. omega (arith, c.type_inv.input i))) c.loop-rest.invariant.0 (λ front s same h. c.in_err-step.ensures.step front s same h))

pub returns-in_err-flush-in-Fault-clause-begun : goal.returns-in_err-flush-in-Fault-clause-begun
returns-in_err-flush-in-Fault-clause-begun g c =
    on_err _ _ (begun_at_finding _ _ _ _ _ _ _ _ _ c.in-Fault.finding (omega (arith, c.ranges.limit.fits)) (AllBytes-from c.args.input.now (λ i. omega (arith, c.type_inv.input i))) c.loop-rest.invariant.0 (λ front s same h. rw c.in-Fault.is at (c.in_ok-step.ensures.step front s same h)) c.flush.ensures.front)

pub returns-in-Fault-clause-done : goal.returns-in-Fault-clause-done
returns-in-Fault-clause-done g c =
    written_to_finding _ _ _ _ _ _ _ _ _ c.in-Fault.finding (AllBytes-from c.args.input.now (λ i. omega (arith, c.type_inv.input i))) c.loop-rest.invariant.0 (λ front s same h. rw c.in-Fault.is at (c.in_ok-step.ensures.step front s same h)) c.in_ok-flush-in-Fault.ensures.written

pub loop-rest-preserved : goal.loop-rest-preserved
loop-rest-preserved g c = (
  go_on_showing _ _ _ _ _ _ _ _ c.in-Line.used c.loop-rest.invariant.0 (λ front s same h. rw c.in-Line.is at (c.in_ok-step.ensures.step front s same h)),
  omega (arith, c.loop-rest.invariant.1, c.show_next.ensures.never_falls),
)

pub returns-in_err-flush-clause-begun : goal.returns-in_err-flush-clause-begun
returns-in_err-flush-clause-begun g c =
    on_err _ _ (begun_at_end _ _ _ _ _ _ _ (omega (arith, c.ranges.limit.fits)) (AllBytes-from c.args.input.now (λ i. omega (arith, c.type_inv.input i))) c.loop-rest.invariant.0 c.flush-2.ensures.front)

pub returns-clause-done : goal.returns-clause-done
returns-clause-done g c =
    written_all _ _ _ _ _ _ _ c.loop-rest.invariant.0 c.requires (AllBytes-from c.args.input.now (λ i. omega (arith, c.type_inv.input i))) (search rules) c.in_ok-flush.ensures.written
