use Rattle.std.proofs.Common.{refl, rules, arith, ◌≤◌, ◌+◌, [], length}
use Rattle.grasp_replay_main.proofs.Packing.{quick_packed, none_packing, more_packing, begun_packing, begun_next, begun_held, written_all, written_to_finding, room_for_next}
use Rattle.grasp_replay_main.proofs.Showing.{on_err}
use Rattle.grasp_replay_main.proofs.pack.pack.Goals as goal

pub overflow_add-line : goal.overflow_add-line
overflow_add-line g c =
    let room : c.loop-rest.line + 1 ≤ length c.args.input.now = room_for_next _ _ _ _ _ _ _ _ _ c.loop-rest.invariant.0 c.split_line.ensures.first in
    search rules

pub loop-rest-init : goal.loop-rest-init
loop-rest-init g c = (none_packing _ _ _ _ c.new-buffer.ensures, omega arith)

pub returns-in_err-put-clause-begun : goal.returns-in_err-put-clause-begun
returns-in_err-put-clause-begun g c =
    on_err _ _ (begun_next _ _ _ c.split_line.result.0.now c.split_line.result.1.now _ _ _ _ [] _ _ _ c.loop-rest.invariant.0 c.split_line.ensures.first refl
    (quick_packed _ _ _ c.in-Some.ensures) c.bytes.ensures c.put.ensures.front)

pub loop-rest-preserved-in-Some : goal.loop-rest-preserved-in-Some
loop-rest-preserved-in-Some g c = (
  more_packing _ _ _ c.split_line.result.0.now c.split_line.result.1.now _ _ _ _ _ [] _ _ _ c.loop-rest.invariant.0 c.split_line.ensures.first refl
      (quick_packed _ _ _ c.in-Some.ensures) c.bytes.ensures c.in_ok-put.ensures.passed,
  omega (arith, c.loop-rest.invariant.1, c.put.ensures.never_falls),
)

pub returns-in_err-finding-clause-begun : goal.returns-in_err-finding-clause-begun
returns-in_err-finding-clause-begun g c = on_err _ _ (begun_packing _ _ _ _ _ _ _ c.loop-rest.invariant.0)

pub returns-in_err-flush-clause-begun : goal.returns-in_err-flush-clause-begun
returns-in_err-flush-clause-begun g c = on_err _ _ (begun_held _ _ _ _ _ _ _ _ c.loop-rest.invariant.0 c.flush.ensures.front)

pub returns-in-Some-2-clause-done : goal.returns-in-Some-2-clause-done
returns-in-Some-2-clause-done g c =
    let refused = rw c.in-Some-2.is at c.in_ok-finding.ensures in
    written_to_finding _ _ _ c.split_line.result.0.now c.split_line.result.1.now _ _ _ _ _ c.in-Some-2.finding c.loop-rest.invariant.0 c.split_line.ensures.first refused.1 c.in_ok-flush.ensures.written

pub returns-in_err-put-2-clause-begun : goal.returns-in_err-put-2-clause-begun
returns-in_err-put-2-clause-begun g c =
    on_err _ _ (begun_next _ _ _ c.split_line.result.0.now c.split_line.result.1.now _ _ _ _ _ _ _ _ c.loop-rest.invariant.0 c.split_line.ensures.first c.clear.ensures.items
    (rw c.in_default-2.is at c.in_ok-finding.ensures) c.deref.ensures.value c.put-in-loop-rest.ensures.front)

pub loop-rest-preserved : goal.loop-rest-preserved
loop-rest-preserved g c = (
  more_packing _ _ _ c.split_line.result.0.now c.split_line.result.1.now _ _ _ _ _ _ _ _ _ c.loop-rest.invariant.0 c.split_line.ensures.first c.clear.ensures.items
      (rw c.in_default-2.is at c.in_ok-finding.ensures) c.deref.ensures.value c.in_ok-put-2.ensures.passed,
  omega (arith, c.loop-rest.invariant.1, c.put-in-loop-rest.ensures.never_falls),
)

pub returns-in_err-flush-2-clause-begun : goal.returns-in_err-flush-2-clause-begun
returns-in_err-flush-2-clause-begun g c = on_err _ _ (begun_held _ _ _ _ _ _ _ _ c.loop-rest.invariant.0 c.flush-2.ensures.front)

pub returns-clause-done : goal.returns-clause-done
returns-clause-done g c = written_all _ _ _ _ _ _ _ _ c.loop-rest.invariant.0 (search rules) c.in_ok-flush-2.ensures.written
