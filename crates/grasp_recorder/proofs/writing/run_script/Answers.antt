use Rattle.grasp_runner.proofs.Ends.{on_err}
use Rattle.grasp_recorder.proofs.Ends.{all_begun, all_done, begun_some, sends_too_much, stop_begun, stop_done}
use Rattle.grasp_recorder.proofs.writing.run_script.Goals as goal

pub returns-in_err-flush-in-Ok-clause-begun : goal.returns-in_err-flush-in-Ok-clause-begun
returns-in_err-flush-in-Ok-clause-begun g c =
    on_err _ _ (all_begun c.each_run_is_safe.ensures c.args.text.now c.args.script.now c.requires.read _ _ _ _ c.in-Ok.ensures.written c.flush.ensures.front)

pub returns-in_ok-flush-in-Ok-clause-done : goal.returns-in_ok-flush-in-Ok-clause-done
returns-in_ok-flush-in-Ok-clause-done g c = all_done c.each_run_is_safe.ensures c.args.text.now c.args.script.now c.requires.read _ _ _ _ c.in-Ok.ensures.written c.in_ok-flush-in-Ok.ensures.written

pub returns-in_err-flush-in-Err-TooMuch-clause-begun : goal.returns-in_err-flush-in-Err-TooMuch-clause-begun
returns-in_err-flush-in-Err-TooMuch-clause-begun g c =
    on_err _ _ (stop_begun c.each_run_is_safe.ensures c.args.text.now c.args.script.now c.requires.read _ _ _ _ (rw c.in-Err-TooMuch.field-0-is at c.in-Err-TooMuch.ensures.written) c.flush-in-Err-TooMuch.ensures.front)

pub returns-in_ok-flush-in-Err-TooMuch-clause-begun : goal.returns-in_ok-flush-in-Err-TooMuch-clause-begun
returns-in_ok-flush-in-Err-TooMuch-clause-begun g c =
    stop_begun c.each_run_is_safe.ensures c.args.text.now c.args.script.now c.requires.read _ _ _ _ (rw c.in-Err-TooMuch.field-0-is at c.in-Err-TooMuch.ensures.written) c.flush-in-Err-TooMuch.ensures.front

pub returns-in_ok-flush-in-Err-TooMuch-clause-too_much : goal.returns-in_ok-flush-in-Err-TooMuch-clause-too_much
returns-in_ok-flush-in-Err-TooMuch-clause-too_much g c = λ e.
    sends_too_much c.each_run_is_safe.ensures c.args.text.now c.args.script.now c.requires.read (rw c.in-Err-TooMuch.field-0-is at c.in-Err-TooMuch.ensures.written).stops

pub returns-in_ok-flush-in-Err-TooMuch-clause-stopped : goal.returns-in_ok-flush-in-Err-TooMuch-clause-stopped
returns-in_ok-flush-in-Err-TooMuch-clause-stopped g c = λ e.
    stop_done c.each_run_is_safe.ensures c.args.text.now c.args.script.now c.requires.read _ _ _ _ (rw c.in-Err-TooMuch.field-0-is at c.in-Err-TooMuch.ensures.written) c.in_ok-flush-in-Err-TooMuch.ensures.written

pub returns-in-Err-OutOfMemory-clause-begun : goal.returns-in-Err-OutOfMemory-clause-begun
returns-in-Err-OutOfMemory-clause-begun g c =
    begun_some c.each_run_is_safe.ensures c.args.text.now c.args.script.now c.requires.read _ _ (rw c.in-Err-OutOfMemory.field-0-is at c.in-Err-OutOfMemory.ensures.written)

pub returns-in-Err-WriteFault-clause-begun : goal.returns-in-Err-WriteFault-clause-begun
returns-in-Err-WriteFault-clause-begun g c =
    begun_some c.each_run_is_safe.ensures c.args.text.now c.args.script.now c.requires.read _ _ (rw c.in-Err-WriteFault.field-0-is at c.in-Err-WriteFault.ensures.written)
