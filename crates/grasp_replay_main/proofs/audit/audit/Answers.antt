use Rattle.grasp_replay_main.proofs.Audited.{refused_done, refused_ended, refused_of_input, refused_stopped, refused_unfailed, refused_unfinished, refused_whole}
use Rattle.grasp_replay_main.proofs.audit.audit.Goals as goal

pub returns-in-Err-clause-done : goal.returns-in-Err-clause-done
returns-in-Err-clause-done g c =
    rw c.refuse.ensures (refused_done c.args.input.now (g.K.Sink.written c.args.sink.now) c.in-Err.fault c.in-Err.ensures.fault)

pub returns-in-Err-clause-ended : goal.returns-in-Err-clause-ended
returns-in-Err-clause-ended g c = rw c.refuse.ensures (refused_ended c.in-Err.fault)

pub returns-in-Err-clause-of_input : goal.returns-in-Err-clause-of_input
returns-in-Err-clause-of_input g c = rw c.refuse.ensures (refused_of_input c.in-Err.fault)

pub returns-in-Err-clause-whole : goal.returns-in-Err-clause-whole
returns-in-Err-clause-whole g c = rw c.refuse.ensures (refused_whole c.args.input.now c.in-Err.fault c.in-Err.ensures.only)

pub returns-in-Err-clause-stopped : goal.returns-in-Err-clause-stopped
returns-in-Err-clause-stopped g c =
    rw c.refuse.ensures (refused_stopped c.args.input.now (g.K.Sink.written c.args.sink.now) c.in-Err.fault c.in-Err.ensures.fault)

pub returns-in-Err-clause-begun : goal.returns-in-Err-clause-begun
returns-in-Err-clause-begun g c = rw c.refuse.ensures (λ e. absurd (refused_unfailed c.in-Err.fault e))

pub returns-in-Err-clause-unfinished : goal.returns-in-Err-clause-unfinished
returns-in-Err-clause-unfinished g c = rw c.refuse.ensures (refused_unfinished c.args.input.now c.in-Err.fault c.in-Err.ensures.fault)

pub returns-in-Err-clause-fault : goal.returns-in-Err-clause-fault
returns-in-Err-clause-fault g c = rw c.refuse.ensures (λ e. absurd (refused_unfailed c.in-Err.fault e))
