use Rattle.std.proofs.Common.{◌≡◌}
use Rattle.grasp_io.specs.Faults.{Rose}
use Rattle.grasp_replay_main.specs.Task.{input_of}
use Rattle.grasp_replay_main.proofs.Outcomes.{Ends, ends_so}
use Rattle.grasp_replay_main.proofs.program.replay_main.Goals as goal

-- how the program ends, as `run` tells it
ends : (g : _) (c : goal.After-run g)
    → Ends (Rose (g.S.Source.faults c.args.source.now) (g.S.Source.faults c.run.new.source)) (Rose (g.K.Sink.faults c.args.sink.now) (g.K.Sink.faults c.run.new.sink)) (c.run.new.sink ≡ c.args.sink.now) c.in-Some.task 2048
    (input_of c.in-Some.task (g.S.Source.left c.args.source.now)) (g.S.Source.left c.args.source.now) (g.K.Sink.written c.args.sink.now) (g.K.Sink.written c.run.new.sink) c.run.result
ends g c = record {
  no_usage = c.run.ensures.no_usage;
  read_fault = c.run.ensures.read_fault;
  write_fault = c.run.ensures.write_fault;
  too_large = c.run.ensures.too_large;
  bad_script = c.run.ensures.bad_script;
  made = c.run.ensures.made;
}

pub returns-in-Some-clause-small : goal.returns-in-Some-clause-small
returns-in-Some-clause-small g c = λ task e.
    let same : c.in-Some.task ≡ task = cc (c.in-Some.ensures, e) in
    rw (← same) (c.run.ensures.small)

pub returns-in-Some-clause-complete : goal.returns-in-Some-clause-complete
returns-in-Some-clause-complete g c = λ task e.
    let same : c.in-Some.task ≡ task = cc (c.in-Some.ensures, e) in
    rw (← same) (ends_so c.audits_agree.ensures _ _ _ c.in-Some.task 2048 _ _ _ c.run.result (ends g c))
