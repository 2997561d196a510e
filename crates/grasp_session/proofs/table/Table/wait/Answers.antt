use Rattle.grasp_session.specs.Transcript.{SayWait}
use Rattle.grasp_session.proofs.Tables.{say_stands}
use Rattle.grasp_session.proofs.table.Table.wait.Goals as goal

pub returns : goal.returns
returns c = record {
  says = λ z st. say_stands c.args.self.now c.take-session.new.self c.settle.new.self z c.args.handle c.args.now (SayWait c.args.millis) c.take-session.result c.wait-message.new.self c.wait-message.result st
      c.take-session.ensures.session c.wait-message.ensures c.take-session.ensures.rest c.settle.ensures;
}
