use Rattle.grasp_session.specs.Transcript.{SayInvalid}
use Rattle.grasp_session.proofs.Tables.{say_stands}
use Rattle.grasp_session.proofs.table.Table.invalid.Goals as goal

pub returns : goal.returns
returns c = record {
  says = λ z st. say_stands c.args.self.now c.take-session.new.self c.settle.new.self z c.args.handle c.args.now (SayInvalid c.args.detail) c.take-session.result c.invalid-message.new.self c.invalid-message.result st
      c.take-session.ensures.session c.invalid-message.ensures c.take-session.ensures.rest c.settle.ensures;
}
