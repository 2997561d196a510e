use Rattle.grasp_session.proofs.Calls.{receive_none, receive_kept, receive_left}
use Rattle.grasp_session.proofs.table.Table.receive.Goals as goal

pub returns-in_default : goal.returns-in_default
returns-in_default c = record { receives = λ z st. receive_none c.args.self.now z c.args.now c.args.stream c.args.message st c.in_default.ensures.oldest }

pub returns-in-Kept : goal.returns-in-Kept
returns-in-Kept c = record {
  receives = λ z st.
      receive_kept c.args.self.now c.take-session.new.self c.settle.new.self z c.args.now c.args.stream c.args.message c.in-Some.handle c.take-session.result c.receive-received.new.self c.receive-received.result c.in-Kept.is st
      c.in-Some.ensures.oldest c.take-session.ensures.session c.receive-received.ensures c.take-session.ensures.rest c.settle.ensures;
}

pub returns-in_default-received : goal.returns-in_default-received
returns-in_default-received c = record {
  receives = λ z st.
      receive_left c.args.self.now c.take-session.new.self c.put_back.new.self z c.args.now c.args.stream c.args.message c.in-Some.handle c.take-session.result c.receive-received.new.self c.receive-received.result c.in_default-received.not-Kept st
      c.in-Some.ensures.oldest c.take-session.ensures.session c.receive-received.ensures c.take-session.ensures.rest c.put_back.ensures;
}
