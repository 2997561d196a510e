use Rattle.std.proofs.Common.{sym, subst}
use Rattle.grasp_session.specs.Stands.{Stands, kept_at}
use Rattle.grasp_session.specs.Sessions.{after_expire}
use Rattle.grasp_session.proofs.Calls.{expire_none, due_going, expire_done}
use Rattle.grasp_session.proofs.Earliest.{none_due}
use Rattle.grasp_session.proofs.table.Table.expire_one.Goals as goal

pub returns-then-now-earliest : goal.returns-then-now-earliest
returns-then-now-earliest c = record { expires = λ z st. expire_none c.args.self.now z c.args.now st (sym (none_due c.earliest.result c.args.now 0 c.args.self.now.places c.if-now-earliest.true c.earliest.ensures)) }

pub returns-in_default : goal.returns-in_default
returns-in_default c = record {
  expires = λ z st.
      let p = expire_none c.args.self.now z c.args.now st c.in_default.ensures.oldest in
      (p.0, subst (λ places. Stands (record c.args.self.now { places = places }) (after_expire z c.args.now)) (sym c.look_again.ensures) p.1);
}

pub mark-requires : goal.mark-requires
mark-requires c = due_going c.args.now (kept_at c.args.self.now.places c.in-Some.handle) c.take-session.result c.in-Some.ensures.wanted c.take-session.ensures.session

pub returns : goal.returns
returns c = record {
  expires = λ z st.
      expire_done c.args.self.now c.take-session.new.self c.settle.new.self z c.args.now c.in-Some.handle c.take-session.result c.mark.new.self st c.in-Some.ensures.oldest c.take-session.ensures.session
      (due_going c.args.now (kept_at c.args.self.now.places c.in-Some.handle) c.take-session.result c.in-Some.ensures.wanted c.take-session.ensures.session) c.mark.ensures c.take-session.ensures.rest c.settle.ensures;
}
