use Rattle.std.proofs.Common.{sym, ap, ◌∙◌}
use Rattle.grasp_session.specs.Sessions.{if_refused}
use Rattle.grasp_session.specs.Stands.{answer_in}
use Rattle.grasp_session.proofs.Tables.{check_stands}
use Rattle.grasp_session.proofs.Calls.{refused_may}
use Rattle.grasp_session.proofs.table.Table.check.Goals as goal

pub returns-in-Some-refusal-clause-reply : goal.returns-in-Some-refusal-clause-reply
returns-in-Some-refusal-clause-reply c = λ z st.
    ap if_refused (sym c.in-Some-refusal.is ∙ c.refusal.ensures) ∙ (ap (answer_in c.args.act) c.in-Some.ensures ∙ check_stands c.args.self.now z c.args.owner c.args.handle c.args.act st)

pub returns-in-None-refusal-clause-reply : goal.returns-in-None-refusal-clause-reply
returns-in-None-refusal-clause-reply c = λ z st.
    ap if_refused (sym c.in-None-refusal.is ∙ c.refusal.ensures) ∙ (ap (answer_in c.args.act) c.in-Some.ensures ∙ check_stands c.args.self.now z c.args.owner c.args.handle c.args.act st)

pub returns-in-None-clause-reply : goal.returns-in-None-clause-reply
returns-in-None-clause-reply c = λ z st. ap (answer_in c.args.act) c.in-None.ensures ∙ check_stands c.args.self.now z c.args.owner c.args.handle c.args.act st

pub returns-in-Some-refusal-clause-refused : goal.returns-in-Some-refusal-clause-refused
returns-in-Some-refusal-clause-refused c = refused_may c.in-Some.session.now c.args.act c.in-Some-refusal.refused (sym c.in-Some-refusal.is ∙ c.refusal.ensures)
