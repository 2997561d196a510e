use Rattle.std.proofs.Common.{Some, None, sym, ap, ◌∙◌}
use Rattle.std.proofs.Common.{option_copied}
use Rattle.std.proofs.lemmas.Bool.{cond-true, cond-false}
use Rattle.grasp_session.specs.Keeps.{offer_in}
use Rattle.grasp_session.proofs.Calls.{last_is, some_none, not_some_none}
use Rattle.grasp_session.proofs.table.Table.last.Goals as goal

pub returns-in_err-session : goal.returns-in_err-session
returns-in_err-session c = λ z st. ap option_copied c.from_residual.ensures ∙ last_is c.args.self.now z c.args.handle None st c.in_err-session.ensures

pub returns-then-is_some : goal.returns-then-is_some
returns-then-is_some c = λ z st.
    sym (cond-false _ (Some (offer_in c.in_ok-session.session.now)) None (some_none c.in_ok-session.session.now.ending (sym c.if-is_some.ensures))) ∙ last_is c.args.self.now z c.args.handle (Some c.in_ok-session.session.now) st c.in_ok-session.ensures

pub returns : goal.returns
returns c = λ z st.
    ap (λ o. Some o) c.last_offer.ensures
    ∙ (sym (cond-true _ (Some (offer_in c.in_ok-session.session.now)) None (not_some_none c.in_ok-session.session.now.ending (sym c.if-is_some.ensures))) ∙ last_is c.args.self.now z c.args.handle (Some c.in_ok-session.session.now) st c.in_ok-session.ensures)
