use Rattle.std.proofs.Common.{◌+◌, sym, ap, ◌∙◌}
use Rattle.grasp_session.specs.declared.table.Table.{Table}
use Rattle.grasp_session.proofs.Calls.{start_full, start_none, start_done}
use Rattle.grasp_session.proofs.table.Table.start.Goals as goal

pub returns-then-is_full : goal.returns-then-is_full
returns-then-is_full c = record { starts = λ z st. start_full c.args.self.now z c.args.now c.args.begin st (sym c.is_full.ensures ∙ c.if-is_full.true) }

pub returns-in_default : goal.returns-in_default
returns-in_default c = record { starts = λ z st. start_none c.args.self.now z c.args.now c.args.begin st (sym c.is_full.ensures ∙ c.if-is_full.false) c.in_default.ensures.least }

pub returns : goal.returns
returns c = record {
  starts = λ z st.
      start_done c.args.self.now (record { made = c.args.self.now.made + 1; places = c.put.new.self }) z c.args.now c.in-Some.place c.args.begin c.begin-2.result st (sym c.is_full.ensures ∙ c.if-is_full.false)
      c.in-Some.ensures.least c.begin-2.ensures (ap (λ l. let t : Table = record { made = c.args.self.now.made + 1; places = l } in t) c.put.ensures.kept);
}
