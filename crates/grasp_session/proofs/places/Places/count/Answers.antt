use Rattle.std.proofs.Common.{sym, ap, ◌∙◌}
use Rattle.grasp_session.proofs.Seats.{held_count}
use Rattle.grasp_session.proofs.places.Places.count.Goals as goal

pub returns-clause-count : goal.returns-clause-count
returns-clause-count c = c.len.ensures ∙ (c.self.invariant.0.counted ∙ (sym (held_count c.self.inside.sessions c.self.inside.keys c.self.invariant.0.filled) ∙ ap (Rattle.std.proofs.Common.count_by Rattle.std.proofs.Common.is_some) c.self.view_is))
