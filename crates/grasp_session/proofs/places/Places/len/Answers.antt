use Rattle.std.proofs.Common.{length, sym, ap, ◌∙◌}
use Rattle.std.proofs.lemmas.List.{length-map}
use Rattle.grasp_session.specs.Places.{at_key}
use Rattle.grasp_session.proofs.places.Places.len.Goals as goal

pub returns-clause-value : goal.returns-clause-value
returns-clause-value c =
    ap length c.as_slice.ensures ∙ (sym (length-map c.self.inside.keys (at_key c.self.inside.sessions)) ∙ ap length c.self.view_is)
