use Rattle.std.proofs.Common.{sym, ◌∙◌}
use Rattle.grasp_asa.proofs.Places.{place_found, none_at_place}
use Rattle.grasp_asa.proofs.registry.Registry.place_of.Goals as goal

pub returns-in-Some-clause-place : goal.returns-in-Some-clause-place
returns-in-Some-clause-place c =
    place_found _ _ _ _ (sym c.knows.ensures.knows ∙ c.if-not-knows.false) (sym c.position_of.ensures ∙ c.in-Some.is)

pub returns-in-None-clause-refused : goal.returns-in-None-clause-refused
returns-in-None-clause-refused c =
    none_at_place c.args.self.now c.args.asa c.args.name.now (sym c.knows.ensures.knows ∙ c.if-not-knows.false) (sym c.position_of.ensures ∙ c.in-None.is)
