use Rattle.std.proofs.Common.{rules, tests}
use Rattle.std.proofs.lemmas.Iterator.{YieldsList-from_slice, YieldsList-from_map_by}
use Rattle.std.proofs.lemmas.Iterator.Consumers.{YieldsList-at, YieldsList-from_filter, nth_from_yields_List}
use Rattle.grasp_asa.specs.Registrations.{is_owned_by}
use Rattle.grasp_asa.proofs.registry.Registry.name_of.Goals as goal

pub returns : goal.returns
returns c =
    nth_from_yields_List _ _ c.args.i c.nth.ensures.ran
    (YieldsList-from_map_by _ (λ name. name.now) (λ o. o.name)
    (YieldsList-at c.map.ensures.source (YieldsList-from_filter _ (is_owned_by c.args.asa) (YieldsList-from_slice c.args.self.now.objectives cc) c.filter.ensures.closure (λ x b q k. search (rules, tests))))
    c.map.ensures.closure (λ x r q k. search (rules, tests)))
