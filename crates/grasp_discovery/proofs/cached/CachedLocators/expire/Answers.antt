use Rattle.std.proofs.Common.{rules, ap, ◌∙◌}
use Rattle.std.proofs.lemmas.Fn.{filter_same}
use Rattle.grasp_discovery.specs.Discoveries.{is_live, live}
use Rattle.grasp_discovery.proofs.cached.CachedLocators.expire.Goals as goal

pub returns : goal.returns
returns c = filter_same _ (is_live c.args.now) _ (λ x b f' k. search rules) _ _ c.retain.ensures.filtered ∙ ap (live c.args.now) c.self.view_is
