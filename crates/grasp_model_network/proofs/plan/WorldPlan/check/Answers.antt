use Rattle.grasp_model_network.specs.Checks.{IsInRange, HasGoodRoots, HasGoodLinks}
use Rattle.grasp_model_network.proofs.plan.WorldPlan.check.Goals as goal

pub returns-then-has_good_roots : goal.returns-then-has_good_roots
returns-then-has_good_roots c =
    let range : IsInRange c.args.self.now = c.is_in_range.ensures.0 c.if-not-is_in_range.false in
    let roots : HasGoodRoots c.args.self.now = c.has_good_roots.ensures.0 c.if-has_good_roots.true in (
      λ t. let links : HasGoodLinks c.args.self.now = c.has_good_links.ensures.0 t in record {
        least_nodes = range.least_nodes;
        most_nodes = range.most_nodes;
        least_limit = range.least_limit;
        most_limit = range.most_limit;
        few_roots = range.few_roots;
        roots = roots.roots;
        apart = roots.apart;
        links = links.links;
        few_links = links.few_links;
      },
      λ good. c.has_good_links.ensures.1 (record { links = good.links; few_links = good.few_links }),
    )
