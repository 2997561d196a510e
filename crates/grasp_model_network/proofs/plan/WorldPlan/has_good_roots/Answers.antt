use Rattle.std.proofs.Common.{◌≡◌, sym, subst, All, AllPairs}
use Rattle.grasp_model_network.specs.Plans.{IsGoodRoot, AreApart}
use Rattle.grasp_model_network.proofs.plan.WorldPlan.has_good_roots.Goals as goal

pub are_apart-requires : goal.are_apart-requires
are_apart-requires c = λ k d h. (c.are_good_roots.ensures.0 c.if-are_good_roots.true k d h).valid

pub returns-then-are_good_roots : goal.returns-then-are_good_roots
returns-then-are_good_roots c =
    let same : c.slice-roots.result.now ≡ c.args.self.now.roots = c.slice-roots.ensures in (
      λ t. record {
        roots = subst (All (IsGoodRoot c.args.self.now.nodes)) same (c.are_good_roots.ensures.0 c.if-are_good_roots.true);
        apart = subst (AllPairs AreApart) same (c.are_apart.ensures.0 t);
      },
      λ good. c.are_apart.ensures.1 (subst (AllPairs AreApart) (sym same) good.apart),
    )

pub returns-else-are_good_roots : goal.returns-else-are_good_roots
returns-else-are_good_roots c =
    let same : c.slice-roots.result.now ≡ c.args.self.now.roots = c.slice-roots.ensures in
    (λ t. absurd (cc), λ good. c.are_good_roots.ensures.1 (subst (All (IsGoodRoot c.args.self.now.nodes)) (sym same) good.roots))
