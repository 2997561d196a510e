use Rattle.std.proofs.Common.{rules, arith, ◌≡◌, true, false, sym, subst, ◌∙◌}
use Rattle.std.specs.Prelude.{All}
use Rattle.grasp_model_network.specs.Plans.{AreApart}
use Rattle.grasp_model_network.specs.declared.plan.RootAt.{RootAt}
use Rattle.grasp_script.proofs.HeaderLaws.{one_root}
use Rattle.grasp_script.proofs.fits.fitting_root.Goals as goal

pub returns-then-is_apart-clause-fits : goal.returns-then-is_apart-clause-fits
returns-then-is_apart-clause-fits c =
    let yes : c.is_apart.result ≡ true = search rules in record {
      good = c.in_ok-root.ensures.good;
      few = omega arith;
      apart = c.is_apart.ensures.0 yes;
    }

pub returns-else-is_apart-clause-none : goal.returns-else-is_apart-clause-none
returns-else-is_apart-clause-none c = λ r e fits.
    let same : r ≡ c.in_ok-root.root = one_root c.args.plan.now.nodes r c.in_ok-root.root c.requires.most_nodes fits.good c.in_ok-root.ensures.good (sym e ∙ c.in_ok-root.ensures.found) in
    let yes : c.is_apart.result ≡ true = c.is_apart.ensures.1 (subst (λ (q : RootAt). All (λ p. AreApart p q) c.args.plan.now.roots) same fits.apart) in
    let no : c.is_apart.result ≡ false = search rules in
    absurd (let z : true ≡ false = sym yes ∙ no in cc)
