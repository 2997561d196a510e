use Rattle.std.proofs.Common.{rules, ◌≡◌, ◌∷◌, List, ℕ, map, sym, ◌∙◌}
use Rattle.std.specs.Prelude.{codes, decimal}
use Rattle.grasp_text.specs.Words.{words_of}
use Rattle.grasp_script.specs.Headers.{LinkFits}
use Rattle.grasp_script.proofs.GoodPlans.{root_fits, link_fits, no_root_line, no_link_line}
use Rattle.grasp_script.proofs.fits.told_line.Goals as goal

pub returns-in-Some-fitting_root-clause-good : goal.returns-in-Some-fitting_root-clause-good
returns-in-Some-fitting_root-clause-good c = root_fits c.args.plan.now c.in-Some-fitting_root.root c.requires c.in-Some-fitting_root.ensures.fits

pub returns-in-Some-2-clause-good : goal.returns-in-Some-2-clause-good
returns-in-Some-2-clause-good c =
    let fits : LinkFits c.args.plan.now c.in-Some-2.members = search rules in
    link_fits c.args.plan.now c.in-Some-2.members c.requires fits

pub returns-in-None-clause-none : goal.returns-in-None-clause-none
returns-in-None-clause-none c =
    let name : c.in-Some.name.now ≡ codes "root" = search rules in
    let words : words_of c.args.line.now ≡ c.in-Some.name.now ∷ c.take.new.self = sym c.of-words.ensures ∙ c.in-Some.ensures.some in
    no_root_line c.args.plan.now (words_of c.args.line.now) c.take.new.self c.in-Some.name.now words name c.in-None.ensures.none

pub returns-in-None-2-clause-none : goal.returns-in-None-2-clause-none
returns-in-None-2-clause-none c =
    let name : c.in-Some.name.now ≡ codes "link" = search rules in
    let words : words_of c.args.line.now ≡ c.in-Some.name.now ∷ c.take.new.self = sym c.of-words.ensures ∙ c.in-Some.ensures.some in
    let none : (m : List ℕ) → c.take.new.self ≡ map decimal m → ¬ LinkFits c.args.plan.now m = rw c.in-None-2.is at c.in_ok-members.ensures.none in
    no_link_line c.args.plan.now (words_of c.args.line.now) c.take.new.self c.in-Some.name.now words name none
