use Rattle.std.proofs.Common.{rules, ◌≡◌, ◌<◌, true, false, length, map, List, ℕ, sym, subst, ◌∙◌}
use Rattle.std.specs.Prelude.{decimal, All}
use Rattle.grasp_model_network.specs.Plans.{IsNode, IsGoodLink}
use Rattle.grasp_model_network.specs.Setting.{lines_of}
use Rattle.grasp_script.proofs.HeaderLaws.{one_link}
use Rattle.grasp_script.proofs.Members.{on_some, some_on}
use Rattle.grasp_script.proofs.fits.fitting_link.Goals as goal

pub returns-then-has_room-clause-fits : goal.returns-then-has_room-clause-fits
returns-then-has_room-clause-fits c =
    let good : IsGoodLink c.args.plan.now.nodes c.in-Some.members = rw c.in-Some.is at c.in_ok-members.ensures.good in
    let yes : c.has_room.result ≡ true = search rules in record {
      good = good;
      room = λ node is on. on_some (λ k. length (lines_of k c.args.plan.now.links) < 16) node c.in-Some.members (c.has_room.ensures.0 yes) on;
    }

pub returns-else-has_room-clause-none : goal.returns-else-has_room-clause-none
returns-else-has_room-clause-none c = λ m e fits.
    let good : IsGoodLink c.args.plan.now.nodes c.in-Some.members = rw c.in-Some.is at c.in_ok-members.ensures.good in
    let found : c.args.words.now ≡ map decimal c.in-Some.members = rw c.in-Some.is at c.in_ok-members.ensures.found in
    let same : m ≡ c.in-Some.members = one_link c.args.plan.now.nodes m c.in-Some.members c.requires.most_nodes fits.good.members good.members (sym e ∙ found) in
    let room : All (λ k. length (lines_of k c.args.plan.now.links) < 16) m = some_on (λ k. length (lines_of k c.args.plan.now.links) < 16) m (λ k on. fits.room k (on_some (IsNode c.args.plan.now.nodes) k m fits.good.members on) on) in
    let yes : c.has_room.result ≡ true = c.has_room.ensures.1 (subst (λ (ms : List ℕ). All (λ k. length (lines_of k c.args.plan.now.links) < 16) ms) same room) in
    let no : c.has_room.result ≡ false = search rules in
    absurd (let z : true ≡ false = sym yes ∙ no in cc)
