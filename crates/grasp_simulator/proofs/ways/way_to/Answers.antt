use Rattle.std.proofs.Common.{rules, ◌≡◌, ◌≤◌, ◌∙◌, sym, ap, subst, ℕ, List, Some, slice_get}
use Rattle.grasp_model_network.specs.Routes.{place_among}
use Rattle.grasp_model_network.specs.Setting.{line_of, link_of, others_on}
use Rattle.grasp_simulator.proofs.WayLines.{way_is}
use Rattle.grasp_simulator.specs.Sends.{IsWay}
use Rattle.grasp_simulator.proofs.ways.way_to.Goals as goal

pub returns : goal.returns
returns c =
    let found : line_of c.args.node c.args.links.now c.args.link ≡ Some c.in-Some.place = sym c.line_at.ensures ∙ c.in-Some.is in
    let got : slice_get c.args.links.now c.in-Some.place ≡ Some c.in-Some-line_in.line.now = sym c.in-Some-line_in.ensures in
    let line : c.slice.result.now ≡ c.in-Some-line_in.line.now = c.slice.ensures in
    let others : c.in_ok-others.others ≡ others_on c.args.node c.in-Some-line_in.line.now = c.in_ok-others.ensures ∙ ap (others_on c.args.node) line in
    let there : slice_get (others_on c.args.node c.in-Some-line_in.line.now) c.args.to ≡ Some c.in-Some-at.receiver.now = ap (λ (l : List ℕ). slice_get l c.args.to) (sym others) ∙ (ap (λ (k : ℕ). slice_get c.in_ok-others.others k) (sym c.from.ensures) ∙ sym c.in-Some-at.ensures) in
    let count : c.links_of.result ≡ link_of c.in-Some-at.receiver.now c.args.links.now c.in-Some.place = search rules in
    let back : c.place_among.result ≡ place_among c.args.node (others_on c.in-Some-at.receiver.now c.in-Some-line_in.line.now) = search rules in
    subst (IsWay c.args.links.now c.args.node c.args.link c.args.to) (sym c.made_way.ensures)
    (way_is c.args.links.now c.args.node c.args.link c.args.to c.in-Some.place c.in-Some-at.receiver.now c.in-Some-line_in.line.now c.small-link.result c.small-from.result found got there
    (λ h. c.small-link.ensures (subst (λ (k : ℕ). k ≤ 255) (sym count) h) ∙ ap Some count)
    (λ h. c.small-from.ensures (subst (λ (k : ℕ). k ≤ 255) (sym back) h) ∙ ap Some back))
