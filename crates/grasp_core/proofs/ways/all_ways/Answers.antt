use Rattle.std.proofs.Common.{◌≡◌, ◌∙◌, ◌<◌, ◌++◌, List, length, ap, subst, get_or}
use Rattle.grasp_types.specs.declared.links.Neighbour.{Neighbour}
use Rattle.grasp_model_node.specs.Queue.{ways_on, ways_from}
use Rattle.grasp_core.proofs.WayLists.{more_from}
use Rattle.grasp_core.proofs.ways.all_ways.Goals as goal

pub loop-link-preserved : goal.loop-link-preserved
loop-link-preserved c =
    let ns : List Neighbour = c.neighbours-item.result in
    let links : List (List Neighbour) = c.args.plan.now.links in
    let same : c.slice-neighbours-items.result.now ≡ links = c.slice-neighbours-items.ensures in
    more_from c.loop-link.link links ns c.loop-link.ways.items (ways_from 0 links) c.push_ways.new.ways.items
    (subst (λ (l : List (List Neighbour)). c.loop-link.link < length l) same c.loop-link-test.true)
    (c.neighbours-item.is ∙ ap (λ (l : List (List Neighbour)). get_or l c.loop-link.link ns) same)
    (c.in_ok-push_ways.ensures ∙ ap (λ (l : List Neighbour). c.loop-link.ways.items ++ ways_on c.loop-link.link 0 l) c.slice.ensures)
    c.loop-link.invariant
