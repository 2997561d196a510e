use Rattle.std.proofs.Common.{subst, sym}
use Rattle.grasp_types.specs.declared.traffic.Output.TheVariants as output
use Rattle.grasp_node_main.specs.Tells.{LinksTold, HandsOnly, links_told}
use Rattle.grasp_node_main.specs.Turns.{closings}
use Rattle.grasp_node_main.proofs.Told.{one_sent}
use Rattle.grasp_node_main.proofs.handing.close_again.Goals as goal

pub returns-in-Some : goal.returns-in-Some
returns-in-Some g c =
    let told : _ → LinksTold = λ links. links_told g.L.Links links in
    let e = c.send-sent.ensures in
    let one = one_sent (told c.args.links.now) (told c.send-sent.new.self) c.send-sent.result (output.Close c.in-Some.stream) e.stays_open e.told e.not_asked e.waited e.gave e.took e.none_opened e.answer e.never_falls in
    subst (λ away. HandsOnly (told c.args.links.now) (closings away) (told c.send-sent.new.self)) (sym c.in-Some.is) one
