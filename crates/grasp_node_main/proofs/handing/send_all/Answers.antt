use Rattle.std.proofs.Common.{◌≡◌, ◌+◌, take, subst, sym, ◌∙◌, ap, ◌++◌, ◌∷◌, []}
use Rattle.std.proofs.lemmas.List.{take_more}
use Rattle.grasp_node_main.specs.Tells.{LinksTold, HandsOnly, links_told}
use Rattle.grasp_node_main.proofs.Told.{hands_on, one_sent}
use Rattle.grasp_node_main.proofs.handing.send_all.Goals as goal

pub loop-output-preserved : goal.loop-output-preserved
loop-output-preserved g c =
    let told : _ → LinksTold = λ links. links_told g.L.Links links in
    let e = c.send-sent.ensures in
    let outputs = c.args.outputs.now in
    let i = c.loop-output.output-index in
    let o = c.output-item.result in
    let one = one_sent (told c.loop-output.links) (told c.send-sent.new.self) c.send-sent.result o e.stays_open e.told e.not_asked e.waited e.gave e.took e.none_opened e.answer e.never_falls in
    let both = hands_on (told c.args.links.now) (told c.loop-output.links) (told c.send-sent.new.self) (take i outputs) (o ∷ []) c.loop-output.invariant one in
    let more : take (i + 1) outputs ≡ take i outputs ++ o ∷ [] = take_more outputs i o c.loop-output-test.true ∙ ap (λ x. take i outputs ++ x ∷ []) (sym c.output-item.is) in
    subst (λ os. HandsOnly (told c.args.links.now) os (told c.send-sent.new.self)) (sym more) both
