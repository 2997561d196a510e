use Rattle.std.proofs.Common.{◌≡◌, ◌+◌, take, subst, sym, ◌∙◌, ap, ◌++◌, ◌∷◌, []}
use Rattle.std.proofs.lemmas.List.{take_more}
use Rattle.grasp_desk.specs.Desk.{Tells}
use Rattle.grasp_service_visits.specs.Desks.{DeskTold, TellsOnly}
use Rattle.grasp_service_visits.specs.Desks.{desk_told}
use Rattle.grasp_service_visits.proofs.Desks.{tells_one, tells_nothing}
use Rattle.grasp_service_visits.proofs.telling.tell_all.Goals as goal

pub loop-line-init : goal.loop-line-init
loop-line-init g c = tells_nothing (desk_told g.D.Desk c.args.desk.now)

pub loop-line-preserved : goal.loop-line-preserved
loop-line-preserved g c =
    let e = c.tell.ensures in
    let old : DeskTold = desk_told g.D.Desk c.args.desk.now in
    let now : DeskTold = desk_told g.D.Desk c.loop-line.desk in
    let new : DeskTold = desk_told g.D.Desk c.tell.new.self in
    let lines = c.args.lines.now in
    let i = c.loop-line.line-index in
    let line = c.line-item.result in
    let told = subst (λ bytes. Tells now.told new.told (record { visitor = line.visitor; line = bytes }) now.faults new.faults) c.bytes.ensures e.told in
    let one = tells_one old now new (take i lines) line c.loop-line.invariant e.stays_open e.planned e.not_asked e.gave told e.none_came e.never_falls in
    let more : take (i + 1) lines ≡ take i lines ++ line ∷ [] = take_more lines i line c.loop-line-test.true
    ∙ ap (λ x. take i lines ++ x ∷ []) (sym c.line-item.is) in
    subst (λ all. TellsOnly old all new) (sym more) one
