use Rattle.std.proofs.Common.{◌≡◌, ◌+◌, ◌∙◌, sym, ap, subst, refl, take, None, Some, cond, List}
use Rattle.grasp_simulator.specs.Remembering.{is_note_of, last_note}
use Rattle.grasp_simulator.specs.declared.notes.OfferNote.{OfferNote}
use Rattle.grasp_simulator.proofs.NotedOffers.{last_more}
use Rattle.grasp_simulator.proofs.notes.Notes.last.Goals.{then-is_of, else-is_of}
use Rattle.grasp_simulator.proofs.notes.Notes.last.Goals as goal

pub loop-note-init : goal.loop-note-init
unfolding last_note
loop-note-init c = refl

pub loop-note-preserved : goal.loop-note-preserved
loop-note-preserved c =
    let before : c.loop-note.found ≡ last_note c.args.node c.args.prefix (take c.loop-note.note-index c.deref-note-items.result.now) None
    = subst (λ (ns : List OfferNote). c.loop-note.found ≡ last_note c.args.node c.args.prefix (take c.loop-note.note-index ns) None) (sym c.deref-note-items.ensures.value) c.loop-note.invariant in
    let next : c.if-is_of.found ≡ cond (is_note_of c.args.node c.args.prefix c.note-item.result) (Some c.note-item.result) c.loop-note.found
    = elim c.if-is_of.branch [
      | then-is_of w ↦ w.found-is ∙ ap (λ b. cond b (Some c.note-item.result) c.loop-note.found) (sym (sym c.is_of.ensures ∙ w.if-is_of.true))
      | else-is_of w ↦ w.found-is ∙ ap (λ b. cond b (Some c.note-item.result) c.loop-note.found) (sym (sym c.is_of.ensures ∙ w.if-is_of.false))
    ] in
    subst (λ (ns : List OfferNote). c.if-is_of.found ≡ last_note c.args.node c.args.prefix (take (c.loop-note.note-index + 1) ns) None) c.deref-note-items.ensures.value
    (last_more c.args.node c.args.prefix c.deref-note-items.result.now c.loop-note.note-index c.note-item.result c.loop-note.found c.if-is_of.found c.loop-note-test.true c.note-item.is before next)
