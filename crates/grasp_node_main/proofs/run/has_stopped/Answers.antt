use Rattle.std.proofs.Common.{◌≡◌, ◌<◌, ◌∙◌, refl, ap, arith, length, slice_get, Some}
use Rattle.std.proofs.lemmas.Option.{slice_get_read, slice_get_within}
use Rattle.grasp_node_main.proofs.Ending.{going_more}
use Rattle.grasp_node_main.proofs.run.has_stopped.Goals as goal

pub loop-seat-preserved : goal.loop-seat-preserved
loop-seat-preserved c =
    let seats = c.deref-seat-items.result.now in
    let i = c.loop-seat.seat-index in
    going_more seats i c.seat-item.result (slice_get_read seats (length seats) i c.seat-item.result refl c.loop-seat-test.true c.seat-item.is) c.if-seat.false c.loop-seat.invariant

pub returns : goal.returns
returns c = λ _ place s at.
    let seats = c.deref-seat-items.result.now in
    let here : slice_get seats place ≡ Some s = ap (λ l. slice_get l place) c.deref-seat-items.ensures.value ∙ at in
    let within : place < length seats = slice_get_within seats place s here in
    c.loop-seat.invariant place s (omega (arith, within, c.loop-seat-test.false)) here
