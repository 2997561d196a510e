use Rattle.std.proofs.Common.{◌≡◌, ◌+◌, ◌++◌, ◌∷◌, [], ◌∙◌, ap, sym, subst, List, take, refl, append_assoc}
use Rattle.std.specs.List.{AllZip}
use Rattle.std.proofs.lemmas.List.{take_more}
use Rattle.grasp_simulator.specs.Restarts.{IsMarkOf}
use Rattle.grasp_simulator.specs.declared.marks.Mark.{Mark}
use Rattle.grasp_simulator.specs.declared.seat.Seat.{Seat as SeatCode}
use Rattle.grasp_simulator.proofs.RestartMarks.{zip_push}
use Rattle.grasp_simulator.proofs.world_turns.mark_all.Goals as goal

pub loop-seat-preserved : goal.loop-seat-preserved
loop-seat-preserved c =
    let seats : List SeatCode = c.args.seats.now in
    let i = c.loop-seat.seat-index in
    let seat : SeatCode = c.seat-item.result in
    let m : Mark = record { life = seat.life; node = c.args.node; dialled = c.dialled.result } in
    let was = c.loop-seat.invariant in
    let next : take (i + 1) seats ≡ take i seats ++ seat ∷ [] = take_more seats i seat c.loop-seat-test.true ∙ ap (λ (x : SeatCode). take i seats ++ x ∷ []) (sym c.seat-item.is) in
    record {
      added = was.added ++ m ∷ [];
      are = c.in_ok-push.ensures.ok ∙ (ap (λ (ms : List Mark). ms ++ m ∷ []) was.are ∙ append_assoc c.args.marks.now was.added (m ∷ []));
      each = subst (λ (l : List SeatCode). AllZip (IsMarkOf c.args.node) l (was.added ++ m ∷ [])) (sym next)
          (zip_push (IsMarkOf c.args.node) (take i seats) was.added seat m was.each (record { life = refl; node_is = refl; dialled = c.dialled.ensures }));
    }
