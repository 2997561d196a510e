use Rattle.std.proofs.Common.{subst, sym, ap}
use Rattle.grasp_shared.specs.Names.{MayEnd, Ended}
use Rattle.grasp_shared.specs.Calls.{answered}
use Rattle.grasp_types.specs.declared.traffic.Input.{Input}
use Rattle.grasp_shared.specs.Plays.{Sat}
use Rattle.grasp_shared.proofs.Turns.{may_end, turned}
use Rattle.grasp_shared.proofs.shared.Shared.turn.Goals as goal

pub finish-requires-clause-turn : goal.finish-requires-clause-turn
finish-requires-clause-turn c =
    subst (λ (x : Input). MayEnd c.step-reply.new.seat.me (answered c.args.now x c.step-reply.result)) (sym c.of-asked.ensures)
    (may_end c.args.seat.now.me c.begin.new.seat.me c.step-reply.new.seat.me _ c.requires.idle.1 c.in-Ok.ensures.begun c.step-reply.ensures.stepped)

pub returns-in-Ok-clause-turn : goal.returns-in-Ok-clause-turn
returns-in-Ok-clause-turn c =
    let e : Ended c.step-reply.new.seat.me c.finish.new.seat.me (answered c.args.now c.args.input c.step-reply.result) =
    subst (λ (x : Input). Ended c.step-reply.new.seat.me c.finish.new.seat.me (answered c.args.now x c.step-reply.result)) c.of-asked.ensures c.finish.ensures.call in
    turned c.args.seat.now.me c.begin.new.seat.me c.step-reply.new.seat.me c.finish.new.seat.me (answered c.args.now c.args.input c.step-reply.result) c.in-Ok.ensures.begun c.step-reply.ensures.stepped e.0 e.1

pub step-reply-requires-clause-held : goal.step-reply-requires-clause-held
step-reply-requires-clause-held c = let b = c.in-Ok.ensures.begun in (b.1, ap (λ (m : Sat). m.1) b.4)
