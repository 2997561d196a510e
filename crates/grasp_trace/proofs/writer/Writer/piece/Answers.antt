use Rattle.std.proofs.Common.{refl, sym}
use Rattle.grasp_trace.proofs.Watching.{piece_watched, piece_unwatched, alone_then}
use Rattle.grasp_trace.proofs.writer.Writer.piece.Goals as goal

pub returns-in-Some-clause-told : goal.returns-in-Some-clause-told
returns-in-Some-clause-told g c =
    piece_watched _ _ _ _ _ _ c.in-Some.cutter _ _ (sym c.in-Some.ensures.cutter) (c.put.ensures (c.in-Some.ensures.there refl)).this c.messages-left.ensures

pub returns-in-Some-clause-alone : goal.returns-in-Some-clause-alone
returns-in-Some-clause-alone g c = alone_then _ _ _ _ _ c.in-Some.ensures.then.alone (c.put.ensures (c.in-Some.ensures.there refl)).alone

pub returns-in-None-clause-told : goal.returns-in-None-clause-told
returns-in-None-clause-told g c = piece_unwatched _ _ _ _ _ _ (sym c.in-None.ensures.cutter) c.in-None.ensures.then.this

pub returns-in-None-clause-alone : goal.returns-in-None-clause-alone
returns-in-None-clause-alone g c = c.in-None.ensures.then.alone
