use Rattle.std.proofs.KnownBytes.{Consumes-trans}
use Rattle.grasp_io.proofs.Streams.{Consumes-end}
use Rattle.grasp_io.proofs.reading.read_all.Goals as goal

pub returns-then-limit-len-clause-rest : goal.returns-then-limit-len-clause-rest
returns-then-limit-len-clause-rest g c =
    Consumes-end _ _ _ (Consumes-trans _ _ _ _ _ c.loop-content.invariant.taken c.in_ok-taken.ensures.bytes)
