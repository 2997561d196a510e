use Rattle.grasp_store.proofs.Openings.{opening_breaks, read_bad, read_begins, read_refuses}
use Rattle.grasp_store.proofs.opening.begin.Goals as goal

pub returns-in-Err-clause-refused : goal.returns-in-Err-clause-refused
returns-in-Err-clause-refused g c = λ log stands size. opening_breaks (g.D.Disk.stands c.read_slots.new.disk) log (c.in-Err.ensures.failed log stands)

pub returns-in-Err-look-clause-refused : goal.returns-in-Err-look-clause-refused
returns-in-Err-look-clause-refused g c = λ log stands size.
    read_bad (g.D.Disk.stands c.read_slots.new.disk) c.args.roots.now log c.read_slots.new.first c.read_slots.new.second (c.in-Ok.ensures.gives_first log stands)
    (c.in-Ok.ensures.gives_second log stands) (c.in-Ok.ensures.done log stands) c.in-Err-look.fault c.in-Err-look.ensures.bad

pub returns-in-Ok-take-clause-begun : goal.returns-in-Ok-take-clause-begun
returns-in-Ok-take-clause-begun g c = λ log stands size.
    read_begins (g.D.Disk.stands c.read_slots.new.disk) c.args.roots.now log c.read_slots.new.first c.read_slots.new.second (c.in-Ok.ensures.gives_first log stands)
    (c.in-Ok.ensures.gives_second log stands) (c.in-Ok.ensures.done log stands) c.in-Ok-look.position c.in-Ok-look.ensures.found c.in-Ok-take.memory.image c.in-Ok-take.agent
    c.in-Ok-take.ensures.from

pub returns-in-Err-take-clause-refused : goal.returns-in-Err-take-clause-refused
returns-in-Err-take-clause-refused g c = λ log stands size.
    read_refuses (g.D.Disk.stands c.read_slots.new.disk) c.args.roots.now log c.read_slots.new.first c.read_slots.new.second (c.in-Ok.ensures.gives_first log stands)
    (c.in-Ok.ensures.gives_second log stands) (c.in-Ok.ensures.done log stands) c.in-Ok-look.position c.in-Ok-look.ensures.found size c.in-Err-take.fault
    c.in-Err-take.ensures.fault
