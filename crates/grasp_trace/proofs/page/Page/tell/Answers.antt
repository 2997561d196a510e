use Rattle.grasp_trace.proofs.page.Page.tell.Goals as goal

pub returns-then-tell_all : goal.returns-then-tell_all
returns-then-tell_all g c past h = rw c.if-tell_all.true at (c.tell_all.ensures past h)
