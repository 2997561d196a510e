use Rattle.grasp_config.proofs.Collected.{ReadUpTo}
use Rattle.grasp_config.proofs.items.all_of.Given as goal

abbrev pub invariant-loop-i : goal.invariant-loop-i
invariant-loop-i g l = ReadUpTo g.T.Element.read l.values l.i l.list
