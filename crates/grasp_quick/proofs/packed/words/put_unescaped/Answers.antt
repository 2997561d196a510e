use Rattle.grasp_quick.proofs.PackedWords.{none_unescaped, more_unescaped}
use Rattle.grasp_quick.proofs.packed.words.put_unescaped.Goals as goal

pub loop-i-init : goal.loop-i-init
loop-i-init c = none_unescaped c.args.escaped.now c.args.bytes.now

pub loop-i-preserved : goal.loop-i-preserved
loop-i-preserved c =
    more_unescaped c.loop-i.i c.in_ok-byte.byte c.args.escaped.now c.loop-i.rest.now c.in_ok-byte.after.now c.args.bytes.now c.loop-i.bytes
    c.put.new.self
    c.loop-i.invariant c.in_ok-byte.ensures.found c.in_ok-put.ensures
