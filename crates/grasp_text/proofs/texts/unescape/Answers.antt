use Rattle.std.proofs.Common.{rules, List, ℕ, sym, ap, ◌∙◌}
use Rattle.grasp_text.specs.Reading.{unescaped}
use Rattle.grasp_text.proofs.TextWords.{with_front, goes_on, ends, is_done}
use Rattle.grasp_text.proofs.texts.unescape.Goals as goal

pub returns-in_default : goal.returns-in_default
returns-in_default c = sym (ends c.loop-rest.bytes.items c.loop-rest.rest.now (unescaped c.args.escaped.now) (search rules) (search rules) c.loop-rest.invariant)

pub loop-rest-preserved : goal.loop-rest-preserved
loop-rest-preserved c =
    ap (λ (x : List ℕ). with_front x (unescaped c.in-Some.after.now)) c.in_ok-push.ensures.items
    ∙ goes_on c.loop-rest.bytes.items c.loop-rest.rest.now c.in-Some.after.now c.in-Some.byte (unescaped c.args.escaped.now) (sym c.in-Some.ensures.value) c.loop-rest.invariant

pub returns : goal.returns
returns c = sym (is_done c.loop-rest.bytes.items c.loop-rest.rest.now (unescaped c.args.escaped.now) (search rules) c.loop-rest.invariant)
