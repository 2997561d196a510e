use Rattle.grasp_quick.proofs.Sequence.{found_both, side_by_side, diverted}
use Rattle.grasp_quick.proofs.parts.spell_answer.Goals as goal

pub returns-in_ok-put-in-None : goal.returns-in_ok-put-in-None
returns-in_ok-put-in-None c = found_both _ _ _ c.spell_locators.result c.spell_locators.ensures.words c.spell_locators.ensures.some (λ p h some.
    side_by_side p.0 c.args.bytes.now p.1.now c.args.line.now c.put.new.self c.spell_locators.new.line some c.in_ok-put-in-None.ensures h)

pub returns-then-used-count : goal.returns-then-used-count
returns-then-used-count c =
    let d = c.in-Some.ensures in
    diverted c.in-Some.count c.in_ok-used-in-Some.used c.args.bytes.now d.0 c.in-Some.behind.now c.in_ok-used-in-Some.rest.now c.args.line.now c.put-in-Some.new.self c.spell_locators-in-Some.new.line
    d.1 d.2 c.if-used-count.true c.in_ok-used-in-Some.ensures.some c.in_ok-put-in-Some.ensures c.in_ok-used-in-Some.ensures.words
