use Rattle.std.proofs.Common.{rules, ◌≡◌, ◌≢◌, ◌∙◌, sym, true, false, [], length}
use Rattle.grasp_audit.proofs.Heading.{begin_passed, ends_here, ends_nowhere, no_bytes, pass_line}
use Rattle.grasp_audit.proofs.headers.header_end.Goals as goal

pub loop-rest-init : goal.loop-rest-init
loop-rest-init c = begin_passed c.args.text.now

pub returns-then-is_start : goal.returns-then-is_start
returns-then-is_start c =
    let left : c.loop-rest.rest.now ≢ [] = search rules in
    let yes : c.is_start.result ≡ true = search rules in
    ends_here c.args.text.now c.loop-rest.rest.now c.split_line.result.0.now c.split_line.result.1.now c.loop-rest.lines c.loop-rest.invariant left c.split_line.ensures.cut c.split_line.ensures.first (c.is_start.ensures.0 yes)

pub loop-rest-preserved : goal.loop-rest-preserved
loop-rest-preserved c =
    let left : c.loop-rest.rest.now ≢ [] = search rules in
    let no : c.is_start.result ≡ false = search rules in
    pass_line c.args.text.now c.loop-rest.rest.now c.split_line.result.0.now c.split_line.result.1.now c.loop-rest.lines c.loop-rest.invariant left c.split_line.ensures.cut c.split_line.ensures.first
    (λ s. absurd (let z : true ≡ false = sym (c.is_start.ensures.1 s) ∙ no in cc))

pub returns : goal.returns
returns c =
    let none : length c.loop-rest.rest.now ≡ 0 = search rules in
    let over : c.loop-rest.rest.now ≡ [] = no_bytes c.loop-rest.rest.now none in
    ends_nowhere c.args.text.now c.loop-rest.rest.now c.loop-rest.lines c.loop-rest.invariant over
