use Rattle.std.proofs.Common.{rules, ◌≡◌, ◌+◌, ◌≤◌, ◌∷◌, ◌++◌, [], List, ℕ, inl, length, sym, ap, subst, ◌∙◌}
use Rattle.grasp_script.specs.Scripts.{text_lines}
use Rattle.grasp_script.specs.declared.script.Head.{Head}
use Rattle.grasp_script_doubts.specs.Lines.{IsDoubtLine, IsNoDoubtLine}
use Rattle.grasp_script_doubts.specs.Scripts.{IsItsDoubtLine, doubt_texts}
use Rattle.grasp_script_doubts.specs.declared.line.DoubtLine.{DoubtLine}
use Rattle.grasp_script_doubts.specs.declared.script.DoubtScript.{DoubtScript}
use Rattle.grasp_script_doubts.proofs.Counting.{room_for_line}
use Rattle.grasp_script_doubts.proofs.LinesRead.{LinesRead, lines_more, lines_read, line_unfit}
use Rattle.grasp_script_doubts.proofs.ScriptLaws.{one_script, told_bad, told_none, unfit_no_script}
use Rattle.grasp_script_doubts.proofs.script.parse_doubt_script.Goals as goal

pub returns-in-Err-clause-none : goal.returns-in-Err-clause-none
returns-in-Err-clause-none c = told_none Head DoubtScript c.args.text.now c.in-Err.fault c.in-Err.ensures.bad

pub returns-in-Err-clause-place : goal.returns-in-Err-clause-place
returns-in-Err-clause-place c = told_bad Head DoubtScript c.args.text.now c.in-Err.fault c.in-Err.ensures.bad

pub overflow_add-result : goal.overflow_add-result
overflow_add-result c =
    let room : c.loop-line.number + 1 ≤ length c.args.text.now =
    room_for_line c.args.text.now c.in-Some.line.now (c.loop-line.invariant.header ++ doubt_texts c.loop-line.lines) (text_lines c.loop-line.rest.now) (text_lines c.in-Some.behind.now) c.loop-line.number
    c.loop-line.invariant.parts c.in-Some.ensures.line c.loop-line.invariant.place in
    search rules

pub overflow_add-number : goal.overflow_add-number
overflow_add-number c =
    let room : c.loop-line.number + 1 ≤ length c.args.text.now =
    room_for_line c.args.text.now c.in-Some.line.now (c.loop-line.invariant.header ++ doubt_texts c.loop-line.lines) (text_lines c.loop-line.rest.now) (text_lines c.in-Some.behind.now) c.loop-line.number
    c.loop-line.invariant.parts c.in-Some.ensures.line c.loop-line.invariant.place in
    search rules

pub returns-in-None-clause-none : goal.returns-in-None-clause-none
returns-in-None-clause-none c =
    let bad : IsNoDoubtLine c.in-Ok.head.plan.nodes c.in-Some.line.now = rw c.in-None.is at c.in_ok-meant.ensures.none in
    unfit_no_script c.args.text.now (c.loop-line.number + 1)
    (line_unfit c.args.text.now (text_lines c.loop-line.rest.now) c.in-Ok.head.plan c.loop-line.lines c.loop-line.number c.in-Some.line.now (text_lines c.in-Some.behind.now) c.loop-line.invariant c.in-Some.ensures.line bad)

pub returns-in-None-clause-place : goal.returns-in-None-clause-place
returns-in-None-clause-place c =
    let bad : IsNoDoubtLine c.in-Ok.head.plan.nodes c.in-Some.line.now = rw c.in-None.is at c.in_ok-meant.ensures.none in
    inl (line_unfit c.args.text.now (text_lines c.loop-line.rest.now) c.in-Ok.head.plan c.loop-line.lines c.loop-line.number c.in-Some.line.now (text_lines c.in-Some.behind.now) c.loop-line.invariant c.in-Some.ensures.line bad)

pub loop-line-preserved : goal.loop-line-preserved
loop-line-preserved c =
    let meant : IsDoubtLine c.in-Ok.head.plan.nodes c.in-Some.line.now c.in-Some-2.meant.act = rw c.in-Some-2.is at c.in_ok-meant.ensures.found in
    let text : c.in-Some-2.meant.text ≡ c.in-Some.line.now = rw c.in-Some-2.is at c.in_ok-meant.ensures.text in
    let first : text_lines c.loop-line.rest.now ≡ c.in-Some-2.meant.text ∷ text_lines c.in-Some.behind.now = c.in-Some.ensures.line ∙ ap (λ (t : List ℕ). t ∷ text_lines c.in-Some.behind.now) (sym text) in
    let is : IsItsDoubtLine c.in-Ok.head.plan.nodes c.in-Some-2.meant = subst (λ (t : List ℕ). IsDoubtLine c.in-Ok.head.plan.nodes t c.in-Some-2.meant.act) (sym text) meant in
    let more = lines_more c.args.text.now (text_lines c.loop-line.rest.now) c.in-Ok.head.plan c.loop-line.lines c.loop-line.number c.in-Some-2.meant (text_lines c.in-Some.behind.now) c.loop-line.invariant first is in
    subst (λ (s : List DoubtLine). LinesRead c.args.text.now (text_lines c.in-Some.behind.now) c.in-Ok.head.plan s (c.loop-line.number + 1)) (sym c.in_ok-push.ensures.ok) more

pub returns-clause-only : goal.returns-clause-only
returns-clause-only c =
    let over : text_lines c.loop-line.rest.now ≡ [] = search rules in
    λ plan lines is. one_script c.args.text.now c.in-Ok.head.plan plan c.loop-line.lines lines
    (lines_read c.args.text.now (text_lines c.loop-line.rest.now) c.in-Ok.head.plan c.loop-line.lines c.loop-line.number c.loop-line.invariant over) is
