use Rattle.std.proofs.Common.{rules, arith, ◌≡◌, ◌+◌, ◌∷◌, [], List, ℕ, inl, sym, ap, subst, ◌∙◌}
use Rattle.grasp_script.specs.Acts.{IsLine, IsNoLine}
use Rattle.grasp_script.specs.Scripts.{text_lines}
use Rattle.grasp_script.specs.declared.line.Line.{Line}
use Rattle.grasp_script.proofs.LinesRead.{LinesRead, lines_more, lines_read, line_unfit}
use Rattle.grasp_script.proofs.ScriptLaws.{one_script, unfit_no_script}
use Rattle.grasp_script.proofs.script.parse_script.Goals as goal

pub returns-in-None-clause-none : goal.returns-in-None-clause-none
returns-in-None-clause-none c =
    let bad : IsNoLine c.in_ok-plan.plan.nodes c.in-Some.line.now = rw c.in-None.is at c.in_ok-meant.ensures.none in
    unfit_no_script c.args.text.now (c.loop-line.number + 1) (line_unfit c.args.text.now (text_lines c.loop-line.rest.now) c.in_ok-plan.plan c.loop-line.lines c.loop-line.number c.in-Some.line.now (text_lines c.in-Some.behind.now) c.loop-line.invariant.read c.in-Some.ensures.line bad)

pub returns-in-None-clause-place : goal.returns-in-None-clause-place
returns-in-None-clause-place c =
    let bad : IsNoLine c.in_ok-plan.plan.nodes c.in-Some.line.now = rw c.in-None.is at c.in_ok-meant.ensures.none in
    inl (line_unfit c.args.text.now (text_lines c.loop-line.rest.now) c.in_ok-plan.plan c.loop-line.lines c.loop-line.number c.in-Some.line.now (text_lines c.in-Some.behind.now) c.loop-line.invariant.read c.in-Some.ensures.line bad)

pub loop-line-preserved : goal.loop-line-preserved
loop-line-preserved c =
    let meant : IsLine c.in_ok-plan.plan.nodes c.in-Some.line.now c.in-Some-2.meant.act = rw c.in-Some-2.is at c.in_ok-meant.ensures.found in
    let text : c.in-Some-2.meant.text ≡ c.in-Some.line.now = rw c.in-Some-2.is at c.in_ok-meant.ensures.text in
    let first : text_lines c.loop-line.rest.now ≡ c.in-Some-2.meant.text ∷ text_lines c.in-Some.behind.now = c.in-Some.ensures.line ∙ ap (λ (t : List ℕ). t ∷ text_lines c.in-Some.behind.now) (sym text) in
    let is : IsLine c.in_ok-plan.plan.nodes c.in-Some-2.meant.text c.in-Some-2.meant.act = subst (λ (t : List ℕ). IsLine c.in_ok-plan.plan.nodes t c.in-Some-2.meant.act) (sym text) meant in
    let more = lines_more c.args.text.now (text_lines c.loop-line.rest.now) c.in_ok-plan.plan c.loop-line.lines c.loop-line.number c.in-Some-2.meant (text_lines c.in-Some.behind.now) c.loop-line.invariant.read first is in
    let less = c.in-Some.ensures.shorter in record {
      read = subst (λ (s : List Line). LinesRead c.args.text.now (text_lines c.in-Some.behind.now) c.in_ok-plan.plan s (c.loop-line.number + 1)) (sym c.in_ok-push.ensures.ok) more;
      room = omega (arith, c.loop-line.invariant.room, less);
    }

pub returns-clause-only : goal.returns-clause-only
returns-clause-only c =
    let over : text_lines c.loop-line.rest.now ≡ [] = search rules in
    λ plan lines is. one_script c.args.text.now c.in_ok-plan.plan plan c.loop-line.lines lines (lines_read c.args.text.now (text_lines c.loop-line.rest.now) c.in_ok-plan.plan c.loop-line.lines c.loop-line.number c.loop-line.invariant.read over) is
