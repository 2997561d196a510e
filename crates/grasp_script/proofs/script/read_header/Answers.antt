use Rattle.std.proofs.Common.{rules, arith, ◌≡◌, ◌+◌, [], true, false, inl, inr, sym, subst, ◌∙◌}
use Rattle.grasp_text.specs.Words.{words_of}
use Rattle.grasp_model_network.specs.Plans.{IsGoodPlan}
use Rattle.grasp_model_network.specs.declared.plan.WorldPlan.{WorldPlan}
use Rattle.grasp_script.specs.Headers.{start_words, header_line_words, plan_with}
use Rattle.grasp_script.specs.Reads.{SoFar}
use Rattle.grasp_script.specs.Scripts.{text_lines}
use Rattle.grasp_script.specs.declared.header.HeaderLine.{HeaderLine}
use Rattle.grasp_script.proofs.ScriptLaws.{unfit_no_script}
use Rattle.grasp_script.proofs.SoFar.{told_more, told_header, told_unfit, told_missing}
use Rattle.grasp_script.proofs.Splitting.{behind_both}
use Rattle.grasp_script.proofs.script.read_header.Goals as goal

pub returns-then-is_start-clause-read : goal.returns-then-is_start-clause-read
returns-then-is_start-clause-read c =
    let yes : c.is_start.result ≡ true = search rules in
    told_header c.args.text.now c.loop-line.rest.now c.loop-line.plan c.loop-line.number c.loop-line.invariant.read c.in-Some-first_line.line.now c.in-Some-first_line.behind.now c.in-Some-first_line.ensures.line (c.is_start.ensures.0 yes)

pub returns-in-None-2-clause-none : goal.returns-in-None-2-clause-none
returns-in-None-2-clause-none c =
    let no : c.is_start.result ≡ false = search rules in
    let other : ¬ (words_of c.in-Some-first_line.line.now ≡ start_words) = (λ s. absurd (let z : true ≡ false = sym (c.is_start.ensures.1 s) ∙ no in cc)) in
    let bad : (i : HeaderLine) → words_of c.in-Some-first_line.line.now ≡ header_line_words i → ¬ IsGoodPlan (plan_with c.loop-line.plan i) = rw c.in-None-2.is at c.in_ok-told.ensures.none in
    unfit_no_script c.args.text.now (c.loop-line.number + 1) (told_unfit c.args.text.now c.loop-line.rest.now c.loop-line.plan c.loop-line.number c.loop-line.invariant.read c.in-Some-first_line.line.now (text_lines c.in-Some-first_line.behind.now) c.in-Some-first_line.ensures.line other bad)

pub returns-in-None-2-clause-place : goal.returns-in-None-2-clause-place
returns-in-None-2-clause-place c =
    let no : c.is_start.result ≡ false = search rules in
    let other : ¬ (words_of c.in-Some-first_line.line.now ≡ start_words) = (λ s. absurd (let z : true ≡ false = sym (c.is_start.ensures.1 s) ∙ no in cc)) in
    let bad : (i : HeaderLine) → words_of c.in-Some-first_line.line.now ≡ header_line_words i → ¬ IsGoodPlan (plan_with c.loop-line.plan i) = rw c.in-None-2.is at c.in_ok-told.ensures.none in
    inl (told_unfit c.args.text.now c.loop-line.rest.now c.loop-line.plan c.loop-line.number c.loop-line.invariant.read c.in-Some-first_line.line.now (text_lines c.in-Some-first_line.behind.now) c.in-Some-first_line.ensures.line other bad)

pub loop-line-preserved : goal.loop-line-preserved
loop-line-preserved c =
    let found : words_of c.in-Some-first_line.line.now ≡ header_line_words c.in-Some-2.told = rw c.in-Some-2.is at c.in_ok-told.ensures.found in
    let good : IsGoodPlan (plan_with c.loop-line.plan c.in-Some-2.told) = rw c.in-Some-2.is at c.in_ok-told.ensures.good in
    let less = c.in-Some-first_line.ensures.shorter in record {
      read = subst (λ (p : WorldPlan). SoFar c.args.text.now c.in-Some-first_line.behind.now p (c.loop-line.number + 1)) (sym c.in_ok-tell.ensures) (told_more c.args.text.now c.loop-line.rest.now c.loop-line.plan c.loop-line.number c.loop-line.invariant.read c.in-Some-first_line.line.now c.in-Some-first_line.behind.now c.in-Some-2.told c.in-Some-first_line.ensures.line found good);
      room = omega (arith, c.loop-line.invariant.room, less);
      behind = behind_both c.args.text.now c.loop-line.rest.now c.in-Some-first_line.behind.now c.loop-line.invariant.behind c.in-Some-first_line.ensures.behind;
    }

pub returns-clause-none : goal.returns-clause-none
returns-clause-none c =
    let over : text_lines c.loop-line.rest.now ≡ [] = search rules in
    let missing = told_missing c.args.text.now c.loop-line.rest.now c.loop-line.plan c.loop-line.number c.loop-line.invariant.read over in
    missing.none

pub returns-clause-place : goal.returns-clause-place
returns-clause-place c =
    let over : text_lines c.loop-line.rest.now ≡ [] = search rules in
    inr (told_missing c.args.text.now c.loop-line.rest.now c.loop-line.plan c.loop-line.number c.loop-line.invariant.read over)

pub returns-then-is_start-clause-behind : goal.returns-then-is_start-clause-behind
returns-then-is_start-clause-behind c =
    behind_both c.args.text.now c.loop-line.rest.now c.in-Some-first_line.behind.now c.loop-line.invariant.behind c.in-Some-first_line.ensures.behind
