use Rattle.std.proofs.Common.{rules, arith, ◌≡◌, ◌-◌, ◌+◌, true, false, [], sym, ◌∙◌, take, ap, ℕ}
use Rattle.grasp_script.specs.Scripts.{text_lines}
use Rattle.grasp_script_parts.specs.Starting.{has_start, is_start}
use Rattle.grasp_script_parts.proofs.Looking.{here_is, no_lines, none_taken, not_here}
use Rattle.grasp_script_parts.proofs.split.starts_before.Goals as goal

pub returns-in_default : goal.returns-in_default
returns-in_default c =
    let none : text_lines c.loop-next.rest.now ≡ [] = search rules in
    sym (c.loop-next.invariant.same ∙ no_lines (c.args.number - c.loop-next.next) (text_lines c.loop-next.rest.now) none)

pub returns-then-eq : goal.returns-then-eq
returns-then-eq c =
    let is : is_start c.in-Some.line.now ≡ true = search rules in
    sym (c.loop-next.invariant.same ∙ here_is (c.args.number - c.loop-next.next) c.in-Some.line.now (text_lines c.loop-next.rest.now) (text_lines c.in-Some.behind.now) c.in-Some.ensures.line (omega arith) is)

pub loop-next-preserved : goal.loop-next-preserved
loop-next-preserved c =
    let is : is_start c.in-Some.line.now ≡ false = search rules in
    let less : c.args.number - c.loop-next.next - 1 ≡ c.args.number - (c.loop-next.next + 1) = omega arith in
    record {
      least = omega arith;
      same = c.loop-next.invariant.same
          ∙ not_here (c.args.number - c.loop-next.next) c.in-Some.line.now (text_lines c.loop-next.rest.now) (text_lines c.in-Some.behind.now) c.in-Some.ensures.line (omega arith) is
          ∙ ap (λ (n : ℕ). has_start (take n (text_lines c.in-Some.behind.now))) less;
    }

pub returns : goal.returns
returns c =
    let none : c.args.number - c.loop-next.next ≡ 0 = omega arith in
    sym (c.loop-next.invariant.same ∙ ap (λ (n : ℕ). has_start (take n (text_lines c.loop-next.rest.now))) none ∙ none_taken (text_lines c.loop-next.rest.now))
