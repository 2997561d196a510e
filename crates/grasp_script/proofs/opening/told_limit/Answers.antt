use Rattle.std.proofs.Common.{◌≡◌, ◌≤◌, arith}
use Rattle.std.specs.Prelude.{codes}
use Rattle.grasp_text.specs.Words.{words_of}
use Rattle.grasp_script.proofs.Openings.{other_number}
use Rattle.grasp_script.proofs.opening.told_limit.Goals as goal

pub returns-else-n-ge-LEAST_LIMIT-clause-none : goal.returns-else-n-ge-LEAST_LIMIT-clause-none
returns-else-n-ge-LEAST_LIMIT-clause-none c = λ n is e.
    let within : c.in-Some.n ≤ 8192 = c.in-Some.ensures.within in
    let most : n ≤ 8192 = is.most in
    let least = is.least in
    let less = c.if-n-ge-LEAST_LIMIT.false in
    let same : n ≡ c.in-Some.n = other_number (codes "size") (words_of c.args.line.now) c.in-Some.n n c.in-Some.ensures.found (omega arith) e (omega arith) in
    absurd (omega arith)
