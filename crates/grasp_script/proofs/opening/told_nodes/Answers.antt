use Rattle.std.proofs.Common.{◌≡◌, ◌≤◌, arith}
use Rattle.std.specs.Prelude.{codes}
use Rattle.grasp_text.specs.Words.{words_of}
use Rattle.grasp_script.proofs.Openings.{other_number}
use Rattle.grasp_script.proofs.opening.told_nodes.Goals as goal

pub returns-else-n-ge1-clause-none : goal.returns-else-n-ge1-clause-none
returns-else-n-ge1-clause-none c = λ n is e.
    let within : c.in-Some.n ≤ 64 = c.in-Some.ensures.within in
    let most : n ≤ 64 = is.most in
    let least = is.least in
    let less = c.if-n-ge1.false in
    let same : n ≡ c.in-Some.n = other_number (codes "nodes") (words_of c.args.line.now) c.in-Some.n n c.in-Some.ensures.found (omega arith) e (omega arith) in
    absurd (omega arith)
