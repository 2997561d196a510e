use Rattle.std.proofs.Common.{◌≡◌, ◌≤◌, arith}
use Rattle.grasp_script.specs.Acts.{IsLine, IsNoLine}
use Rattle.grasp_script_doubts.proofs.DoubtLines.{none_plain, plain_meant, plain_none, plain_text}
use Rattle.grasp_script_doubts.proofs.lines.read_plain.Goals as goal

pub returns-in-Some-clause-text : goal.returns-in-Some-clause-text
returns-in-Some-clause-text c =
    let same : c.in-Some.line.text ≡ c.args.line.now = rw c.in-Some.is at c.in_ok-line.ensures.text in
    plain_text c.in-Some.line.text c.args.line.now c.plain_line.result same c.plain_line.ensures.text

pub returns-in-Some-clause-found : goal.returns-in-Some-clause-found
returns-in-Some-clause-found c =
    let is : IsLine c.args.nodes c.args.line.now c.in-Some.line.act = rw c.in-Some.is at c.in_ok-line.ensures.found in
    plain_meant c.args.nodes c.args.line.now c.in-Some.line.act c.plain_line.result is c.plain_line.ensures.act c.plain_line.ensures.other

pub returns-in-Some-clause-none : goal.returns-in-Some-clause-none
returns-in-Some-clause-none c =
    let few : c.args.nodes ≤ 255 = omega arith in
    let is : IsLine c.args.nodes c.args.line.now c.in-Some.line.act = rw c.in-Some.is at c.in_ok-line.ensures.found in
    plain_none c.args.nodes few c.args.line.now c.in-Some.line.act c.plain_line.result is c.plain_line.ensures.none

pub returns-in-None-clause-none : goal.returns-in-None-clause-none
returns-in-None-clause-none c =
    let none : IsNoLine c.args.nodes c.args.line.now = rw c.in-None.is at c.in_ok-line.ensures.none in
    none_plain c.args.nodes c.args.line.now none
