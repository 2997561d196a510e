use Rattle.std.proofs.Common.{◌≡◌, Ok, Err, sym, ap, subst, ◌∙◌, arith, ◌≤◌}
use Rattle.grasp_text.specs.Reading.{Fails}
use Rattle.grasp_text.specs.Words.{words_of}
use Rattle.grasp_text.specs.declared.fault.WordFault.{WordFault}
use Rattle.grasp_script_doubts.specs.Reading.{doubts_at}
use Rattle.grasp_script_doubts.proofs.DoubtLines.{told_meant, told_none, told_other}
use Rattle.grasp_script_doubts.proofs.lines.read_doubt_line.Goals as goal

pub returns-in-Ok-clause-found : goal.returns-in-Ok-clause-found
returns-in-Ok-clause-found c =
    let few : c.args.nodes ≤ 255 = omega arith in
    let e : doubts_at c.args.nodes (words_of c.args.line.now) ≡ Ok (c.in-Ok.act, c.read_doubts.new.words) = ap (doubts_at c.args.nodes) (sym c.of-words.ensures) ∙ c.in-Ok.ensures in
    told_meant c.with_text.result c.args.nodes few c.args.line.now c.in-Ok.act c.read_doubts.new.words e c.with_text.ensures.act c.with_text.ensures.utf8

pub returns-in-Ok-clause-none : goal.returns-in-Ok-clause-none
returns-in-Ok-clause-none c = told_none c.with_text.result c.args.nodes c.args.line.now c.with_text.ensures.none

pub returns-in-Err-Unfit-clause-none : goal.returns-in-Err-Unfit-clause-none
returns-in-Err-Unfit-clause-none c =
    let few : c.args.nodes ≤ 255 = omega arith in
    let e : doubts_at c.args.nodes (words_of c.args.line.now) ≡ Err c.in-Err-Unfit.field-0-0 =
    ap (doubts_at c.args.nodes) (sym c.of-words.ensures) ∙ subst (λ (f : WordFault). Fails f (doubts_at c.args.nodes c.of-words.result)) c.in-Err-Unfit.field-0-is c.in-Err-Unfit.ensures in
    told_other c.read_plain.result c.args.nodes few c.args.line.now c.in-Err-Unfit.field-0-0 e c.read_plain.ensures.none
