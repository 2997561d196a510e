use Rattle.std.proofs.Common.{◌≡◌, ◌≤◌, Ok, Err, sym, ap, subst, ◌∙◌, arith}
use Rattle.grasp_text.specs.Reading.{Fails}
use Rattle.grasp_text.specs.Words.{words_of}
use Rattle.grasp_text.specs.declared.fault.WordFault.{WordFault}
use Rattle.grasp_record.specs.Grammar.{record_at}
use Rattle.grasp_record.proofs.LineLaws.{line_only, line_none, line_undivided}
use Rattle.grasp_record.proofs.records.read_record_line.Goals as goal

pub returns-in_default-clause-none : goal.returns-in_default-clause-none
returns-in_default-clause-none c =
    let few : c.args.nodes ≤ 255 = omega arith in
    line_undivided c.args.nodes few c.args.line.now c.in_default.ensures.none

pub returns-in-Ok-clause-found : goal.returns-in-Ok-clause-found
returns-in-Ok-clause-found c =
    let few : c.args.nodes ≤ 255 = omega arith in
    let front = words_of c.in-Some.front.now in
    let back = words_of c.in-Some.back.now in
    let read : record_at c.args.nodes front back ≡ Ok (c.in-Ok.record, c.read_record.new.behind) = ap (λ ws. record_at c.args.nodes ws back) (sym c.of-before.ensures) ∙ ap (record_at c.args.nodes c.of-before.result) (sym c.of-behind.ensures) ∙ c.in-Ok.ensures in
    line_only c.args.nodes few c.args.line.now front back c.in-Ok.record c.read_record.new.behind c.in-Some.ensures.some read

pub returns-in-Err-Unfit-clause-none : goal.returns-in-Err-Unfit-clause-none
returns-in-Err-Unfit-clause-none c =
    let few : c.args.nodes ≤ 255 = omega arith in
    let front = words_of c.in-Some.front.now in
    let back = words_of c.in-Some.back.now in
    let bad : record_at c.args.nodes c.of-before.result c.of-behind.result ≡ Err c.in-Err-Unfit.field-0-0 = subst (λ (f : WordFault). Fails f (record_at c.args.nodes c.of-before.result c.of-behind.result)) c.in-Err-Unfit.field-0-is c.in-Err-Unfit.ensures in
    line_none c.args.nodes few c.args.line.now front back c.in-Err-Unfit.field-0-0 c.in-Some.ensures.some (ap (λ ws. record_at c.args.nodes ws back) (sym c.of-before.ensures) ∙ ap (record_at c.args.nodes c.of-before.result) (sym c.of-behind.ensures) ∙ bad)
