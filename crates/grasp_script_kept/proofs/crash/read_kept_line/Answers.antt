use Rattle.std.proofs.Common.{◌≡◌, Ok, Err, sym, ap, subst, ◌∙◌, arith, ◌≤◌}
use Rattle.grasp_text.specs.Reading.{Fails}
use Rattle.grasp_text.specs.Words.{words_of}
use Rattle.grasp_text.specs.declared.fault.WordFault.{WordFault}
use Rattle.grasp_script.specs.Acts.{IsNoLine}
use Rattle.grasp_script_kept.specs.Reading.{crash_at, crash_words_of}
use Rattle.grasp_script_kept.proofs.CrashLines.{none_kept, told_crash, told_none}
use Rattle.grasp_script_kept.proofs.crash.read_kept_line.Goals as goal

pub returns-in-Ok-clause-found : goal.returns-in-Ok-clause-found
returns-in-Ok-clause-found c =
    let few : c.args.nodes ≤ 255 = omega arith in
    let e : crash_at c.args.nodes (words_of c.args.line.now) ≡ Ok (crash_words_of c.in-Ok.crash, c.read_crash.new.words) = ap (crash_at c.args.nodes) (sym c.of-words.ensures) ∙ c.in-Ok.ensures in
    told_crash c.with_text.result c.args.nodes few c.args.line.now c.in-Ok.crash c.read_crash.new.words e c.with_text.ensures.text c.with_text.ensures.crash c.with_text.ensures.utf8

pub returns-in-Ok-clause-none : goal.returns-in-Ok-clause-none
returns-in-Ok-clause-none c = told_none c.with_text.result c.args.nodes c.args.line.now c.with_text.ensures.none

pub returns-in-None-clause-none : goal.returns-in-None-clause-none
returns-in-None-clause-none c =
    let few : c.args.nodes ≤ 255 = omega arith in
    let none : IsNoLine c.args.nodes c.args.line.now = rw c.in-None.is at c.in_ok-line-in-Err-Unfit.ensures.none in
    let e : crash_at c.args.nodes (words_of c.args.line.now) ≡ Err c.in-Err-Unfit.field-0-0 =
    ap (crash_at c.args.nodes) (sym c.of-words.ensures) ∙ subst (λ (f : WordFault). Fails f (crash_at c.args.nodes c.of-words.result)) c.in-Err-Unfit.field-0-is c.in-Err-Unfit.ensures in
    none_kept c.args.nodes few c.args.line.now c.in-Err-Unfit.field-0-0 e none
