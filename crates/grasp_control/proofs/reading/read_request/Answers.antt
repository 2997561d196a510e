use Rattle.std.proofs.Common.{◌≡◌, Err, sym, ap, subst, ◌∙◌}
use Rattle.grasp_text.specs.Reading.{Fails}
use Rattle.grasp_text.specs.Words.{words_of}
use Rattle.grasp_text.specs.declared.fault.WordFault.{WordFault}
use Rattle.grasp_control.specs.Grammar.{request_line_at}
use Rattle.grasp_control.proofs.Lines.{line_only, line_same, line_none, line_place, line_left}
use Rattle.grasp_control.proofs.reading.read_request.Goals as goal

pub overflow_sub-at : goal.overflow_sub-at
overflow_sub-at c =
    let e : request_line_at (words_of c.args.line.now) ≡ Err c.in-Err-Unfit.left
    = ap request_line_at (sym c.of-words.ensures) ∙ subst (λ (f : WordFault). Fails f (request_line_at c.of-words.result)) c.in-Err-Unfit.field-0-is c.in-Err-Unfit.ensures
    in line_left c.args.line.now c.in-Err-Unfit.left e

pub returns-in-Ok-clause-found : goal.returns-in-Ok-clause-found
returns-in-Ok-clause-found c =
    line_only c.args.line.now c.in-Ok.request c.read_words.new.words (ap request_line_at (sym c.of-words.ensures) ∙ c.in-Ok.ensures)

pub returns-in-Ok-clause-only : goal.returns-in-Ok-clause-only
returns-in-Ok-clause-only c =
    line_same c.args.line.now c.in-Ok.request c.read_words.new.words (ap request_line_at (sym c.of-words.ensures) ∙ c.in-Ok.ensures)

pub returns-in-Err-Unfit-clause-none : goal.returns-in-Err-Unfit-clause-none
returns-in-Err-Unfit-clause-none c =
    let e : request_line_at (words_of c.args.line.now) ≡ Err c.in-Err-Unfit.left
    = ap request_line_at (sym c.of-words.ensures) ∙ subst (λ (f : WordFault). Fails f (request_line_at c.of-words.result)) c.in-Err-Unfit.field-0-is c.in-Err-Unfit.ensures
    in line_none c.args.line.now c.in-Err-Unfit.left e

pub returns-in-Err-Unfit-clause-place : goal.returns-in-Err-Unfit-clause-place
returns-in-Err-Unfit-clause-place c =
    let e : request_line_at (words_of c.args.line.now) ≡ Err c.in-Err-Unfit.left
    = ap request_line_at (sym c.of-words.ensures) ∙ subst (λ (f : WordFault). Fails f (request_line_at c.of-words.result)) c.in-Err-Unfit.field-0-is c.in-Err-Unfit.ensures
    in line_place c.args.line.now c.in-Err-Unfit.left e
