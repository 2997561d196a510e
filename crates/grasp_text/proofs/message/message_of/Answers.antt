use Rattle.std.proofs.Common.{◌≡◌, Err, sym, ap, subst, ◌∙◌}
use Rattle.grasp_text.specs.Grammar.{message_at}
use Rattle.grasp_text.specs.Reading.{Fails}
use Rattle.grasp_text.specs.Words.{words_of}
use Rattle.grasp_text.specs.declared.fault.WordFault.{WordFault}
use Rattle.grasp_text.proofs.Lines.{line_only, line_same, line_none, line_place, line_left}
use Rattle.grasp_text.proofs.message.message_of.Goals as goal

pub overflow_sub-at : goal.overflow_sub-at
overflow_sub-at c =
    let e : message_at (words_of c.args.line.now) ≡ Err c.in-Err-Unfit.left = ap message_at (sym c.of-words.ensures) ∙ subst (λ (f : WordFault). Fails f (message_at c.of-words.result)) c.in-Err-Unfit.field-0-is c.in-Err-Unfit.ensures in
    line_left c.args.line.now c.in-Err-Unfit.left e

pub returns-in-Ok-clause-found : goal.returns-in-Ok-clause-found
returns-in-Ok-clause-found c = line_only c.args.line.now c.in-Ok.message c.read_message.new.words (ap message_at (sym c.of-words.ensures) ∙ c.in-Ok.ensures)

pub returns-in-Ok-clause-only : goal.returns-in-Ok-clause-only
returns-in-Ok-clause-only c = line_same c.args.line.now c.in-Ok.message c.read_message.new.words (ap message_at (sym c.of-words.ensures) ∙ c.in-Ok.ensures)

pub returns-in-Err-Unfit-clause-none : goal.returns-in-Err-Unfit-clause-none
returns-in-Err-Unfit-clause-none c =
    let e : message_at (words_of c.args.line.now) ≡ Err c.in-Err-Unfit.left = ap message_at (sym c.of-words.ensures) ∙ subst (λ (f : WordFault). Fails f (message_at c.of-words.result)) c.in-Err-Unfit.field-0-is c.in-Err-Unfit.ensures in
    line_none c.args.line.now c.in-Err-Unfit.left e

pub returns-in-Err-Unfit-clause-place : goal.returns-in-Err-Unfit-clause-place
returns-in-Err-Unfit-clause-place c =
    let e : message_at (words_of c.args.line.now) ≡ Err c.in-Err-Unfit.left = ap message_at (sym c.of-words.ensures) ∙ subst (λ (f : WordFault). Fails f (message_at c.of-words.result)) c.in-Err-Unfit.field-0-is c.in-Err-Unfit.ensures in
    line_place c.args.line.now c.in-Err-Unfit.left e
