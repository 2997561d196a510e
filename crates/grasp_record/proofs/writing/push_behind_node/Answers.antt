use Rattle.std.proofs.Common.{[], ◌∷◌, ◌++◌, string_bytes}
use Rattle.std.specs.Prelude.{codes, decimal}
use Rattle.grasp_cbor.proofs.Facts.Options.{on_ok}
use Rattle.grasp_text.proofs.Pushed.{some_pushed}
use Rattle.grasp_record.specs.Answers.{told_words}
use Rattle.grasp_record.specs.Inputs.{input_words}
use Rattle.grasp_record.proofs.writing.push_behind_node.Goals as goal

pub returns-clause-text : goal.returns-clause-text
returns-clause-text c = on_ok c.push_told.result c.push_told.ensures.text (λ e.
    let took = input_words c.args.input.now in
    let told = codes "=" ∷ told_words c.args.answer.now in
    let new = string_bytes c.push_told.new.out in
    let signed = some_pushed (string_bytes c.push_input.new.out) (string_bytes c.push_word.new.out) new (codes "=" ∷ []) (told_words c.args.answer.now) c.in_ok-push_word.ensures.text e in
    let behind = some_pushed (string_bytes c.push_number.new.out) (string_bytes c.push_input.new.out) new took told c.in_ok-push_input.ensures.text signed in
    some_pushed (string_bytes c.args.out.now) (string_bytes c.push_number.new.out) new (decimal c.args.now ∷ []) (took ++ told) c.in_ok-push_number.ensures.text behind)
