use Rattle.std.proofs.Common.{Some, ap, ◌∙◌}
use Rattle.grasp_text.specs.Reading.{word_at, maybe_of, value_of}
use Rattle.grasp_text.proofs.Readers.{optional_values_taken}
use Rattle.grasp_text.proofs.words.Words.optional_value.Goals as goal

pub returns-in-Some : goal.returns-in-Some
returns-in-Some c =
    let found = rw c.in-Some.is at c.in_ok-value.ensures.found in
    let valid = rw c.in-Some.is at c.in_ok-value.ensures.valid in
    ap (word_at (maybe_of value_of)) found ∙ optional_values_taken.found (Some c.in-Some.value) c.front_value.new.self valid
