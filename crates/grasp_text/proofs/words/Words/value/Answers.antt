use Rattle.std.proofs.Common.{ap, ◌∙◌}
use Rattle.grasp_text.specs.Reading.{word_at, value_of}
use Rattle.grasp_text.proofs.Readers.{values_taken}
use Rattle.grasp_text.proofs.words.Words.value.Goals as goal

pub returns-in-Some-clause-value : goal.returns-in-Some-clause-value
returns-in-Some-clause-value c =
    let found = rw c.in-Some.is at c.in_ok-value.ensures.found in
    let valid = rw c.in-Some.is at c.in_ok-value.ensures.valid in
    ap (word_at value_of) found ∙ values_taken.found c.in-Some.value c.front_value.new.self valid
