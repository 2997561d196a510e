use Rattle.std.proofs.Common.{ap, ◌∙◌}
use Rattle.grasp_text.specs.Reading.{word_at, address_of}
use Rattle.grasp_text.proofs.Readers.{addresses_taken}
use Rattle.grasp_text.proofs.words.Words.address.Goals as goal

pub returns-in-Some-clause-value : goal.returns-in-Some-clause-value
returns-in-Some-clause-value c =
    ap (word_at address_of) c.in-Some.ensures.found ∙ addresses_taken.found c.in-Some.address c.front_address.new.self c.in-Some.ensures.valid
