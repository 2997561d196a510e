use Rattle.std.proofs.Common.{ap, ◌∙◌, arith}
use Rattle.grasp_text.specs.Reading.{word_at, number_of}
use Rattle.grasp_text.proofs.Readers.{numbers_taken}
use Rattle.grasp_text.proofs.words.Words.number.Goals as goal

pub returns-in-Some-clause-value : goal.returns-in-Some-clause-value
returns-in-Some-clause-value c =
    ap (word_at (number_of c.args.most)) c.in-Some.ensures.found ∙ (numbers_taken c.args.most (omega arith)).found c.in-Some.n c.front_number.new.self c.in-Some.ensures.within
