use Rattle.std.proofs.Common.{rules, ◌≡◌, ◌*◌, take, sym, subst}
use Rattle.grasp_text.specs.Words.{HasNoBlank, words_of}
use Rattle.grasp_text.proofs.DigitWords.{bytes_taken}
use Rattle.grasp_text.proofs.Fronts.{value_no_blank, value_front}
use Rattle.grasp_text.proofs.ValueWords.{value_of_digits}
use Rattle.grasp_text.proofs.words.Words.front_value.Goals as goal

pub behind_word-requires-clause-whole : goal.behind_word-requires-clause-whole
behind_word-requires-clause-whole c =
    let read = c.front_bytes-count in
    let front = value_front c.in-Some.rest.now c.in-Some-behind.digits.now (take read.result read.new.out) (2 * read.result) c.in-Some-behind.ensures read.ensures.digits in
    subst HasNoBlank (sym front) (value_no_blank _ (bytes_taken read.result read.new.out read.ensures.fits))

pub returns-clause-found : goal.returns-clause-found
returns-clause-found c =
    let read = c.front_bytes-count in
    let line : c.args.self.now ≡ words_of c.in-Some.rest.now = search rules in
    let front = value_front c.in-Some.rest.now c.in-Some-behind.digits.now (take read.result read.new.out) (2 * read.result) c.in-Some-behind.ensures read.ensures.digits in
    let value = value_of_digits (take read.result read.new.out) c.in-Some-2.value (bytes_taken read.result read.new.out read.ensures.fits) (rw c.in-Some-2.is at c.in_ok-value.ensures) in
    let word = value.spelled in
    cc c.in-Some-behind_word.ensures

pub returns-clause-valid : goal.returns-clause-valid
returns-clause-valid c =
    let read = c.front_bytes-count in
    let value = value_of_digits (take read.result read.new.out) c.in-Some-2.value (bytes_taken read.result read.new.out read.ensures.fits) (rw c.in-Some-2.is at c.in_ok-value.ensures) in
    value.value
