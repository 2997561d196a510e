use Rattle.std.proofs.Common.{◌≡◌, sym, ap, subst, ◌∙◌}
use Rattle.std.specs.Str.{IsUtf8}
use Rattle.grasp_text.specs.Reading.{word_at, text_of}
use Rattle.grasp_text.proofs.Fronts.{plain_utf8, plain_word}
use Rattle.grasp_text.proofs.Readers.{texts_taken}
use Rattle.grasp_text.proofs.words.Words.text.Goals as goal

pub unreachable-requires : goal.unreachable-requires
unreachable-requires c = (rw c.in-None.is at c.in_ok-text.ensures.none) (plain_utf8 c.in-Some.plain.now c.in-Some.ensures.plain)

pub returns-clause-found : goal.returns-clause-found
returns-clause-found c =
    let is : c.in-Some-2.text ≡ c.in-Some.plain.now = rw c.in-Some-2.is at c.in_ok-text.ensures.text in
    let word = plain_word c.in-Some.plain.now c.in-Some.ensures.plain in
    cc c.in-Some.ensures.word

pub returns-clause-value : goal.returns-clause-value
returns-clause-value c =
    let is : c.in-Some-2.text ≡ c.in-Some.plain.now = rw c.in-Some-2.is at c.in_ok-text.ensures.text in
    ap (word_at text_of) (returns-clause-found c) ∙ texts_taken.found c.in-Some-2.text c.front_text.new.self (subst IsUtf8 (sym is) (plain_utf8 c.in-Some.plain.now c.in-Some.ensures.plain))
