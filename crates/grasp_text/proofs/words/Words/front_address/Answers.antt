use Rattle.std.proofs.Common.{rules, ◌≡◌}
use Rattle.grasp_text.specs.Words.{words_of}
use Rattle.grasp_text.proofs.Fronts.{v4_digits, v4_no_blank, v6_digits, v6_no_blank}
use Rattle.grasp_text.proofs.words.Words.front_address.Goals as goal

pub behind_word-requires-clause-whole : goal.behind_word-requires-clause-whole
behind_word-requires-clause-whole c = v6_no_blank _ c.in-Some.n c.in-Some.ensures

pub returns-in-Some-clause-found : goal.returns-in-Some-clause-found
returns-in-Some-clause-found c =
    let line : c.args.self.now ≡ words_of c.in_ok-rest.rest.now = search rules in
    let is = v6_digits _ c.in-Some.n c.in-Some.ensures in
    cc c.in_ok-self-inside.ensures

pub behind_word-requires-in-Some-v4_address-clause-whole : goal.behind_word-requires-in-Some-v4_address-clause-whole
behind_word-requires-in-Some-v4_address-clause-whole c = v4_no_blank _ c.in-Some-v4_address.n c.in-Some-v4_address.ensures

pub returns-in-Some-v4_address-clause-found : goal.returns-in-Some-v4_address-clause-found
returns-in-Some-v4_address-clause-found c =
    let line : c.args.self.now ≡ words_of c.in_ok-rest.rest.now = search rules in
    let is = v4_digits _ c.in-Some-v4_address.n c.in-Some-v4_address.ensures in
    cc c.in_ok-self-inside-2.ensures
