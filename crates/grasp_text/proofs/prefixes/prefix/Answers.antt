use Rattle.std.proofs.Common.{sym}
use Rattle.grasp_text.proofs.PrefixWords.{none_by_word, prefix_found, prefix_none}
use Rattle.grasp_text.proofs.prefixes.prefix.Goals as goal

pub returns-in-Some-clause-found : goal.returns-in-Some-clause-found
returns-in-Some-clause-found c = prefix_found c.args.word.now c.in-Some.address c.in-Some.length c.of.result (sym c.in-Some.ensures) c.of.ensures.some

pub returns-in-Some-clause-none : goal.returns-in-Some-clause-none
returns-in-Some-clause-none c = prefix_none c.args.word.now c.in-Some.address c.in-Some.length c.of.result (sym c.in-Some.ensures) c.of.ensures.none

pub returns-in-None-clause-none : goal.returns-in-None-clause-none
returns-in-None-clause-none c = none_by_word c.args.word.now (sym c.in-None.ensures)
