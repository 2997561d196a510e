use Rattle.std.proofs.Common.{arith}
use Rattle.grasp_text.proofs.Fronts.{last_word, word_front}
use Rattle.grasp_text.proofs.words.behind_word.Goals as goal

pub returns-then-end-rest : goal.returns-then-end-rest
returns-then-end-rest c = last_word c.args.rest.now c.args.end c.if-end-rest.true c.requires.whole

pub returns-then-rest-end-eq32 : goal.returns-then-rest-end-eq32
returns-then-rest-end-eq32 c = word_front c.args.rest.now c.args.end (omega arith) c.if-rest-end-eq32.true c.requires.whole
