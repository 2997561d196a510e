use Rattle.std.proofs.Common.{refl, sym, subst}
use Rattle.grasp_text.specs.Words.{HasNoBlank}
use Rattle.grasp_text.proofs.Fronts.{plain_no_blank, text_front}
use Rattle.grasp_text.proofs.words.Words.front_text.Goals as goal

pub behind_word-requires-clause-whole : goal.behind_word-requires-clause-whole
behind_word-requires-clause-whole c =
    subst HasNoBlank (sym (text_front c.in_ok-rest.rest.now c.in_ok-text.text.now c.front_plain-end.result c.in_ok-text.ensures)) (refl, plain_no_blank _ c.front_plain-end.ensures.plain)
