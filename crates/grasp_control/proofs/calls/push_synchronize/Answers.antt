use Rattle.std.proofs.Common.{[], ◌∷◌}
use Rattle.std.specs.Prelude.{codes, decimal}
use Rattle.grasp_text.specs.Line.{text_word, locator_words}
use Rattle.grasp_control.proofs.Pushed.{some_later}
use Rattle.grasp_control.proofs.calls.push_synchronize.Goals as goal

pub returns-clause-text : goal.returns-clause-text
returns-clause-text c =
    some_later c.push_locator.result _ _ _ (codes "synchronize" ∷ text_word c.args.name.now ∷ decimal c.args.loops ∷ decimal c.args.timeout ∷ [])
    (locator_words c.args.peer.now) c.in_ok-push_limited.ensures.text c.push_locator.ensures.text
