use Rattle.std.proofs.Common.{[], ◌∷◌, codes, decimal}
use Rattle.grasp_text.proofs.Pushed.{some_pushed}
use Rattle.grasp_script_draws.proofs.LinesWritten.{line_pushed}
use Rattle.grasp_script_draws.proofs.rounds.push_cut.Goals as goal

pub returns : goal.returns
returns c = line_pushed _ _ _ _ (codes "cut") (decimal c.args.stream ∷ codes "far" ∷ []) c.in_ok-push_str.ensures.bytes
    (some_pushed _ _ _ (decimal c.args.stream ∷ []) (codes "far" ∷ []) c.in_ok-push_number.ensures.text c.in_ok-push_word.ensures.text)
    c.in_ok-push_str-2.ensures.bytes
