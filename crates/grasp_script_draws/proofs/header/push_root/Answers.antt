use Rattle.std.proofs.Common.{[], ◌∷◌, codes, decimal}
use Rattle.grasp_text.proofs.Pushed.{some_pushed}
use Rattle.grasp_text.specs.Line.{prefix_word}
use Rattle.grasp_script_draws.specs.Generator.{root_of}
use Rattle.grasp_script_draws.proofs.LinesWritten.{line_pushed}
use Rattle.grasp_script_draws.proofs.header.push_root.Goals as goal

pub returns : goal.returns
returns c = line_pushed _ _ _ _ (codes "root") (decimal c.args.node ∷ prefix_word (root_of c.args.node) ∷ []) c.in_ok-push_str.ensures.bytes
    (some_pushed _ _ _ (decimal c.args.node ∷ []) (prefix_word (root_of c.args.node) ∷ []) c.in_ok-push_number.ensures.text (rw c.root_of.ensures at c.in_ok-push_prefix.ensures.text))
    c.in_ok-push_str-2.ensures.bytes
