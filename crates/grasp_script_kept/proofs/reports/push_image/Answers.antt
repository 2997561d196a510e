use Rattle.std.proofs.Common.{◌∷◌, string_bytes}
use Rattle.std.specs.Prelude.{codes}
use Rattle.grasp_cbor.proofs.Facts.Options.{on_ok}
use Rattle.grasp_text.proofs.Pushed.{some_pushed}
use Rattle.grasp_script.specs.Answers.{prefix_words}
use Rattle.grasp_script_kept.proofs.reports.push_image.Goals as goal

pub returns-clause-text : goal.returns-clause-text
returns-clause-text c = on_ok c.push_doubt.result c.push_doubt.ensures.text (λ e.
    some_pushed (string_bytes c.args.out.now) (string_bytes c.push_held.new.out) (string_bytes c.push_doubt.new.out) (codes "held" ∷ prefix_words c.args.image.now.free)
    (codes "doubt" ∷ prefix_words c.args.image.now.doubtful) c.in_ok-push_held.ensures.text e)
